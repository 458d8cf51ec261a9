use Rattle.std.proofs.Common.{◌≡◌, ℕ, ◌+◌, ◌-◌, ◌++◌, drop, map, subst, arith}
use Rattle.orca_syntax.specs.Syntax.{Parameter}
use Rattle.orca_syntax.specs.Shown.{parameter}
use Rattle.type_rules.specs.Scopes.{parameter_found, parameter_local}
use Rattle.type_rules.specs.Declarations.{parameters_breaches}
use Rattle.type_forms.specs.Finding.{FirstOf}
use Rattle.type_decls.specs.Bodies.{AreLocals}
use Rattle.type_decls.proofs.InFront.{more_in_front, put_as, same_local}
use Rattle.type_decls.proofs.FirstOnes.{shown_in_front}
use Rattle.type_decls.proofs.locals.declare_parameters.Goals as goal

pub parameters-preserved : goal.parameters-preserved
parameters-preserved c =
    let i = c.parameters.left - 1 in
    let x = c.index-parameters-left.result in
    let next : c.parameters.left ≡ i + 1 = let t = c.parameters-test.true in omega (arith, t) in
    let le = c.parameters.invariant.0 in (
      (let t = c.parameters-test.true in omega (arith, t, le)),
      (λ us t w v. shown_in_front parameter (λ (p : Parameter). (parameter_found w p.mode p.kind).breaches) c.args.parameters.now i x c.in_ok-found.found.first c.parameters.first
          c.lesser-first.result (let t = c.parameters-test.true in omega (arith, t, le)) c.index-parameters-left.is c.lesser-first.ensures ((c.in_ok-found.ensures {u = tt}) us t w v).first
          (subst (λ (k : ℕ). FirstOf c.parameters.first (parameters_breaches w (map parameter (drop k c.args.parameters.now)))) next (c.parameters.invariant.1 us t w v))),
      (λ us t w v ls h. more_in_front parameter (parameter_local w) c.args.parameters.now i x c.put.new.locals ls (let t = c.parameters-test.true in omega (arith, t, le)) c.index-parameters-left.is
          (put_as c.parameters.locals c.put.new.locals c.as_str.result.now (record { role = c.role_of-role.result; kind = c.type_of-kind.result }) (parameter_local w (parameter x)) _ (c.in_ok-put.ensures {u = tt})
          (same_local _ _ _ _ _ _ c.as_str.ensures c.role_of-role.ensures (c.type_of-kind.ensures (parameter_found w (parameter x).mode (parameter x).kind) ((c.in_ok-found.ensures {u = tt}) us t w v)))
          (subst (λ (k : ℕ). AreLocals c.parameters.locals (map (parameter_local w) (map parameter (drop k c.args.parameters.now)) ++ ls)) next (c.parameters.invariant.2 us t w v ls h)))),
    )
