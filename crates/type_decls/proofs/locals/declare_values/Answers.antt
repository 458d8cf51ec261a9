use Rattle.std.proofs.Common.{◌≡◌, ℕ, ◌+◌, ◌-◌, ◌++◌, drop, map, refl, subst, arith}
use Rattle.orca_syntax.specs.Syntax.{TypedName}
use Rattle.orca_syntax.specs.Shown.{typed_name}
use Rattle.type_rules.specs.declared.names.LocalRole.TheVariants.{ValueParameter}
use Rattle.type_rules.specs.TypePhrases.{data_found}
use Rattle.type_rules.specs.Scopes.{value_local}
use Rattle.type_rules.specs.Declarations.{values_breaches}
use Rattle.type_forms.specs.Finding.{FirstOf}
use Rattle.type_decls.specs.Bodies.{AreLocals}
use Rattle.type_decls.proofs.InFront.{more_in_front, put_as, same_local}
use Rattle.type_decls.proofs.FirstOnes.{shown_in_front}
use Rattle.type_decls.proofs.locals.declare_values.Goals as goal

pub values-preserved : goal.values-preserved
values-preserved c =
    let i = c.values.left - 1 in
    let x = c.index-values-left.result in
    let next : c.values.left ≡ i + 1 = let t = c.values-test.true in omega (arith, t) in
    let le = c.values.invariant.0 in (
      (let t = c.values-test.true in omega (arith, t, le)),
      (λ us t w v. shown_in_front typed_name (λ (p : TypedName). (data_found w p.kind).breaches) c.args.values.now i x c.in_ok-found.found.first c.values.first
          c.lesser-first.result (let t = c.values-test.true in omega (arith, t, le)) c.index-values-left.is c.lesser-first.ensures ((c.in_ok-found.ensures {u = tt}) us t w v).first
          (subst (λ (k : ℕ). FirstOf c.values.first (values_breaches w (map typed_name (drop k c.args.values.now)))) next (c.values.invariant.1 us t w v))),
      (λ us t w v ls h. more_in_front typed_name (value_local w) c.args.values.now i x c.put.new.locals ls (let t = c.values-test.true in omega (arith, t, le)) c.index-values-left.is
          (put_as c.values.locals c.put.new.locals c.as_str.result.now (record { role = ValueParameter; kind = c.type_of-kind.result }) (value_local w (typed_name x)) _ (c.in_ok-put.ensures {u = tt})
          (same_local _ _ _ _ _ _ c.as_str.ensures refl (c.type_of-kind.ensures (data_found w (typed_name x).kind) ((c.in_ok-found.ensures {u = tt}) us t w v)))
          (subst (λ (k : ℕ). AreLocals c.values.locals (map (value_local w) (map typed_name (drop k c.args.values.now)) ++ ls)) next (c.values.invariant.2 us t w v ls h)))),
    )
