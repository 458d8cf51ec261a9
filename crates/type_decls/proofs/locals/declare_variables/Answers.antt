use Rattle.std.proofs.Common.{◌≡◌, ℕ, ◌+◌, ◌-◌, List, ◌++◌, Option, drop, map, subst, arith}
use Rattle.std.specs.Prelude.{flat_map}
use Rattle.orca_tree.specs.declared.tree.Name.{Name}
use Rattle.orca_syntax.specs.Syntax.{Variables}
use Rattle.orca_syntax.specs.Shown.{kind, variables}
use Rattle.type_rules.specs.declared.types.DataType.{DataType}
use Rattle.type_rules.specs.Scopes.{locals_of, type_of}
use Rattle.type_rules.specs.Declarations.{variables_breaches}
use Rattle.type_forms.specs.Finding.{FirstOf}
use Rattle.type_decls.specs.Bodies.{AreLocals, variable_found}
use Rattle.type_decls.proofs.FieldsLast.{named}
use Rattle.type_decls.proofs.InFront.{group_in_front}
use Rattle.type_decls.proofs.FirstOnes.{shown_in_front}
use Rattle.type_decls.proofs.locals.declare_variables.Goals as goal

pub groups-preserved-in_ok-declare : goal.groups-preserved-in_ok-declare
groups-preserved-in_ok-declare c =
    let i = c.groups.left - 1 in
    let x = c.index-groups-left.result in
    let next : c.groups.left ≡ i + 1 = let t = c.groups-test.true in omega (arith, t) in
    let le = c.groups.invariant.0 in (
      (let t = c.groups-test.true in omega (arith, t, le)),
      (λ us t w v. shown_in_front variables (λ (g : Variables). (variable_found c.args.objects w g.kind).breaches) c.args.groups.now i x c.in_ok-found.found.first c.groups.first
          c.lesser-first.result (let t = c.groups-test.true in omega (arith, t, le)) c.index-groups-left.is c.lesser-first.ensures ((c.in_ok-found.ensures {u = tt}) us t w v).first
          (subst (λ (k : ℕ). FirstOf c.groups.first (variables_breaches (variable_found c.args.objects w) (map variables (drop k c.args.groups.now)))) next (c.groups.invariant.1 us t w v))),
      (λ us t w v ls h.
          let f = locals_of c.args.role (variable_found c.args.objects w) in
          let rest = flat_map f (map variables (drop (i + 1) c.args.groups.now)) ++ ls in
          group_in_front variables f c.args.groups.now i x c.declare.new.locals ls (let t = c.groups-test.true in omega (arith, t, le)) c.index-groups-left.is
          (subst (λ (ns : List Name). AreLocals c.declare.new.locals (named c.args.role (type_of (variable_found c.args.objects w (kind x.kind))) ns ++ rest)) c.deref.ensures.value
          (subst (λ (k : Option DataType). AreLocals c.declare.new.locals (named c.args.role k c.deref.result.now ++ rest))
          (c.type_of-kind.ensures (variable_found c.args.objects w (kind x.kind)) ((c.in_ok-found.ensures {u = tt}) us t w v))
          ((c.in_ok-declare.ensures {u = tt}) rest
          (subst (λ (k : ℕ). AreLocals c.groups.locals (flat_map f (map variables (drop k c.args.groups.now)) ++ ls)) next (c.groups.invariant.2 us t w v ls h)))))),
    )

pub groups-preserved : goal.groups-preserved
groups-preserved c =
    let i = c.groups.left - 1 in
    let x = c.index-groups-left.result in
    let next : c.groups.left ≡ i + 1 = let t = c.groups-test.true in omega (arith, t) in
    let le = c.groups.invariant.0 in (
      (let t = c.groups-test.true in omega (arith, t, le)),
      (λ us t w v. shown_in_front variables (λ (g : Variables). (variable_found c.args.objects w g.kind).breaches) c.args.groups.now i x c.in_ok-found.found.first c.groups.first
          c.lesser-first.result (let t = c.groups-test.true in omega (arith, t, le)) c.index-groups-left.is c.lesser-first.ensures ((c.in_ok-found.ensures {u = tt}) us t w v).first
          (subst (λ (k : ℕ). FirstOf c.groups.first (variables_breaches (variable_found c.args.objects w) (map variables (drop k c.args.groups.now)))) next (c.groups.invariant.1 us t w v))),
      (λ us t w v ls h.
          let f = locals_of c.args.role (variable_found c.args.objects w) in
          let rest = flat_map f (map variables (drop (i + 1) c.args.groups.now)) ++ ls in
          group_in_front variables f c.args.groups.now i x c.declare.new.locals ls (let t = c.groups-test.true in omega (arith, t, le)) c.index-groups-left.is
          (subst (λ (ns : List Name). AreLocals c.declare.new.locals (named c.args.role (type_of (variable_found c.args.objects w (kind x.kind))) ns ++ rest)) c.deref.ensures.value
          (subst (λ (k : Option DataType). AreLocals c.declare.new.locals (named c.args.role k c.deref.result.now ++ rest))
          (c.type_of-kind.ensures (variable_found c.args.objects w (kind x.kind)) ((c.in_ok-found.ensures {u = tt}) us t w v))
          ((c.in_ok-declare.ensures {u = tt}) rest
          (subst (λ (k : ℕ). AreLocals c.groups.locals (flat_map f (map variables (drop k c.args.groups.now)) ++ ls)) next (c.groups.invariant.2 us t w v ls h)))))),
    )
