use Rattle.std.proofs.Common.{◌≡◌, ℕ, ◌+◌, ◌-◌, Bool, ◌&&◌, drop, map, sym, ap, ◌∙◌, arith}
use Rattle.orca_syntax.specs.Shown.{typed_name}
use Rattle.type_rules.specs.Declarations.{same_parameters}
use Rattle.type_decls.proofs.Rows.{parameter_more, parameters_apart}
use Rattle.type_decls.proofs.heads.same_parameters.Goals as goal

pub returns-then-one-other : goal.returns-then-one-other
returns-then-one-other c = λ us t v w is js.
    sym (parameters_apart v w c.args.one.now c.args.other.now (λ e. let t = c.if-one-other.true in omega (arith, e, t)))

pub parameters-preserved : goal.parameters-preserved
parameters-preserved c =
    let i = c.parameters.left - 1 in
    let test = c.parameters-test.true in
    let le = c.parameters.invariant.0 in
    let long = c.parameters.invariant.1 in (
      omega (arith, test, le),
      long,
      (λ us t v w is js.
          let rest = same_parameters v w (map typed_name (drop (i + 1) c.args.one.now)) (map typed_name (drop (i + 1) c.args.other.now)) in
          c.if-own.false
          ∙ sym (parameter_more v w c.args.one.now c.args.other.now i c.index-one-left.result c.index-other-left.result (omega (arith, test, le))
          (omega (arith, test, le, long)) c.index-one-left.is c.index-other-left.is
          ∙ ap (λ (b : Bool). b && rest) (sym ((c.in_ok-own.ensures {u = tt}) us t v w is js) ∙ c.if-own.false))),
    )

pub parameters-preserved-then-own : goal.parameters-preserved-then-own
parameters-preserved-then-own c =
    let i = c.parameters.left - 1 in
    let test = c.parameters-test.true in
    let le = c.parameters.invariant.0 in
    let long = c.parameters.invariant.1 in
    let next : c.parameters.left ≡ i + 1 = omega (arith, test) in (
      omega (arith, test, le),
      long,
      (λ us t v w is js.
          let rest = same_parameters v w (map typed_name (drop (i + 1) c.args.one.now)) (map typed_name (drop (i + 1) c.args.other.now)) in
          c.parameters.invariant.2 us t v w is js
          ∙ ap (λ (k : ℕ). same_parameters v w (map typed_name (drop k c.args.one.now)) (map typed_name (drop k c.args.other.now))) next
          ∙ sym (parameter_more v w c.args.one.now c.args.other.now i c.index-one-left.result c.index-other-left.result (omega (arith, test, le))
          (omega (arith, test, le, long)) c.index-one-left.is c.index-other-left.is
          ∙ ap (λ (b : Bool). b && rest) (sym ((c.in_ok-own.ensures {u = tt}) us t v w is js) ∙ c.if-own.true))),
    )
