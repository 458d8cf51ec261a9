use Rattle.std.proofs.Common.{◌≡◌, ◌∙◌, sym, ap, inl, inr, arith}
use Rattle.std.proofs.lemmas.Bool.{cases_lt}
use Rattle.type_cycles.specs.Components.{right_at}
use Rattle.type_cycles.proofs.components.are_right.Goals as goal

pub numbers-preserved : goal.numbers-preserved
numbers-preserved c i less =
    elim (cases_lt i c.numbers.number) [
      | inl lt ↦ c.numbers.invariant i lt
      | inr le ↦
          let same : c.numbers.number ≡ i = omega (arith, less, le) in
          ap (right_at c.args.parts.now c.args.members.now) (sym same) ∙ sym c.is_right_at.ensures ∙ c.if-not-is_right_at.false
    ]
