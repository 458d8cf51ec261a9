use Rattle.std.proofs.Common.{◌≡◌, ◌⊎◌, inl, inr, ◌<◌, slice_index_or, ap, sym, ◌∙◌, subst, arith}
use Rattle.std.proofs.Math.Nat.{eq-or-lt_of_le}
use Rattle.std.proofs.lemmas.List.{get_or_default}
use Rattle.wires.specs.Wired.{HasObeyed}
use Rattle.wires.proofs.obeying.have_obeyed.Goals as goal

pub wires-init : goal.wires-init
wires-init g c = λ k d low. absurd (omega (arith, low))

pub wires-preserved : goal.wires-preserved
wires-preserved g c = λ k d low. by k d (eq-or-lt_of_le (omega (arith, low)))
  where
    by : (k : _) (d : g.row.W.Denot) → (k ≡ c.wires.wire-index) ⊎ (k < c.wires.wire-index) →
        HasObeyed (g.W.Wire.rule (slice_index_or c.args.wires.now k d)) (g.W.Wire.loaded (slice_index_or c.args.wires.now k d)) (g.W.Wire.told (slice_index_or c.args.wires.now k d))
    by k d (inr less) = c.wires.invariant k d less
    by k d (inl here) =
        subst (λ w. HasObeyed (g.W.Wire.rule w) (g.W.Wire.loaded w) (g.W.Wire.told w))
        (c.wire-item.is ∙ get_or_default c.args.wires.now c.wires.wire-index c.wire-item.result d c.wires-test.true ∙ ap (λ n. slice_index_or c.args.wires.now n d) (sym here))
        c.has_obeyed.ensures

pub returns : goal.returns
returns g c = λ k d low. c.wires.invariant k d (omega (arith, low, c.wires-test.false))
