use Rattle.std.proofs.Common.{◌∙◌, ◌-◌, ap, ltb, ℕ}
use Rattle.world_core.proofs.events.may_swap.Goals as goal

pub returns : goal.returns
returns g c w is =
    ap (λ (n : ℕ). ltb n c.saturating_sub.result) is.swaps ∙ ap (ltb w.swaps) (c.saturating_sub.ensures ∙ ap (λ (n : ℕ). n - 1) c.requires.numbers.wires)
