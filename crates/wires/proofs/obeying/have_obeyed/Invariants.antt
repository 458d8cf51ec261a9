use Rattle.std.proofs.Common.{ℕ, ◌<◌, slice_index_or}
use Rattle.wires.specs.Wired.{HasObeyed}
use Rattle.wires.proofs.obeying.have_obeyed.Given as goal

-- the wires so far answered by their rules
abbrev pub invariant-wires : goal.invariant-wires
invariant-wires g l =
    (k : ℕ) (d : g.row.W.Denot) → k < l.wire-index →
    HasObeyed (g.W.Wire.rule (slice_index_or l.wires k d)) (g.W.Wire.loaded (slice_index_or l.wires k d)) (g.W.Wire.told (slice_index_or l.wires k d))
