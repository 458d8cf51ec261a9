use Rattle.std.proofs.Common.{◌≡◌, ◌≤◌, ◌<◌, ◌+◌, ◌^◌, length}
use Rattle.std.specs.List.{AllByRecursion as Each}
use Rattle.std.specs.Prelude.{vec_capacity}
use Rattle.std.specs.Vec.Iter.{into_iter_items}
use Rattle.letter_bytes.specs.declared.letters.Outgoing.{Outgoing}
use Rattle.world_core.proofs.SendingAll.{SentTo}
use Rattle.world_core.proofs.step.send_all.Given as goal

abbrev pub invariant-packets : goal.invariant-packets
invariant-packets g l =
    SentTo l.sent l.number l.fn.outgoing.items (into_iter_items l.one-iterator) l.fates.items l.fn.net.flights l.net.flights (g.W.Wire.told l.fn.wire) (g.W.Wire.told l.wire)
    × (length (into_iter_items l.one-iterator) ≤ l.net.spare)
    × (length (into_iter_items l.one-iterator) ≤ g.W.Wire.spare l.wire)
    × (length l.fates.items + length (into_iter_items l.one-iterator) ≤ vec_capacity l.fates)
    × Each (λ (one : Outgoing). one.twin ≡ one.bytes) (into_iter_items l.one-iterator)
    × (l.number + length (into_iter_items l.one-iterator) < 2 ^ 63)
    × (g.W.Wire.rule l.wire ≡ g.W.Wire.rule l.fn.wire)
    × (g.W.Wire.loaded l.wire ≡ g.W.Wire.loaded l.fn.wire)
