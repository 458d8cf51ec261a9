use Rattle.std.proofs.Common.{◌≡◌, ◌+◌, ◌++◌, length}
use Rattle.std.specs.Vec.Iter.{into_iter_items}
use Rattle.world_core.specs.Drafting.{lines_behind}
use Rattle.world_parts.specs.Recorded.{of_pieces}
use Rattle.world_core.proofs.draft.keep_lines.Given as goal

abbrev pub invariant-entries : goal.invariant-entries
invariant-entries l =
    (of_pieces l.pieces.items ++ lines_behind l.known l.place (into_iter_items l.lines-iterator) ≡ of_pieces l.fn.pieces.items ++ lines_behind l.known l.applied l.fn.all.items)
    × (l.place + length (into_iter_items l.lines-iterator) ≡ l.applied + length l.fn.all.items)
