use Rattle.std.proofs.Common.{◌≡◌, ◌++◌}
use Rattle.std.specs.Vec.Iter.{into_iter_items}
use Rattle.guard_queue.specs.Settles.{lines_of}
use Rattle.node_core.proofs.applying.plain_lines.Given as goal

-- with those that are left it is the whole
abbrev pub invariant-lines : goal.invariant-lines
invariant-lines l = l.lines.items ++ lines_of (into_iter_items l.one-iterator) ≡ lines_of l.fn.answered.items
