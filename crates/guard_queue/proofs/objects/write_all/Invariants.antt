use Rattle.std.proofs.Common.{◌≡◌, ◌≤◌, length}
use Rattle.guard_queue.specs.Shown.{shown}
use Rattle.guard_queue.proofs.objects.write_all.Given as goal

abbrev pub invariant-writes : goal.invariant-writes
invariant-writes l = (shown l.map l.recent.items ≡ shown l.initial.map l.initial.recent.items) × (length l.recent.items ≤ length l.initial.recent.items)

abbrev pub decreases-writes : goal.decreases-writes
decreases-writes l = length l.recent.items
