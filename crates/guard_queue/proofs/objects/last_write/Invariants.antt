use Rattle.std.proofs.Common.{◌≡◌, ◌≤◌, drop, length, None}
use Rattle.guard_queue.specs.Shown.{written_at, written_objects}
use Rattle.guard_queue.proofs.objects.last_write.Given as goal

-- none of the writes from here on is to the object
abbrev pub invariant-writes : goal.invariant-writes
invariant-writes l = (written_at (written_objects (drop l.left l.recent)) l.object ≡ None) × (l.left ≤ length l.recent)

abbrev pub decreases-writes : goal.decreases-writes
decreases-writes l = l.left
