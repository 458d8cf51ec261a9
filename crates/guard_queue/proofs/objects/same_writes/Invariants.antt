use Rattle.std.proofs.Common.{◌≡◌, drop}
use Rattle.guard_queue.specs.Shown.{written_objects}
use Rattle.guard_queue.proofs.objects.same_writes.Given as goal

-- where those that are left are the same, all are
abbrev pub invariant-loop-i : goal.invariant-loop-i
invariant-loop-i l = written_objects (drop l.i l.one) ≡ written_objects (drop l.i l.other) → written_objects l.one ≡ written_objects l.other
