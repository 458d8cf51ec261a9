use Rattle.std.proofs.Common.{◌≡◌, take}
use Rattle.guard_queue.specs.Shown.{written_objects}
use Rattle.guard_queue.proofs.objects.writes_copy.Given as goal

abbrev pub invariant-loop-write : goal.invariant-loop-write
invariant-loop-write l = written_objects l.all.items ≡ written_objects (take l.write-index l.recent)
