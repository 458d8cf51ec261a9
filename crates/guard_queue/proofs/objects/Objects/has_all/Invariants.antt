use Rattle.std.proofs.Common.{◌≡◌, drop}
use Rattle.value_core.specs.History.{object_at}
use Rattle.guard_queue.specs.Shown.{shown_objects, written_objects}
use Rattle.guard_queue.proofs.Writes.{AllIds}
use Rattle.guard_queue.proofs.objects.Objects.has_all.Given as goal

-- where those that are left are the same, all are
abbrev pub invariant-loop-object : goal.invariant-loop-object
invariant-loop-object l =
    AllIds (λ id. object_at l.self id ≡ object_at l.other id) (shown_objects l.object-iterator)
    → AllIds (λ id. object_at l.self id ≡ object_at l.other id) (shown_objects l.initial.object-iterator)

abbrev pub invariant-loop-write : goal.invariant-loop-write
invariant-loop-write l =
    AllIds (λ id. object_at l.self id ≡ object_at l.other id) (written_objects (drop l.write-index l.write-items))
    → AllIds (λ id. object_at l.self id ≡ object_at l.other id) (written_objects l.write-items)
