use Rattle.std.proofs.Common.{◌≡◌}
use Rattle.std.specs.Vec.Iter.{into_iter_items}
use Rattle.guard_queue.specs.Shown.{with_all}
use Rattle.object_manager.proofs.copies.with_entries.Given as goal

-- with those that are left put in, it is the whole
abbrev pub invariant-loop-object : goal.invariant-loop-object
invariant-loop-object l = with_all l.all (into_iter_items l.object-iterator) ≡ with_all l.fn.objects l.fn.entries.items
