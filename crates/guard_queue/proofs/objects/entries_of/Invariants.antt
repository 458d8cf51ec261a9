use Rattle.std.proofs.Common.{◌≡◌, ◌++◌}
use Rattle.guard_queue.specs.Shown.{shown_objects}
use Rattle.guard_queue.proofs.objects.entries_of.Given as goal

-- what was copied, and what is left, are the map's
abbrev pub invariant-loop-object : goal.invariant-loop-object
invariant-loop-object l = l.all.items ++ shown_objects l.object-iterator ≡ shown_objects l.map.entries
