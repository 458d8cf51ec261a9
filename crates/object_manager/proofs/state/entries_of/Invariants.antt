use Rattle.std.proofs.Common.{◌≡◌, take}
use Rattle.object_manager.specs.State.{objects_of}
use Rattle.object_manager.proofs.state.entries_of.Given as goal

abbrev pub invariant-loop-object : goal.invariant-loop-object
invariant-loop-object l = objects_of l.all.items ≡ take l.object-index l.objects
