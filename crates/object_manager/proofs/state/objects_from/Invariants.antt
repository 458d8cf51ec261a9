use Rattle.std.proofs.Common.{◌≡◌, take}
use Rattle.object_manager.specs.State.{objects_of}
use Rattle.object_manager.proofs.state.objects_from.Given as goal

abbrev pub invariant-loop-entry : goal.invariant-loop-entry
invariant-loop-entry l = l.objects ≡ objects_of (take l.entry-index l.entries)
