use Rattle.std.specs.Arc.{arc_value}
use Rattle.guard_queue.proofs.Shared.{clone_shown}
use Rattle.guard_queue.proofs.objects.entries_copy.Goals as goal

pub returns : goal.returns
returns c = clone_shown arc_value c.args.map.now.entries c.in_ok-clone.field-0.entries (c.in_ok-clone.ensures {u = tt}).cases
