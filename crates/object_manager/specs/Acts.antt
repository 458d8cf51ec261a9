-- What a message does of itself, as a change with its lines.
use Rattle.std.specs.Prelude.{List, Vec}
use Rattle.std.specs.declared.alloc.Global.{Global}
use Rattle.value_core.specs.History.{Objects}
use Rattle.guard_queue.specs.declared.queue.Suspended.{Suspended}
use Rattle.guard_queue.specs.declared.change.Change.{Change}
use Rattle.guard_queue.specs.declared.settling.Answered.{Answered}
use Rattle.guard_queue.specs.Changes.{objects_changed, queue_changed}
use Rattle.guard_queue.specs.Settles.{Settling, lines_of}

-- the objects and the queue after a change, and its lines
abbrev pub acts : Objects → List Suspended → Change → Vec Answered Global → Settling
acts objects queue change lines = record {
  objects = objects_changed objects change;
  queue = queue_changed queue change;
  lines = lines_of lines.items;
}
