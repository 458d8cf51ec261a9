use Rattle.std.proofs.Common.{◌≡◌, take}
use Rattle.guard_queue.specs.Waits.{called}
use Rattle.guard_queue.proofs.queue.Queue.copy.Given as goal

abbrev pub invariant-loop-call : goal.invariant-loop-call
invariant-loop-call l = called l.calls.items ≡ called (take l.call-index l.call-items)
