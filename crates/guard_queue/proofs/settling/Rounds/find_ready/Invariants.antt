use Rattle.std.proofs.Common.{◌≡◌, drop}
use Rattle.std.specs.List.{position_from}
use Rattle.guard_queue.specs.Settles.{is_ready, next_ready}
use Rattle.guard_queue.proofs.settling.Rounds.find_ready.Given as goal

-- none of the calls so far is ready
abbrev pub invariant-loop-at : goal.invariant-loop-at
invariant-loop-at g l =
    let p = g.P.Performer.performs l.performer in
    next_ready p l.self.objects l.self.queue ≡ position_from (is_ready p l.self.objects) l.at (drop l.at l.self.queue)
