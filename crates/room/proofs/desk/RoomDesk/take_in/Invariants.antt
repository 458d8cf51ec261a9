use Rattle.room.proofs.desk.RoomDesk.take_in.Given as goal

-- nothing is said of the run between events: it is a replay
abbrev pub invariant-events : goal.invariant-events
invariant-events g l = Unit {0}
