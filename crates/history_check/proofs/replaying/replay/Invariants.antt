use Rattle.std.proofs.Common.{take}
use Rattle.history_check.specs.Players.{Follows}
use Rattle.history_check.proofs.replaying.replay.Given as goal

-- the lines so far are a history, and what is kept stands for what is behind them
abbrev pub invariant-lines : goal.invariant-lines
invariant-lines g l =
    Follows (g.P.Performer.performs l.program) (g.P.Processor.computes l.program) (g.P.Processor.stands l.program) l.replayed (take l.at l.lines)
