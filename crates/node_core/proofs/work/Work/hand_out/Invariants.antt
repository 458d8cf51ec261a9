use Rattle.std.proofs.Common.{take}
use Rattle.world_rules.specs.Applying.{answers}
use Rattle.node_core.specs.Pieces.{BecomesIn}
use Rattle.node_core.specs.Keeping.{KeepsTasks}
use Rattle.node_core.proofs.work.Work.hand_out.Given as goal

abbrev pub invariant-lines : goal.invariant-lines
invariant-lines g l =
    BecomesIn g.P.OneRun.stood g.P.OneRun.left g.P.OneRun.run.frame l.initial.self l.self (λ m. answers l.place (take l.line-index l.lines))
    × KeepsTasks l.initial.self.node l.self.node
