use Rattle.world_rules.specs.Parts.{asks_below}
use Rattle.node_core.specs.Pieces.{Becomes}
use Rattle.node_core.specs.Keeping.{KeepsTasks}
use Rattle.node_core.proofs.work.Work.ask_again.Given as goal

abbrev pub invariant-processes : goal.invariant-processes
invariant-processes g l =
    Becomes g.P.OneRun.stood g.P.OneRun.left l.initial.self l.self (λ f m. asks_below f m l.process)
    × KeepsTasks l.initial.self.node l.self.node
