use Rattle.std.proofs.Common.{◌≡◌, ◌-◌, length, map}
use Rattle.run_loop.specs.Asked.{HaveToldOn}
use Rattle.run_loop.specs.Driven.{IsDriven}
use Rattle.run_loop.proofs.stepper.Stepper.drive.Given as goal

-- the run goes on, and wires go on telling and keep their scripts
abbrev pub invariant-events : goal.invariant-events
invariant-events g l =
    IsDriven g.P.OneRun.run.frame l.self.world l.self.in_use g.P.OneRun.run.told (map g.W.Wire.told l.wires)
    × HaveToldOn (map g.W.Wire.told l.fn.wires) (map g.W.Wire.told l.wires)
    × (map g.W.Wire.rule l.wires ≡ map g.W.Wire.rule l.fn.wires)
    × (map g.W.Wire.loaded l.wires ≡ map g.W.Wire.loaded l.fn.wires)

-- events that it may still do
abbrev pub decreases-events : goal.decreases-events
decreases-events g l = g.P.OneRun.run.frame.settings.events - length l.self.world.steps
