use Rattle.std.proofs.Common.{◌≡◌, ◌-◌, List, length, map}
use Rattle.net_rules.specs.declared.asked.Asked.{Asked}
use Rattle.run_loop.specs.Driven.{IsDriven}
use Rattle.follower_run.specs.Travelled.{Beside}
use Rattle.follower_run.proofs.along.go_beside.Given as goal

-- the run goes on, and the follower beside it, whatever its wire told before
abbrev pub invariant-events : goal.invariant-events
invariant-events g l =
    IsDriven g.P.OneRun.run.frame l.stepper.world l.stepper.in_use g.P.OneRun.run.told (map g.W.Wire.told l.wires)
    × ((base : List Asked) × Beside g.P.OneRun.run.frame l.fn.start base (g.W.Wire.told l.own) l.stepper.world.steps l.rounds)
    × ((base : List Asked) → Beside g.P.OneRun.run.frame l.fn.start base (g.W.Wire.told l.fn.own) l.fn.stepper.world.steps l.fn.rounds →
    Beside g.P.OneRun.run.frame l.fn.start base (g.W.Wire.told l.own) l.stepper.world.steps l.rounds)
    × (map g.W.Wire.rule l.wires ≡ map g.W.Wire.rule l.fn.wires)
    × (map g.W.Wire.loaded l.wires ≡ map g.W.Wire.loaded l.fn.wires)
    × (g.W.Wire.rule l.own ≡ g.W.Wire.rule l.fn.own)
    × (g.W.Wire.loaded l.own ≡ g.W.Wire.loaded l.fn.own)

-- events that it may still do
abbrev pub decreases-events : goal.decreases-events
decreases-events g l = g.P.OneRun.run.frame.settings.events - length l.stepper.world.steps
