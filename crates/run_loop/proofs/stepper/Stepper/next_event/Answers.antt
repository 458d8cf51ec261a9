use Rattle.std.proofs.Common.{OnOk, map, subst, sym}
use Rattle.run_loop.specs.Driven.{IsDriven, IsGoing, Stepping, WentOn}
use Rattle.run_loop.proofs.Stepping.{stays_as}
use Rattle.run_loop.proofs.stepper.Stepper.next_event.Goals as goal

pub next-requires-clause-driven : goal.next-requires-clause-driven
next-requires-clause-driven g c =
    subst (λ (s : Stepping g.row.P-State.Denot). IsDriven g.P.OneRun.run.frame s.world s.in_use g.P.OneRun.run.told (map g.W.Wire.told c.args.wires.now)) (sym c.self.view_is) c.requires.driven

pub next-requires-clause-going : goal.next-requires-clause-going
next-requires-clause-going g c = subst (λ (s : Stepping g.row.P-State.Denot). IsGoing g.P.OneRun.run.frame s.world) (sym c.self.view_is) c.requires.going

pub returns-clause-went : goal.returns-clause-went
returns-clause-went g c =
    subst (λ (s : Stepping g.row.P-State.Denot). OnOk c.next.result (WentOn g.P.OneRun.run.frame s.world c.next.new.self.world c.next.new.self.in_use g.P.OneRun.run.told (map g.W.Wire.told c.next.new.wires))) c.self.view_is c.next.ensures.went

pub returns-clause-err : goal.returns-clause-err
returns-clause-err g c =
    stays_as c.next.result c.next.new.self.world c.self.inside.driver.world c.next.new.self.in_use c.self.inside.driver.in_use c.args.self.now c.next.ensures.err c.next.ensures.in_use c.self.view_is
