use Rattle.std.proofs.Common.{refl}
use Rattle.run_loop.proofs.Ending.{asked_nothing, opens_as}
use Rattle.run_loop.proofs.Telling.{tells_itself}
use Rattle.run_loop.proofs.stepper.Stepper.begin.Goals as goal

pub returns-clause-driven : goal.returns-clause-driven
returns-clause-driven g c =
    let d = c.in_ok-new.field-0 in
    opens_as g.P.OneRun.run.frame d.world d.in_use g.P.OneRun.run.told g.P.OneRun.run.told c.args.settings c.requires.settings
    c.in_ok-new.ensures.0 c.in_ok-new.ensures.1 c.in_ok-new.ensures.2 refl c.requires.wires c.requires.ranges

pub returns-clause-asked : goal.returns-clause-asked
returns-clause-asked g c = asked_nothing g.P.OneRun.run.frame g.P.OneRun.run.told

pub returns-clause-told : goal.returns-clause-told
returns-clause-told g c = tells_itself g.P.OneRun.run.told

pub returns-in_err-new-clause-asked : goal.returns-in_err-new-clause-asked
returns-in_err-new-clause-asked g c = asked_nothing g.P.OneRun.run.frame g.P.OneRun.run.told

pub returns-in_err-new-clause-told : goal.returns-in_err-new-clause-told
returns-in_err-new-clause-told g c = tells_itself g.P.OneRun.run.told
