use Rattle.std.proofs.Common.{◌∙◌, IfSome, List, ap, length, map, subst, sym}
use Rattle.std.proofs.lemmas.List.{length-map}
use Rattle.net_rules.specs.declared.asked.Asked.{Asked}
use Rattle.run_loop.specs.Asked.{WereAskedIn}
use Rattle.run_loop.specs.Driven.{IsDriven}
use Rattle.run_loop.specs.Left.{HasRun}
use Rattle.run_loop.proofs.Ending.{asked_nothing, has_come}
use Rattle.run_loop.proofs.ran.run_tied.Goals as goal

pub begin-requires-clause-wires : goal.begin-requires-clause-wires
begin-requires-clause-wires g c = c.requires.wires ∙ sym (length-map c.args.wires.now g.W.Wire.told) ∙ ap length c.requires.told

pub drive-requires : goal.drive-requires
drive-requires g c =
    subst (IsDriven g.P.OneRun.run.frame c.in-Ok.stepper.world c.in-Ok.stepper.in_use g.P.OneRun.run.told) (sym c.requires.told) c.in-Ok.ensures.driven

pub returns-in_default-clause-asked : goal.returns-in_default-clause-asked
returns-in_default-clause-asked g c = asked_nothing g.P.OneRun.run.frame (map g.W.Wire.told c.args.wires.now)

pub returns-clause-asked : goal.returns-clause-asked
returns-clause-asked g c =
    let f = g.P.OneRun.run.frame in
    let old = g.P.OneRun.run.told in
    let now = map g.W.Wire.told c.drive.new.wires in
    subst (λ (l : List (List Asked)). WereAskedIn f l now) (sym c.requires.told)
    (c.into_ran.ensures.asked now (has_come f c.drive.new.self old now c.drive.result c.drive.ensures.driven c.drive.ensures.stopped))

pub returns-clause-run : goal.returns-clause-run
returns-clause-run g c =
    let f = g.P.OneRun.run.frame in
    let old = g.P.OneRun.run.told in
    let now = map g.W.Wire.told c.drive.new.wires in
    subst (λ (l : List (List Asked)). IfSome c.into_ran.result.end (HasRun f c.into_ran.result.standing l now)) (sym c.requires.told)
    (c.into_ran.ensures.run now (has_come f c.drive.new.self old now c.drive.result c.drive.ensures.driven c.drive.ensures.stopped))
