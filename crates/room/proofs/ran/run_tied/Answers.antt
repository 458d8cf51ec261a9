use Rattle.std.proofs.Common.{IfSome, List, map, subst, sym}
use Rattle.net_rules.specs.declared.asked.Asked.{Asked}
use Rattle.run_loop.specs.Asked.{HaveToldOn, WereAskedIn}
use Rattle.run_loop.specs.Left.{HasRun}
use Rattle.run_loop.proofs.Ending.{asked_nothing}
use Rattle.run_loop.proofs.Telling.{tells_itself}
use Rattle.room.proofs.ran.run_tied.Goals as goal

pub returns-in_default-clause-asked : goal.returns-in_default-clause-asked
returns-in_default-clause-asked g c = asked_nothing g.P.OneRun.run.frame (map g.W.Wire.told c.args.wires.now.items)

pub returns-in_default-clause-told : goal.returns-in_default-clause-told
returns-in_default-clause-told g c = tells_itself (map g.W.Wire.told c.args.wires.now.items)

pub returns-clause-run : goal.returns-clause-run
returns-clause-run g c =
    subst (λ (l : List (List Asked)). IfSome c.into_ran-ran.result.0.end (HasRun g.P.OneRun.run.frame c.into_ran-ran.result.0.standing l (map g.W.Wire.told c.into_ran-ran.result.1.items))) (sym c.requires.told) c.into_ran-ran.ensures.run

pub returns-clause-asked : goal.returns-clause-asked
returns-clause-asked g c =
    subst (λ (l : List (List Asked)). WereAskedIn g.P.OneRun.run.frame l (map g.W.Wire.told c.into_ran-ran.result.1.items)) (sym c.requires.told) c.into_ran-ran.ensures.asked

pub returns-clause-told : goal.returns-clause-told
returns-clause-told g c = subst (λ (l : List (List Asked)). HaveToldOn l (map g.W.Wire.told c.into_ran-ran.result.1.items)) (sym c.requires.told) c.into_ran-ran.ensures.told
