use Rattle.node_core.specs.Stands.{fitness_of}
use Rattle.node_core.proofs.Taking.{answer_taken, ask_taken, take_answer_may, take_ask_may}
use Rattle.node_core.proofs.Working.{ok_map}
use Rattle.node_core.proofs.work.Work.take.Goals as goal

pub take_ask-requires : goal.take_ask-requires
take_ask-requires g c =
    let m = c.args.machine.now in
    take_ask_may g.P.OneRun.stood g.P.OneRun.left g.P.OneRun.run.frame
    (fitness_of (g.P.Performer.fits_state m) (g.P.Performer.fits_args m) (g.P.Performer.fits_text m) (g.P.Performer.fits_reply m))
    c.args.errand _ _ c.message-in-Ask.result.now c.args.self.now c.in-Ask.is c.message-in-Ask.ensures c.requires

pub returns-in-Ask-clause-does : goal.returns-in-Ask-clause-does
returns-in-Ask-clause-does g c =
    ok_map c.take_ask.result _ _
    (λ becomes.
    ask_taken g.P.OneRun.stood g.P.OneRun.left g.P.OneRun.run.frame c.args.errand _ _ c.message-in-Ask.result.now c.args.self.now c.take_ask.new.self c.in-Ask.is c.message-in-Ask.ensures becomes)
    c.take_ask.ensures.does

pub take_answer-requires : goal.take_answer-requires
take_answer-requires g c =
    let m = c.args.machine.now in
    take_answer_may g.P.OneRun.stood g.P.OneRun.left g.P.OneRun.run.frame
    (fitness_of (g.P.Performer.fits_state m) (g.P.Performer.fits_args m) (g.P.Performer.fits_text m) (g.P.Performer.fits_reply m))
    c.args.errand c.in-Answer.place c.in-Answer.process c.in-Answer.call c.in-Answer.reply c.args.self.now c.in-Answer.is c.requires

pub returns-in-Answer-clause-does : goal.returns-in-Answer-clause-does
returns-in-Answer-clause-does g c =
    ok_map c.take_answer.result _ _
    (λ becomes.
    answer_taken g.P.OneRun.stood g.P.OneRun.left g.P.OneRun.run.frame c.args.errand c.in-Answer.place c.in-Answer.process c.in-Answer.call c.in-Answer.reply c.args.self.now
    c.take_answer.new.self c.in-Answer.is becomes)
    c.take_answer.ensures.does

pub returns-in-Ask-clause-tasks : goal.returns-in-Ask-clause-tasks
returns-in-Ask-clause-tasks g c = c.take_ask.ensures.tasks

pub returns-in-Answer-clause-tasks : goal.returns-in-Answer-clause-tasks
returns-in-Answer-clause-tasks g c = c.take_answer.ensures.tasks
