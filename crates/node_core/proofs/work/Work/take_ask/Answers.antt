use Rattle.std.proofs.Common.{◌∙◌, sym, arith}
use Rattle.node_core.specs.Stands.{fitness_of}
use Rattle.node_core.proofs.Taking.{asked_again, asked_before, asked_late, asked_none, new_none, new_some}
use Rattle.node_core.proofs.Working.{ok_map}
use Rattle.node_core.proofs.Keeping.{keeps_none}
use Rattle.node_core.proofs.work.Work.take_ask.Goals as goal

pub take_call-requires : goal.take_call-requires
take_call-requires g c =
    let m = c.args.machine.now in
    new_none g.P.OneRun.stood g.P.OneRun.left g.P.OneRun.run.frame
    (fitness_of (g.P.Performer.fits_state m) (g.P.Performer.fits_args m) (g.P.Performer.fits_text m) (g.P.Performer.fits_reply m))
    c.args.message.now c.args.self.now (sym c.in_default.is ∙ c.last_given.ensures) c.requires

pub returns-in_default-clause-does : goal.returns-in_default-clause-does
returns-in_default-clause-does g c =
    ok_map c.take_call.result _ _
    (λ becomes. asked_none g.P.OneRun.stood g.P.OneRun.left g.P.OneRun.run.frame c.args.message.now c.args.self.now c.take_call.new.self (sym c.in_default.is ∙ c.last_given.ensures) becomes)
    c.take_call.ensures.does

pub take_call-requires-then-last-message : goal.take_call-requires-then-last-message
take_call-requires-then-last-message g c =
    let m = c.args.machine.now in
    new_some g.P.OneRun.stood g.P.OneRun.left g.P.OneRun.run.frame
    (fitness_of (g.P.Performer.fits_state m) (g.P.Performer.fits_args m) (g.P.Performer.fits_text m) (g.P.Performer.fits_reply m))
    c.args.message.now c.args.self.now c.in-Some.last (sym c.in-Some.is ∙ c.last_given.ensures) c.if-last-message.true c.requires

pub returns-then-last-message-clause-does : goal.returns-then-last-message-clause-does
returns-then-last-message-clause-does g c =
    ok_map c.take_call-then-last-message.result _ _
    (λ becomes.
    asked_before g.P.OneRun.stood g.P.OneRun.left g.P.OneRun.run.frame c.args.message.now c.args.self.now c.take_call-then-last-message.new.self c.in-Some.last (sym c.in-Some.is ∙ c.last_given.ensures)
    c.if-last-message.true becomes)
    c.take_call-then-last-message.ensures.does

pub returns-then-last-message-2-clause-does : goal.returns-then-last-message-2-clause-does
returns-then-last-message-2-clause-does g c =
    ok_map c.give_again.result _ _
    (λ becomes.
    asked_again g.P.OneRun.stood g.P.OneRun.left g.P.OneRun.run.frame c.args.message.now c.args.self.now c.give_again.new.self c.in-Some.last (sym c.in-Some.is ∙ c.last_given.ensures)
    c.if-last-message-2.true becomes)
    c.give_again.ensures.does

pub returns-clause-does : goal.returns-clause-does
returns-clause-does g c =
    let above = c.if-last-message.false in
    let apart = c.if-last-message-2.false in
    asked_late g.P.OneRun.stood g.P.OneRun.left g.P.OneRun.run.frame c.args.message.now c.args.self.now c.in-Some.last (sym c.in-Some.is ∙ c.last_given.ensures)
    (omega (arith, above, apart))

pub returns-in_default-clause-tasks : goal.returns-in_default-clause-tasks
returns-in_default-clause-tasks g c = c.take_call.ensures.tasks

pub returns-then-last-message-clause-tasks : goal.returns-then-last-message-clause-tasks
returns-then-last-message-clause-tasks g c = c.take_call-then-last-message.ensures.tasks

pub returns-then-last-message-2-clause-tasks : goal.returns-then-last-message-2-clause-tasks
returns-then-last-message-2-clause-tasks g c = c.give_again.ensures.tasks

pub returns-clause-tasks : goal.returns-clause-tasks
returns-clause-tasks g c = keeps_none _ _
