use Rattle.std.proofs.Common.{◌∙◌, sym}
use Rattle.node_rules.specs.Starts.Start.{Acts}
use Rattle.node_core.specs.Stands.{fitness_of}
use Rattle.node_core.proofs.CarryingOut.{ask_acts, may_ask, may_read_first, nothing_acts, read_acts, submit_acts}
use Rattle.node_core.proofs.Starting.{member_of, none_else}
use Rattle.node_core.proofs.Working.{ok_map}
use Rattle.node_core.proofs.Keeping.{keeps_none}
use Rattle.node_core.proofs.work.Work.carry_out.Goals as goal

pub ask-requires : goal.ask-requires
ask-requires g c =
    let m = c.args.machine.now in
    may_ask g.P.OneRun.stood g.P.OneRun.left g.P.OneRun.run.frame
    (fitness_of (g.P.Performer.fits_state m) (g.P.Performer.fits_args m) (g.P.Performer.fits_text m) (g.P.Performer.fits_reply m))
    c.args.process.0 c.in-Some-single_called.object c.in-Some.message c.args.self.now
    (sym c.in-Some.is ∙ c.in_ok-message.ensures {u = tt}) (λ f processes knows. sym c.in-Some-single_called.is ∙ c.single_called.ensures f processes knows) c.requires

pub read-requires : goal.read-requires
read-requires g c =
    let m = c.args.machine.now in
    may_read_first g.P.OneRun.stood g.P.OneRun.left g.P.OneRun.run.frame
    (fitness_of (g.P.Performer.fits_state m) (g.P.Performer.fits_args m) (g.P.Performer.fits_text m) (g.P.Performer.fits_reply m))
    c.args.process.0 (g.P.Performer.performs m) c.in-Some.message c.args.self.now (g.met.P.OneRun.performs_run m)
    (sym c.in-Some.is ∙ c.in_ok-message.ensures {u = tt}) (λ f processes knows. none_else _ c.in_default-single_called.not-Some ∙ c.single_called.ensures f processes knows)
    (sym c.is_read.ensures ∙ c.if-is_read.true) c.requires

pub submit-requires-clause-member : goal.submit-requires-clause-member
submit-requires-clause-member g c =
    let m = c.args.machine.now in
    member_of g.P.OneRun.stood g.P.OneRun.left g.P.OneRun.run.frame
    (fitness_of (g.P.Performer.fits_state m) (g.P.Performer.fits_args m) (g.P.Performer.fits_text m) (g.P.Performer.fits_reply m))
    (Acts c.args.process.0) c.args.self.now c.requires

pub returns-in_default-clause-does : goal.returns-in_default-clause-does
returns-in_default-clause-does g c =
    let m = c.args.machine.now in
    nothing_acts g.P.OneRun.stood g.P.OneRun.left g.P.OneRun.run.frame
    (fitness_of (g.P.Performer.fits_state m) (g.P.Performer.fits_args m) (g.P.Performer.fits_text m) (g.P.Performer.fits_reply m))
    c.args.process.0 c.args.self.now (none_else _ c.in_default.not-Some ∙ c.in_ok-message.ensures {u = tt})

pub returns-in-Some-single_called-clause-does : goal.returns-in-Some-single_called-clause-does
returns-in-Some-single_called-clause-does g c =
    let m = c.args.machine.now in
    ok_map c.ask.result _ _
    (λ asked. ask_acts g.P.OneRun.stood g.P.OneRun.left g.P.OneRun.run.frame
    (fitness_of (g.P.Performer.fits_state m) (g.P.Performer.fits_args m) (g.P.Performer.fits_text m) (g.P.Performer.fits_reply m))
    c.args.process.0 c.in-Some-single_called.object c.in-Some.message c.args.self.now c.ask.new.self
    (sym c.in-Some.is ∙ c.in_ok-message.ensures {u = tt}) (λ f processes knows. sym c.in-Some-single_called.is ∙ c.single_called.ensures f processes knows) asked)
    c.ask.ensures.does

pub returns-then-is_read-clause-does : goal.returns-then-is_read-clause-does
returns-then-is_read-clause-does g c =
    let m = c.args.machine.now in
    ok_map c.read.result _ _
    (λ reads. read_acts g.P.OneRun.stood g.P.OneRun.left g.P.OneRun.run.frame
    (fitness_of (g.P.Performer.fits_state m) (g.P.Performer.fits_args m) (g.P.Performer.fits_text m) (g.P.Performer.fits_reply m))
    c.args.process.0 (g.P.Performer.performs m) c.in-Some.message c.args.self.now c.read.new.self (g.met.P.OneRun.performs_run m)
    (sym c.in-Some.is ∙ c.in_ok-message.ensures {u = tt}) (λ f processes knows. none_else _ c.in_default-single_called.not-Some ∙ c.single_called.ensures f processes knows)
    (sym c.is_read.ensures ∙ c.if-is_read.true) reads)
    c.read.ensures.does

pub returns-clause-does : goal.returns-clause-does
returns-clause-does g c =
    let m = c.args.machine.now in
    ok_map c.submit.result _ _
    (λ submitted. submit_acts g.P.OneRun.stood g.P.OneRun.left g.P.OneRun.run.frame
    (fitness_of (g.P.Performer.fits_state m) (g.P.Performer.fits_args m) (g.P.Performer.fits_text m) (g.P.Performer.fits_reply m))
    c.args.process.0 (g.P.Performer.performs m) c.in-Some.message c.args.self.now c.submit.new.self (g.met.P.OneRun.performs_run m)
    (sym c.in-Some.is ∙ c.in_ok-message.ensures {u = tt}) (λ f processes knows. none_else _ c.in_default-single_called.not-Some ∙ c.single_called.ensures f processes knows)
    (sym c.is_read.ensures ∙ c.if-is_read.false) submitted)
    c.submit.ensures.does

pub submit-requires-clause-acting : goal.submit-requires-clause-acting
submit-requires-clause-acting g c = sym (c.in_ok-message.ensures {u = tt}) ∙ c.in-Some.is

pub returns-in_default-clause-tasks : goal.returns-in_default-clause-tasks
returns-in_default-clause-tasks g c = keeps_none _ _

pub returns-in-Some-single_called-clause-tasks : goal.returns-in-Some-single_called-clause-tasks
returns-in-Some-single_called-clause-tasks g c = c.ask.ensures.tasks

pub returns-then-is_read-clause-tasks : goal.returns-then-is_read-clause-tasks
returns-then-is_read-clause-tasks g c = c.read.ensures.tasks

pub returns-clause-tasks : goal.returns-clause-tasks
returns-clause-tasks g c = c.submit.ensures.tasks
