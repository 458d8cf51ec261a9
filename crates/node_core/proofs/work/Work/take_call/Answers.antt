use Rattle.std.proofs.Common.{◌≡◌, sym, ◌∙◌, true, false}
use Rattle.node_core.specs.Stands.{fitness_of}
use Rattle.node_core.proofs.Working.{ok_map}
use Rattle.node_core.proofs.Taking.{call_performed, may_perform, waits_on}
use Rattle.node_core.proofs.Keeping.{keeps_none}
use Rattle.node_core.proofs.work.Work.take_call.Goals as goal

pub returns-then-is_waiting-clause-does : goal.returns-then-is_waiting-clause-does
returns-then-is_waiting-clause-does g c =
    let m = c.args.machine.now in
    waits_on g.P.OneRun.stood g.P.OneRun.left g.P.OneRun.run.frame
    (fitness_of (g.P.Performer.fits_state m) (g.P.Performer.fits_args m) (g.P.Performer.fits_text m) (g.P.Performer.fits_reply m))
    c.args.message.now c.args.self.now (c.is_waiting.ensures.0 c.if-is_waiting.true) c.requires

pub perform_call-requires : goal.perform_call-requires
perform_call-requires g c =
    let m = c.args.machine.now in
    may_perform g.P.OneRun.stood g.P.OneRun.left g.P.OneRun.run.frame
    (fitness_of (g.P.Performer.fits_state m) (g.P.Performer.fits_args m) (g.P.Performer.fits_text m) (g.P.Performer.fits_reply m))
    c.args.message.now c.args.self.now (λ waits. let e : false ≡ true = sym c.if-is_waiting.false ∙ c.is_waiting.ensures.1 waits in absurd (cc e)) c.requires

pub returns-clause-does : goal.returns-clause-does
returns-clause-does g c =
    ok_map c.perform_call.result _ _
    (λ becomes.
    call_performed g.P.OneRun.stood g.P.OneRun.left g.P.OneRun.run.frame c.args.message.now c.args.self.now c.perform_call.new.self
    (λ waits. let e : false ≡ true = sym c.if-is_waiting.false ∙ c.is_waiting.ensures.1 waits in absurd (cc e)) becomes)
    c.perform_call.ensures.does

pub returns-then-is_waiting-clause-tasks : goal.returns-then-is_waiting-clause-tasks
returns-then-is_waiting-clause-tasks g c = keeps_none _ _

pub returns-clause-tasks : goal.returns-clause-tasks
returns-clause-tasks g c = c.perform_call.ensures.tasks
