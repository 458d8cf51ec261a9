use Rattle.std.proofs.Common.{sym, ◌∙◌}
use Rattle.node_core.specs.Stands.{fitness_of}
use Rattle.node_core.proofs.Taking.{heard_none, heard_some, may_hear}
use Rattle.node_core.proofs.Working.{ok_map}
use Rattle.node_core.proofs.Keeping.{keeps_none}
use Rattle.node_core.proofs.work.Work.take_answer.Goals as goal

pub returns-then-not-asks-clause-does : goal.returns-then-not-asks-clause-does
returns-then-not-asks-clause-does g c =
    heard_none g.P.OneRun.stood g.P.OneRun.left g.P.OneRun.run.frame c.args.place c.args.process c.args.call c.args.reply.now c.args.self.now (sym c.asks.ensures ∙ c.if-not-asks.true)

pub receive-requires : goal.receive-requires
receive-requires g c =
    let m = c.args.machine.now in
    may_hear g.P.OneRun.stood g.P.OneRun.left g.P.OneRun.run.frame
    (fitness_of (g.P.Performer.fits_state m) (g.P.Performer.fits_args m) (g.P.Performer.fits_text m) (g.P.Performer.fits_reply m))
    c.args.process c.args.call c.args.reply.now c.args.self.now (sym c.asks.ensures ∙ c.if-not-asks.false) c.requires

pub returns-clause-does : goal.returns-clause-does
returns-clause-does g c =
    ok_map c.receive.result _ _
    (λ becomes.
    heard_some g.P.OneRun.stood g.P.OneRun.left g.P.OneRun.run.frame c.args.place c.args.process c.args.call c.args.reply.now c.args.self.now c.receive.new.self
    (sym c.asks.ensures ∙ c.if-not-asks.false) becomes)
    c.receive.ensures.does

pub returns-then-not-asks-clause-tasks : goal.returns-then-not-asks-clause-tasks
returns-then-not-asks-clause-tasks g c = keeps_none _ _

pub returns-clause-tasks : goal.returns-clause-tasks
returns-clause-tasks g c = c.receive.ensures.tasks
