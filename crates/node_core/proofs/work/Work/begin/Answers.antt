use Rattle.std.proofs.Common.{◌∙◌, Option, ap, sym, subst}
use Rattle.node_core.specs.Entries.{Begins, listed}
use Rattle.node_core.specs.declared.node.Known.{Known}
use Rattle.node_core.proofs.Beginning.{begins_away, begins_here, begins_none, starts_fit}
use Rattle.node_core.proofs.TakingEntry.{begins_unborn, none_of}
use Rattle.node_core.proofs.Working.{ok_map}
use Rattle.node_core.proofs.Keeping.{keeps_none}
use Rattle.node_core.proofs.work.Work.begin.Goals as goal

pub returns-in_default-clause-does : goal.returns-in_default-clause-does
returns-in_default-clause-does g c =
    begins_none g.P.OneRun.stood g.P.OneRun.left g.P.OneRun.run.frame c.args.number (listed c.args.born) c.args.action.now c.args.self.now c.in_default.not-Fork

pub returns-in_default-born-clause-does : goal.returns-in_default-born-clause-does
returns-in_default-born-clause-does g c =
    subst (λ (b : Option Known). Begins g.P.OneRun.stood g.P.OneRun.left g.P.OneRun.run.frame c.args.number (listed b) c.args.action.now c.args.self.now c.args.self.now)
    (sym (none_of c.args.born c.in_default-born.not-Some))
    (begins_unborn g.P.OneRun.stood g.P.OneRun.left g.P.OneRun.run.frame c.args.number c.args.action.now c.args.self.now)

pub returns-then-known-me-clause-does : goal.returns-then-known-me-clause-does
returns-then-known-me-clause-does g c =
    subst (λ (b : Option Known). Begins g.P.OneRun.stood g.P.OneRun.left g.P.OneRun.run.frame c.args.number (listed b) c.args.action.now c.args.self.now c.args.self.now) (sym c.in-Some.is)
    (begins_away g.P.OneRun.stood g.P.OneRun.left g.P.OneRun.run.frame c.args.number c.in-Some.known c.args.action.now c.in-Fork.process c.in-Fork.args c.in-Fork.place_on c.args.self.now c.in-Fork.is (λ e. c.if-known-me.true (e ∙ sym c.me.ensures)))

pub start-requires : goal.start-requires
start-requires g c =
    let m = c.args.machine.now in
    starts_fit (g.P.Performer.fits_text m) c.args.self.now.node.member.me c.args.action.now (listed c.args.born) c.in-Some.known c.in-Fork.process c.in-Fork.args c.in-Fork.place_on
    c.in-Fork.is (ap listed c.in-Some.is) (c.if-known-me.false ∙ c.me.ensures) c.requires

pub returns-clause-does : goal.returns-clause-does
returns-clause-does g c =
    ok_map c.start.result _ _
    (λ becomes.
    subst (λ (b : Option Known). Begins g.P.OneRun.stood g.P.OneRun.left g.P.OneRun.run.frame c.args.number (listed b) c.args.action.now c.args.self.now c.start.new.self) (sym c.in-Some.is)
    (begins_here g.P.OneRun.stood g.P.OneRun.left g.P.OneRun.run.frame c.args.number c.in-Some.known c.args.action.now c.in-Fork.process c.in-Fork.args c.in-Fork.place_on c.args.self.now c.start.new.self
    c.in-Fork.is (c.if-known-me.false ∙ c.me.ensures) becomes))
    c.start.ensures.does

pub returns-in_default-clause-tasks : goal.returns-in_default-clause-tasks
returns-in_default-clause-tasks g c = keeps_none _ _

pub returns-in_default-born-clause-tasks : goal.returns-in_default-born-clause-tasks
returns-in_default-born-clause-tasks g c = keeps_none _ _

pub returns-then-known-me-clause-tasks : goal.returns-then-known-me-clause-tasks
returns-then-known-me-clause-tasks g c = keeps_none _ _

pub returns-clause-tasks : goal.returns-clause-tasks
returns-clause-tasks g c = c.start.ensures.tasks
