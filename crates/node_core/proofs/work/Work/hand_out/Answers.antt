use Rattle.std.proofs.Common.{◌+◌, ℕ, List, length, refl, subst, arith}
use Rattle.std.proofs.lemmas.List.{take_all}
use Rattle.std.proofs.lemmas.Option.{slice_get_read}
use Rattle.value_core.specs.declared.action.Line.{Line}
use Rattle.world_rules.specs.Applying.{answers}
use Rattle.node_core.specs.Pieces.{BecomesIn}
use Rattle.node_core.proofs.Answering.{line_may, lines_more}
use Rattle.node_core.proofs.Keeping.{keeps_none, keeps_on}
use Rattle.node_core.proofs.work.Work.hand_out.Goals as goal

pub lines-init : goal.lines-init
lines-init g c = ((λ m v work. work), keeps_none _ _)

pub receive-requires : goal.receive-requires
receive-requires g c =
    let m = c.args.machine.now in
    line_may g.P.OneRun.stood g.P.OneRun.left g.P.OneRun.run.frame (g.P.Performer.fits_reply m) c.args.lines.now c.applied-place.result c.lines.line-index c.line-item.result c.args.self.now c.lines.self c.requires c.lines.invariant.0
    (slice_get_read c.args.lines.now (length c.args.lines.now) c.lines.line-index c.line-item.result refl (omega arith) c.line-item.is)

pub lines-preserved : goal.lines-preserved
lines-preserved g c = (
  lines_more g.P.OneRun.stood g.P.OneRun.left g.P.OneRun.run.frame c.args.lines.now c.applied-place.result c.lines.line-index (c.lines.line-index + 1) c.line-item.result c.args.self.now c.lines.self c.receive.new.self (omega arith)
      c.lines.invariant.0 (slice_get_read c.args.lines.now (length c.args.lines.now) c.lines.line-index c.line-item.result refl (omega arith) c.line-item.is) (c.in_ok-receive.ensures {u = tt}).does,
  keeps_on _ _ _ c.lines.invariant.1 (c.in_ok-receive.ensures {u = tt}).tasks,
)

pub returns-clause-does : goal.returns-clause-does
returns-clause-does g c =
    subst (λ (place : ℕ). BecomesIn g.P.OneRun.stood g.P.OneRun.left g.P.OneRun.run.frame c.args.self.now c.lines.self (λ m. answers place c.args.lines.now)) c.applied-place.ensures
    (subst (λ (l : List Line). BecomesIn g.P.OneRun.stood g.P.OneRun.left g.P.OneRun.run.frame c.args.self.now c.lines.self (λ m. answers c.applied-place.result l)) (take_all c.lines.line-index c.args.lines.now (omega arith)) c.lines.invariant.0)

pub returns-clause-tasks : goal.returns-clause-tasks
returns-clause-tasks g c = c.lines.invariant.1
