use Rattle.std.proofs.Common.{◌<◌, ◌+◌, refl, arith, length}
use Rattle.std.proofs.lemmas.Option.{slice_get_read}
use Rattle.world_parts.proofs.Outs.{all_first, all_more, all_over, fits, none_past}
use Rattle.world_parts.proofs.parts.Parts.tasks_out.Goals as goal

pub members-init : goal.members-init
members-init g c = all_first c.args.self.now.nodes.items

pub outs_at-tasks-requires : goal.outs_at-tasks-requires
outs_at-tasks-requires g c =
    let s = c.args.self.now in
    let lt : c.members.member < length s.nodes.items = omega (arith, c.members-test.true, c.len-member-end.ensures, s.nodes.ok.0) in
    none_past g.P.OneRun.stood g.P.OneRun.left g.P.OneRun.run.frame s c.requires c.members.member c.index.result.now (slice_get_read s.nodes.items (length s.nodes.items) c.members.member c.index.result.now refl lt c.index.ensures)

pub overflow_add-tasks : goal.overflow_add-tasks
overflow_add-tasks g c =
    let s = c.args.self.now in
    let lt : c.members.member < length s.nodes.items = omega (arith, c.members-test.true, c.len-member-end.ensures, s.nodes.ok.0) in
    record { fits = fits c.members.member g.P.OneRun.run.frame.settings.nodes (length s.nodes.items) c.members.tasks c.outs_at-tasks.result lt c.requires.is.members c.requires.settings.few c.members.invariant.few c.outs_at-tasks.ensures.few }

pub members-preserved : goal.members-preserved
members-preserved g c =
    let s = c.args.self.now in
    let lt : c.members.member < length s.nodes.items = omega (arith, c.members-test.true, c.len-member-end.ensures, s.nodes.ok.0) in
    all_more s.nodes.items c.members.member (c.members.member + 1) c.members.tasks c.outs_at-tasks.result _ c.index.result.now (omega arith) c.members.invariant
    (slice_get_read s.nodes.items (length s.nodes.items) c.members.member c.index.result.now refl lt c.index.ensures) c.outs_at-tasks.ensures.outs c.outs_at-tasks.ensures.few refl

pub returns : goal.returns
returns g c =
    let s = c.args.self.now in
    all_over s.nodes.items c.members.member c.members.tasks (omega (arith, c.members-test.false, c.len-member-end.ensures, s.nodes.ok.0)) c.members.invariant
