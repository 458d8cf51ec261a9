use Rattle.std.proofs.Common.{◌<◌, refl, arith, length}
use Rattle.std.proofs.lemmas.Option.{slice_get_read}
use Rattle.world_core.proofs.Recalls.{recalled_first, recalled_next, recalled_over}
use Rattle.world_core.proofs.burst.recall_all.Goals as goal

pub members-init : goal.members-init
members-init g c = recalled_first g.P.OneRun.stood g.P.OneRun.left c.args.nodes.now.items

pub members-preserved : goal.members-preserved
members-preserved g c =
    let ns = c.members.nodes.items in
    let lt : c.members.at < length ns = omega (arith, c.members-test.true, c.len-at-end.ensures, c.members.invariant.count, c.args.nodes.now.ok.0) in
    recalled_next g.P.OneRun.stood g.P.OneRun.left c.members.at _ c.args.nodes.now.items ns _ c.index_mut.result.now c.recall.new.self (omega arith) c.members.invariant
    (slice_get_read ns (length ns) c.members.at c.index_mut.result.now refl lt c.index_mut.ensures.value) refl c.recall.ensures.recalled c.recall.ensures.alike

pub returns : goal.returns
returns g c =
    recalled_over g.P.OneRun.stood g.P.OneRun.left c.members.at c.args.nodes.now.items c.members.nodes.items (omega (arith, c.members-test.false, c.len-at-end.ensures, c.members.invariant.count, c.args.nodes.now.ok.0)) c.members.invariant
