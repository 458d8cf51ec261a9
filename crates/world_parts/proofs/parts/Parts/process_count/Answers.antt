use Rattle.std.proofs.Common.{◌<◌, ◌∙◌, ap, length, refl, arith}
use Rattle.std.proofs.lemmas.Option.{slice_get_read}
use Rattle.object_manager.specs.After.{Copied}
use Rattle.world_parts.proofs.Leading.{leader_counts}
use Rattle.world_parts.proofs.parts.Parts.process_count.Goals as goal

pub returns : goal.returns
returns g c w is =
    let s = c.args.self.now in
    let f = g.P.OneRun.run.frame in
    let lt : c.leader.result < length s.nodes.items = omega (arith, c.leader.ensures.within, c.requires.is.members) in
    let found = slice_get_read s.nodes.items (length s.nodes.items) c.leader.result c.index.result.now refl lt c.index.ensures in
    c.processes.ensures.processes ∙ ap (λ (c : Copied). c.processes) c.copies.ensures
    ∙ leader_counts g.P.OneRun.stood g.P.OneRun.left f s w is (c.requires.laws.kept f refl refl c.requires.settings s.ledger.steps w is.replays) c.requires.laws.begin c.leader.result c.index.result.now found (c.leader.ensures.leads w is)
