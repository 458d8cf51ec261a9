use Rattle.std.proofs.Common.{◌<◌, length, refl, arith}
use Rattle.std.proofs.lemmas.Option.{slice_get_read}
use Rattle.world_rules.specs.Worlds.{processes_of}
use Rattle.world_parts.proofs.Leading.{leader_knows}
use Rattle.world_parts.proofs.Worlds.{one_list}
use Rattle.world_parts.proofs.parts.Parts.home_of.Goals as goal

pub returns : goal.returns
returns g c w is =
    let s = c.args.self.now in
    let f = g.P.OneRun.run.frame in
    let lt : c.leader.result < length s.nodes.items = omega (arith, c.leader.ensures.within, c.requires.is.members) in
    let found = slice_get_read s.nodes.items (length s.nodes.items) c.leader.result c.index.result.now refl lt c.index.ensures in
    c.home_of.ensures (processes_of f w)
    (leader_knows g.P.OneRun.stood g.P.OneRun.left f s w is (one_list g.P.OneRun.stood g.P.OneRun.left f s w c.requires is) c.leader.result c.index.result.now c.leader.ensures.within found (c.leader.ensures.leads w is))
