use Rattle.std.proofs.Common.{◌∙◌, ap, is_some, sym}
use Rattle.world_parts.proofs.Worlds.{is_world}
use Rattle.world_core.proofs.NoneOut.{node_stands, some_node}
use Rattle.world_core.proofs.world.World.node.Goals as goal

pub returns-clause-some : goal.returns-clause-some
returns-clause-some g c within =
    ap is_some c.node.ensures ∙ some_node g.P.OneRun.stood g.P.OneRun.left g.P.OneRun.run.frame c.self.inside.parts c.args.member c.self.invariant within

pub returns-clause-stands : goal.returns-clause-stands
returns-clause-stands g c w replays =
    node_stands g.P.OneRun.stood g.P.OneRun.left g.P.OneRun.run.frame c.self.inside.parts w c.args.member _
    (is_world g.P.OneRun.stood g.P.OneRun.left g.P.OneRun.run.frame c.self.inside.parts c.args.self.now c.self.view_is c.self.invariant w replays) (sym c.node.ensures)
