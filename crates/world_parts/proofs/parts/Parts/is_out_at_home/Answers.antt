use Rattle.std.proofs.Common.{◌∙◌, ap, ℕ}
use Rattle.world_parts.proofs.Outs.{out_there}
use Rattle.world_parts.proofs.Worlds.{home_there}
use Rattle.world_parts.specs.Seen.{is_out}
use Rattle.world_parts.specs.Standing.{has_out, seen_of}
use Rattle.world_parts.proofs.parts.Parts.is_out_at_home.Goals as goal

pub returns-in-Some : goal.returns-in-Some
returns-in-Some g c w is =
    c.is_out.ensures ∙ ap has_out c.resident.ensures
    ∙ out_there c.args.self.now c.home_of.result c.args.process.0 c.in-Some.node.now (c.in-Some.ensures {u = tt})
    ∙ ap (λ (home : ℕ). is_out (seen_of c.args.self.now) home c.args.process.0) (c.home_of.ensures w is)

pub returns-in-None : goal.returns-in-None
returns-in-None g c w is =
    absurd (home_there g.P.OneRun.stood g.P.OneRun.left g.P.OneRun.run.frame c.args.self.now w c.requires is c.home_of.result c.args.process.0 (c.home_of.ensures w is) (c.in-None.ensures {u = tt}))
