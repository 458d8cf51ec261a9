use Rattle.std.proofs.Common.{◌∙◌, sym}
use Rattle.world_parts.proofs.Ruling.{lives_within, stops_crashed, stops_living}
use Rattle.world_parts.proofs.parts.Parts.limit_of_member.Goals as goal

pub returns-then-lives : goal.returns-then-lives
returns-then-lives g c w is =
    let lives = sym (lives_within g.P.OneRun.run.frame w c.args.member c.requires.within) ∙ sym (c.lives.ensures w is) ∙ c.if-lives.true in
    stops_living g.P.OneRun.run.frame w c.args.member _ lives (c.limit_living.ensures w is lives)

pub returns-else-lives : goal.returns-else-lives
returns-else-lives g c w is = stops_crashed g.P.OneRun.run.frame w c.args.member (sym (lives_within g.P.OneRun.run.frame w c.args.member c.requires.within) ∙ sym (c.lives.ensures w is) ∙ c.if-lives.false)
