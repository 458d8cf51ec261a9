use Rattle.std.proofs.Common.{◌<◌, ◌+◌, ◌∙◌, not, ℕ, ap, sym, refl, arith}
use Rattle.world_parts.proofs.Below.{all_done, all_failed, all_on}
use Rattle.world_parts.proofs.Ruling.{lives_within}
use Rattle.world_parts.proofs.parts.Parts.nobody_lives.Goals as goal

pub members-init : goal.members-init
members-init g c w is = refl

pub members-preserved : goal.members-preserved
members-preserved g c w is =
    let lt : c.members.member < g.P.OneRun.run.frame.settings.nodes = omega (arith, c.members-test.true, c.requires.numbers.nodes) in
    all_on (λ (m : ℕ). not (w.lives m)) c.members.member (c.members.member + 1) (omega arith) (c.members.invariant w is) (ap not (sym (lives_within g.P.OneRun.run.frame w c.members.member lt) ∙ sym (c.lives.ensures w is) ∙ c.if-lives.false))

pub returns-then-lives : goal.returns-then-lives
returns-then-lives g c w is =
    let lt : c.members.member < g.P.OneRun.run.frame.settings.nodes = omega (arith, c.members-test.true, c.requires.numbers.nodes) in
    all_failed (λ (m : ℕ). not (w.lives m)) c.members.member g.P.OneRun.run.frame.settings.nodes lt (ap not (sym (lives_within g.P.OneRun.run.frame w c.members.member lt) ∙ sym (c.lives.ensures w is) ∙ c.if-lives.true))

pub returns : goal.returns
returns g c w is =
    all_done (λ (m : ℕ). not (w.lives m)) c.members.member g.P.OneRun.run.frame.settings.nodes (omega (arith, c.members.auto.member-end, c.requires.numbers.nodes)) (omega (arith, c.members-test.false, c.requires.numbers.nodes)) (c.members.invariant w is)
