use Rattle.std.proofs.Common.{◌+◌, ◌∙◌, ◌||◌, not, ℕ, sym, refl, arith}
use Rattle.world_rules.specs.Standings.{is_done}
use Rattle.world_parts.proofs.Below.{all_done, all_failed, all_on}
use Rattle.world_parts.proofs.parts.Parts.members_done.Goals as goal

pub members-init : goal.members-init
members-init g c w is = refl

pub members-preserved : goal.members-preserved
members-preserved g c w is =
    all_on (λ (i : ℕ). not (w.lives i) || is_done g.P.OneRun.run.frame w i (w.nodes i)) c.members.member (c.members.member + 1) (omega arith) (c.members.invariant w is) (sym (c.is_done_living.ensures w is) ∙ c.if-not-is_done_living.false)

pub returns-then-not-is_done_living : goal.returns-then-not-is_done_living
returns-then-not-is_done_living g c w is =
    all_failed (λ (i : ℕ). not (w.lives i) || is_done g.P.OneRun.run.frame w i (w.nodes i)) c.members.member (g.P.OneRun.run.frame.settings.nodes) (omega (arith, c.members-test.true, c.requires.numbers.nodes)) (sym (c.is_done_living.ensures w is) ∙ c.if-not-is_done_living.true)

pub returns : goal.returns
returns g c w is =
    all_done (λ (i : ℕ). not (w.lives i) || is_done g.P.OneRun.run.frame w i (w.nodes i)) c.members.member (g.P.OneRun.run.frame.settings.nodes) (omega (arith, c.members.auto.member-end, c.requires.numbers.nodes)) (omega (arith, c.members-test.false, c.requires.numbers.nodes)) (c.members.invariant w is)

pub is_done_living-requires-clause-within : goal.is_done_living-requires-clause-within
is_done_living-requires-clause-within g c = omega (arith, c.members-test.true, c.requires.numbers.nodes)
