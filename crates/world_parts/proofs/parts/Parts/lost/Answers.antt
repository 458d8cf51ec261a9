use Rattle.std.proofs.Common.{◌+◌, ◌∙◌, ℕ, ap, refl, arith}
use Rattle.group_rules.specs.Sets.{count}
use Rattle.world_parts.proofs.Ruling.{count_next, few_lost}
use Rattle.world_parts.specs.Rows.{is_lost}
use Rattle.world_parts.proofs.parts.Parts.lost.Goals as goal

pub members-init : goal.members-init
members-init g c = (omega arith, λ w is. refl)

pub lost_at-lost-requires-clause-within : goal.lost_at-lost-requires-clause-within
lost_at-lost-requires-clause-within g c = omega (arith, c.members-test.true, c.requires.numbers.nodes)

pub overflow_add-lost : goal.overflow_add-lost
overflow_add-lost g c = record { fits = few_lost c.members.member g.P.OneRun.run.frame.settings.nodes c.members.lost c.lost_at-lost.result (omega (arith, c.members-test.true, c.requires.numbers.nodes)) c.requires.settings.few c.members.invariant.0 c.lost_at-lost.ensures.few }

pub members-preserved : goal.members-preserved
members-preserved g c = (
  omega (arith, c.members.invariant.0, c.lost_at-lost.ensures.few),
  λ w is. count_next (is_lost w) c.members.member (c.members.member + 1) c.members.lost c.lost_at-lost.result _ (omega arith) (c.members.invariant.1 w is) (c.lost_at-lost.ensures.one w is) refl,
)

pub returns : goal.returns
returns g c w is = c.members.invariant.1 w is ∙ ap (λ (n : ℕ). count n (is_lost w)) (omega (arith, c.members.auto.member-end, c.members-test.false, c.requires.numbers.nodes))
