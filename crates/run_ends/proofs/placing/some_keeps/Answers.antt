use Rattle.std.proofs.Common.{◌<◌, ◌+◌, ◌∙◌, ℕ, Bool, is_some, sym, refl, arith}
use Rattle.value_core.specs.History.{object_at}
use Rattle.world_parts.proofs.Below.{any_found, any_none, any_on}
use Rattle.run_ends.proofs.placing.some_keeps.Goals as goal

pub members-init : goal.members-init
members-init g c w is = refl

pub keeps-requires-clause-within : goal.keeps-requires-clause-within
keeps-requires-clause-within g c = omega (arith, c.members-test.true, c.requires.numbers.nodes)

pub members-preserved : goal.members-preserved
members-preserved g c w is =
    any_on (λ (m : ℕ). is_some (object_at (w.nodes m).copies.own c.args.object)) c.members.member (c.members.member + 1) (omega arith) (c.members.invariant w is) (sym (c.keeps.ensures w is) ∙ c.if-keeps.false)

pub returns-then-keeps : goal.returns-then-keeps
returns-then-keeps g c w is =
    any_found (λ (m : ℕ). is_some (object_at (w.nodes m).copies.own c.args.object)) c.members.member g.P.OneRun.run.frame.settings.nodes (omega (arith, c.members-test.true, c.requires.numbers.nodes)) (sym (c.keeps.ensures w is) ∙ c.if-keeps.true)

pub returns : goal.returns
returns g c w is =
    any_none (λ (m : ℕ). is_some (object_at (w.nodes m).copies.own c.args.object)) c.members.member g.P.OneRun.run.frame.settings.nodes (omega (arith, c.members.auto.member-end, c.requires.numbers.nodes)) (omega (arith, c.members-test.false, c.requires.numbers.nodes)) (c.members.invariant w is)
