use Rattle.std.proofs.Common.{sym, ◌∙◌}
use Rattle.group_reset.proofs.Concluding.{some_kept, waits_outcome, waits_row}
use Rattle.group_reset.proofs.coordinator.conclude.Goals as goal

pub returns-then-have-need-clause-row : goal.returns-then-have-need-clause-row
returns-then-have-need-clause-row g c = waits_row g.B.Body.id_of g.B.Body.length_of c.args.member.now c.new.result.items c.answered-have.result c.needed-need.result c.new.ensures.items c.answered-have.ensures c.needed-need.ensures c.if-have-need.true

pub returns-then-have-need-clause-outcome : goal.returns-then-have-need-clause-outcome
returns-then-have-need-clause-outcome g c = waits_outcome g.B.Body.id_of g.B.Body.length_of c.args.member.now c.answered-have.result c.needed-need.result c.answered-have.ensures c.needed-need.ensures c.if-have-need.true

pub unreachable-requires : goal.unreachable-requires
unreachable-requires g c = some_kept c.args.member.now c.answered-have.result c.needed-need.result c.answered-have.ensures c.needed-need.ensures c.if-have-need.false c.requires.member.few (sym c.in_ok-choice.ensures.kept ∙ c.in-None.is)
