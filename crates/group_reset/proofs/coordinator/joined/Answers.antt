use Rattle.std.proofs.Common.{sym, ◌∙◌}
use Rattle.group_reset.proofs.Coordinating.{joins_outcome, joins_row, keeps_can, late_outcome, late_row, stale_outcome, stale_row}
use Rattle.group_reset.proofs.coordinator.joined.Goals as goal

pub returns-then-not-is_gathering-clause-row : goal.returns-then-not-is_gathering-clause-row
returns-then-not-is_gathering-clause-row g c = stale_row g.B.Body.id_of g.B.Body.length_of c.args.from c.args.join c.args.member.now c.new.result.items c.new.ensures.items (sym c.is_gathering.ensures ∙ c.if-not-is_gathering.true)

pub returns-then-not-is_gathering-clause-outcome : goal.returns-then-not-is_gathering-clause-outcome
returns-then-not-is_gathering-clause-outcome g c = stale_outcome g.B.Body.id_of g.B.Body.length_of c.args.from c.args.join c.args.member.now (sym c.is_gathering.ensures ∙ c.if-not-is_gathering.true)

pub returns-then-join-promised-clause-row : goal.returns-then-join-promised-clause-row
returns-then-join-promised-clause-row g c = late_row g.B.Body.id_of g.B.Body.length_of c.args.from c.args.join c.args.member.now c.new-then-join-promised.result.items c.new-then-join-promised.ensures.items (λ e. c.if-join-promised.true (e ∙ sym c.promised.ensures))

pub returns-then-join-promised-clause-outcome : goal.returns-then-join-promised-clause-outcome
returns-then-join-promised-clause-outcome g c = late_outcome g.B.Body.id_of g.B.Body.length_of c.args.from c.args.join c.args.member.now (λ e. c.if-join-promised.true (e ∙ sym c.promised.ensures))

pub conclude-requires-clause-can : goal.conclude-requires-clause-can
conclude-requires-clause-can g c = keeps_can g.B.Body.id_of g.B.Body.length_of c.args.from c.args.member.now c.keep_answer.new.self c.args.join (c.if-join-promised.false ∙ c.promised.ensures) (sym c.is_gathering.ensures ∙ c.if-not-is_gathering.false) c.in_ok-keep_answer.ensures.row c.keep_answer.ensures.numbers c.requires.can

pub returns-clause-row : goal.returns-clause-row
returns-clause-row g c = joins_row g.B.Body.id_of g.B.Body.length_of c.args.from c.args.member.now c.keep_answer.new.self c.conclude.new.member c.args.join c.in_ok-done.done.1.items (c.if-join-promised.false ∙ c.promised.ensures) (sym c.is_gathering.ensures ∙ c.if-not-is_gathering.false) c.in_ok-keep_answer.ensures.row c.in_ok-done.ensures.row

pub returns-clause-outcome : goal.returns-clause-outcome
returns-clause-outcome g c = joins_outcome g.B.Body.id_of g.B.Body.length_of c.args.from c.args.member.now c.keep_answer.new.self c.args.join c.in_ok-done.done.0 (c.if-join-promised.false ∙ c.promised.ensures) (sym c.is_gathering.ensures ∙ c.if-not-is_gathering.false) c.in_ok-keep_answer.ensures.row c.in_ok-done.ensures.outcome
