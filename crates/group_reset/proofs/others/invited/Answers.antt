use Rattle.std.proofs.Common.{sym, ◌∙◌}
use Rattle.group_reset.proofs.Answering.{invited_row, not_heeded, own_invitation}
use Rattle.group_reset.proofs.others.invited.Goals as goal

pub returns-then-not-heeds-clause-row : goal.returns-then-not-heeds-clause-row
returns-then-not-heeds-clause-row g c = not_heeded g.B.Body.id_of g.B.Body.length_of c.args.from c.args.incarnation c.args.member.now c.new.result.items c.new.ensures.items (sym c.heeds.ensures ∙ c.if-not-heeds.true)

pub returns-then-coordinates-clause-row : goal.returns-then-coordinates-clause-row
returns-then-coordinates-clause-row g c = own_invitation g.B.Body.id_of g.B.Body.length_of c.args.from c.args.incarnation c.args.member.now c.new-then-coordinates.result.items c.new-then-coordinates.ensures.items (sym c.coordinates.ensures ∙ c.if-coordinates.true)

pub returns-clause-row : goal.returns-clause-row
returns-clause-row g c =
    invited_row g.B.Body.id_of g.B.Body.length_of c.args.from c.args.incarnation c.args.member.now c.listen.new.self c.promise_above.new.member c.in_ok-sends.sends.items (sym c.heeds.ensures ∙ c.if-not-heeds.false) (sym c.coordinates.ensures ∙ c.if-coordinates.false) c.listen.ensures.row
    c.promise_above.ensures.row c.in_ok-sends.ensures
