use Rattle.std.proofs.Common.{◌≡◌, ◌∙◌, []}
use Rattle.bag_copies.proofs.entries.sent_on.Goals as goal

pub returns-clause-same : goal.returns-clause-same
returns-clause-same c =
    let now = c.args.copies.now in
    let none : now.singles ≡ [] = c.has_singles.ensures.0 c.if-has_singles.false in
    let alone = c.copies_law.ensures.none now c.requires.0 c.whole.ensures.counted none in
    let made = c.in_ok-from_state.ensures {u = tt} in
    c.copies_law.ensures.states _ now made.plain alone (made.state ∙ (c.in_ok-state.ensures {u = tt}).state)
