use Rattle.std.proofs.Common.{◌∙◌}
use Rattle.run_ends.proofs.telling.book.Goals as goal

pub returns : goal.returns
returns g c w is =
    let order = c.in_ok-performed.ensures {u = tt} in
    c.in_ok-lines.ensures {u = tt} ∙ order.lines w is
