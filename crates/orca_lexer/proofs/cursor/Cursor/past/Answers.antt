use Rattle.std.proofs.Common.{arith, ap}
use Rattle.orca_base.specs.declared.place.Place.{Place}
use Rattle.orca_lexer.proofs.Places.{column_within}
use Rattle.orca_lexer.proofs.cursor.Cursor.past.Goals as goal

pub overflow_add-at-else-text-self-eq10 : goal.overflow_add-at-else-text-self-eq10
overflow_add-at-else-text-self-eq10 c =
    let is = ap (λ (p : Place). p.column) c.requires.at.place in
    omega (arith, is, column_within c.args.text.now c.args.self.offset)
