use Rattle.std.proofs.Common.{length, ◌-◌, ◌≡◌, ◌≤◌, drop, cond}
use Rattle.orca_lexer.specs.Tokens.{after_gap, after_comment}
use Rattle.orca_lexer.specs.Cursors.{IsAt}
use Rattle.orca_lexer.proofs.gap.past_gap.Given as goal

abbrev pub invariant-gap : goal.invariant-gap
invariant-gap l = record {
  at : IsAt l.text l.cursor;
  gap : cond l.in_comment (after_comment (drop l.cursor.offset l.text)) (after_gap (drop l.cursor.offset l.text)) ≡ after_gap (drop l.fn.from.offset l.text);
  onward : l.fn.from.offset ≤ l.cursor.offset;
}

abbrev pub decreases-gap : goal.decreases-gap
decreases-gap l = length l.text - l.cursor.offset
