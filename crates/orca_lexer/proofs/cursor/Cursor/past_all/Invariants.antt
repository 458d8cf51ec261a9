use Rattle.std.proofs.Common.{◌≡◌, ◌+◌}
use Rattle.orca_lexer.specs.Cursors.{IsAt}
use Rattle.orca_lexer.proofs.cursor.Cursor.past_all.Given as goal

abbrev pub invariant-bytes : goal.invariant-bytes
invariant-bytes l = record { at : IsAt l.text l.cursor; offset : l.cursor.offset ≡ l.fn.self.offset + l.counter }
