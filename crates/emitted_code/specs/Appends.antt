-- What is appended.
use Rattle.std.specs.Prelude.{◌≡◌, List, ◌++◌, length}
use Rattle.code_rules.specs.Instructions.{Instr}
use Rattle.code_rules.specs.Pieces.{Piece}

-- the code has become longer by a piece
pub record Appends (p : Piece) (old new : List Instr) : Type 0 where
  pub is : new ≡ old ++ p (length old)
