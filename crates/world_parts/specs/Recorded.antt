-- What is kept of a run in code.
use Rattle.std.specs.Prelude.{ℕ, List, [], ◌∷◌, ◌++◌}
use Rattle.value_core.specs.declared.message.Message.{Message}
use Rattle.book_law.specs.declared.placing.Placed.{Placed}
use Rattle.book_law.specs.Performed.{placed}
use Rattle.world_rules.specs.declared.event.Step.{Step}
use Rattle.world_parts.specs.declared.ledger.Piece.{Piece}
use Rattle.world_parts.specs.declared.ledger.Piece.TheVariants.{Lines, One}

-- what came together, one by one
abbrev pub of_piece : Piece → List Placed
of_piece (Lines place lines) = placed place lines
of_piece (One one) = one ∷ []

abbrev pub of_pieces : List Piece → List Placed
of_pieces [] = []
of_pieces (piece ∷ pieces) = of_piece piece ++ of_pieces pieces

-- the steps, the entries of the list, and what was performed, in order of events; and for how many more steps, entries and pieces there is room
pub record Recorded : Type 0 where
  pub steps : List Step
  pub entries : List Message
  pub performed : List Placed
  pub step_room : ℕ
  pub entry_room : ℕ
  pub piece_room : ℕ
