-- Jumps whose addresses are known only when what stands behind them has been emitted.
use Rattle.std.specs.Prelude.{ℕ, ◌+◌, List, [], ◌∷◌, length, set}
use Rattle.code_rules.specs.Instructions.{Instr, Jump, Unless}
use Rattle.code_rules.specs.Pieces.{Piece, choice}
use Rattle.emitted_code.specs.Appends.{Appends}

-- the end of a loop: on behind it, or back
abbrev pub closing : ℕ → Piece
closing back pc = Unless (pc + 1 + 1) ∷ (Jump back ∷ [])

-- an arm with its test has been emitted, but for the jump at its end: whoever appends the other arms has appended the choice, once the jump
-- leads behind them
abbrev pub IsArm : Piece → Piece → List Instr → List Instr → ℕ → Type 0
IsArm test body old new hole = (rest : Piece) (all : List Instr) → Appends rest new all → Appends (choice test body rest) old (set all hole (Jump (length all)))

-- the jumps at these addresses lead to this one
abbrev pub aimed : List ℕ → ℕ → List Instr → List Instr
aimed [] to code = code
aimed (hole ∷ holes) to code = set (aimed holes to code) hole (Jump to)
