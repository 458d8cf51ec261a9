-- Pieces of code: each is a function of the address at which it begins, and they are put together as phrases are.
use Rattle.std.specs.Prelude.{ℕ, ◌+◌, List, [], ◌∷◌, ◌++◌, length, Bool, true, false}
use Rattle.orca_tree.specs.declared.tree.Operator.{Operator}
use Rattle.orca_tree.specs.declared.tree.Operator.TheVariants as op
use Rattle.code_rules.specs.Instructions.{Instr, Apply, And, Or, Turn, Jump, Unless, Count, Upto, Guard}

abbrev pub Piece : Type 0
Piece = ℕ → List Instr

abbrev pub empty : Piece
empty pc = []

abbrev pub one : Instr → Piece
one i pc = i ∷ []

-- one behind the other
abbrev pub seq : Piece → Piece → Piece
seq a b pc = a pc ++ b (pc + length (a pc))

-- ---- operators: `right; op`, and of `and` and `or` `and end; right; end:`

abbrev pub is_short : Operator → Bool
is_short op.Or = true
is_short op.And = true
is_short _ = false

abbrev pub short_instr : Operator → ℕ → Instr
short_instr op.Or address = Or address
short_instr _ address = And address

abbrev pub link_piece : Bool → Operator → Piece → Piece
link_piece true operator right pc = short_instr operator (pc + 1 + length (right (pc + 1))) ∷ right (pc + 1)
link_piece false operator right pc = right pc ++ Apply operator ∷ []

-- ---- choices

-- `test; unless others; a; jump end; others: b; end:`
abbrev pub choice : Piece → Piece → Piece → Piece
choice test a b pc =
    let body = pc + length (test pc) + 1 in
    let others = body + length (a body) + 1 in
    test pc ++ (Unless others ∷ (a body ++ (Jump (others + length (b others)) ∷ b others)))

-- `test; guard others; body; others:`
abbrev pub guard_piece : Piece → Piece → Piece → Piece
guard_piece test body others pc =
    let begins = pc + length (test pc) + 1 in
    test pc ++ (Guard (begins + length (body begins)) ∷ seq body others begins)

-- ---- loops

-- `jump ask; again: turn; body; ask: test; unless end; jump again; end:`
abbrev pub while_piece : Piece → Piece → Piece
while_piece test body pc =
    let ask = pc + 1 + 1 + length (body (pc + 1 + 1)) in
    Jump ask ∷ (Turn ∷ (body (pc + 1 + 1) ++ (test ask ++ (Unless (ask + length (test ask) + 1 + 1) ∷ (Jump (pc + 1) ∷ [])))))

-- `again: turn; body; test; unless again`
abbrev pub repeat_piece : Piece → Piece → Piece
repeat_piece body test pc = Turn ∷ (body (pc + 1) ++ (test (pc + 1 + length (body (pc + 1))) ++ (Unless pc ∷ [])))

-- `count slot end; again: turn; body; upto slot again; end:`, behind both bounds
abbrev pub loop_piece : ℕ → Piece → Piece
loop_piece s body pc =
    Count s (pc + 1 + 1 + length (body (pc + 1 + 1)) + 1) ∷ (Turn ∷ (body (pc + 1 + 1) ++ (Upto s (pc + 1) ∷ [])))
