-- Code whose objects have numbers below a bound: of pieces, by what they are put together of.
use Rattle.std.proofs.Common.{◌≡◌, ℕ, zero, suc, ◌<◌, Bool, true, false, List, [], ◌∷◌, ◌++◌, Some, subst}
use Rattle.std.specs.Prelude.{slice_get}
use Rattle.orca_base.specs.declared.ids.KindNo.{KindNo}
use Rattle.orca_tree.specs.declared.tree.Mode.{Mode}
use Rattle.orca_tree.specs.declared.tree.Mode.TheVariants as mode
use Rattle.orca_tree.specs.declared.tree.Operator.{Operator}
use Rattle.orca_tree.specs.declared.tree.Operator.TheVariants as op
use Rattle.code_rules.specs.Instructions.{Instr, Make}
use Rattle.code_rules.specs.Pieces.{Piece, seq, link_piece, short_instr, choice, guard_piece, while_piece, repeat_piece, loop_piece}
use Rattle.code_rules.specs.Phrases.{by_mode}

abbrev pub IsBelow : ℕ → Instr → Type 0
IsBelow n (Make kind count slot) = count < n
IsBelow n _ = Unit {0}

abbrev pub AreBelow : ℕ → List Instr → Type 0
AreBelow n [] = Unit {0}
AreBelow n (i ∷ is) = IsBelow n i × AreBelow n is

-- wherever it begins
abbrev pub PieceBelow : ℕ → Piece → Type 0
PieceBelow n p = (pc : ℕ) → AreBelow n (p pc)

pub append_below : (n : ℕ) (xs ys : List Instr) → AreBelow n xs → AreBelow n ys → AreBelow n (xs ++ ys)
append_below n [] ys h k = k
append_below n (x ∷ xs) ys h k = (h.0, append_below n xs ys h.1 k)

pub seq_below : (n : ℕ) (a b : Piece) → PieceBelow n a → PieceBelow n b → PieceBelow n (seq a b)
seq_below n a b h k pc = append_below n (a pc) _ (h pc) (k _)

below_at : (n : ℕ) (xs : List Instr) (pc : ℕ) (i : Instr) → AreBelow n xs → slice_get xs pc ≡ Some i → IsBelow n i
below_at n [] pc i h e = absurd (cc e)
below_at n (x ∷ xs) zero i h e = let same : x ≡ i = cc in subst (IsBelow n) same h.0
below_at n (x ∷ xs) (suc pc) i h e = below_at n xs pc i h.1 e

pub made_below : (n : ℕ) (xs : List Instr) (pc : ℕ) (kind : KindNo) (count slot : ℕ) → AreBelow n xs →
    slice_get xs pc ≡ Some (Make kind count slot) → count < n
made_below n xs pc kind count slot h e = below_at n xs pc (Make kind count slot) h e

-- ---- operators

short_below : (n : ℕ) (operator : Operator) (address : ℕ) → IsBelow n (short_instr operator address)
short_below n op.Or address = tt
short_below n op.And address = tt
short_below n op.Equal address = tt
short_below n op.Different address = tt
short_below n op.Less address = tt
short_below n op.AtMost address = tt
short_below n op.Greater address = tt
short_below n op.AtLeast address = tt
short_below n op.In address = tt
short_below n op.Add address = tt
short_below n op.Subtract address = tt
short_below n op.Join address = tt
short_below n op.Multiply address = tt
short_below n op.Divide address = tt
short_below n op.Remainder address = tt

pub link_below : (n : ℕ) (short : Bool) (operator : Operator) (right : Piece) → PieceBelow n right → PieceBelow n (link_piece short operator right)
link_below n true operator right h pc = (short_below n operator _, h _)
link_below n false operator right h pc = append_below n (right pc) _ (h pc) (tt, tt)

-- ---- arguments, choices and loops

pub mode_below : (n : ℕ) (m : Mode) (value place : Piece) → PieceBelow n value → PieceBelow n place → PieceBelow n (by_mode m value place)
mode_below n mode.Value value place h k = h
mode_below n mode.Shared value place h k = h
mode_below n mode.Out value place h k = k

pub choice_below : (n : ℕ) (test a b : Piece) → PieceBelow n test → PieceBelow n a → PieceBelow n b → PieceBelow n (choice test a b)
choice_below n test a b ht ha hb pc = append_below n (test pc) _ (ht pc) (tt, append_below n (a _) _ (ha _) (tt, hb _))

pub guard_below : (n : ℕ) (test a b : Piece) → PieceBelow n test → PieceBelow n a → PieceBelow n b → PieceBelow n (guard_piece test a b)
guard_below n test a b ht ha hb pc = append_below n (test pc) _ (ht pc) (tt, seq_below n a b ha hb _)

pub while_below : (n : ℕ) (test body : Piece) → PieceBelow n test → PieceBelow n body → PieceBelow n (while_piece test body)
while_below n test body ht hb pc = (tt, (tt, append_below n (body _) _ (hb _) (append_below n (test _) _ (ht _) (tt, (tt, tt)))))

pub repeat_below : (n : ℕ) (body test : Piece) → PieceBelow n body → PieceBelow n test → PieceBelow n (repeat_piece body test)
repeat_below n body test hb ht pc = (tt, append_below n (body _) _ (hb _) (append_below n (test _) _ (ht _) (tt, tt)))

pub loop_below : (n s : ℕ) (body : Piece) → PieceBelow n body → PieceBelow n (loop_piece s body)
loop_below n s body hb pc = (tt, (tt, append_below n (body _) _ (hb _) (tt, tt)))
