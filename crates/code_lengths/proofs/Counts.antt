-- Lengths of pieces, and of what is spelled.
use Rattle.std.proofs.Common.{◌≡◌, ◌≤◌, Bool, true, false, ℕ, suc, ◌+◌, List, [], ◌∷◌, ◌++◌, length, refl, ap, ◌∙◌, arith, length-append}
use Rattle.orca_lexer.specs.declared.token.TokenKind.{TokenKind}
use Rattle.orca_tree.specs.declared.tree.Mode.{Mode}
use Rattle.orca_tree.specs.declared.tree.Mode.TheVariants as mode
use Rattle.orca_tree.specs.declared.tree.Operator.{Operator}
use Rattle.orca_grammar.specs.Forms.{End, spelled}
use Rattle.orca_grammar.proofs.Placed.{spelled_append}
use Rattle.orca_syntax.specs.Forest.{Forest, none, token, group, flat}
use Rattle.code_rules.specs.Instructions.{Jump, Unless, Upto, Guard, Apply}
use Rattle.code_rules.specs.Pieces.{Piece, seq, link_piece, choice, guard_piece, while_piece, repeat_piece, loop_piece}
use Rattle.code_rules.specs.Phrases.{by_mode}
use Rattle.code_lengths.proofs.Tokens.{tokens}

-- the tokens of a forest are those that it spells
pub tokens_are : (f : Forest) → length (spelled (flat f)) ≡ tokens f
tokens_are none = refl
tokens_are (token p k f) = ap (λ (n : ℕ). suc n) (tokens_are f)
tokens_are (group b g f) =
    ap (λ (ks : List TokenKind). length ks) (spelled_append (flat g) (End b ∷ flat f))
    ∙ length-append (spelled (flat g)) (spelled (flat f))
    ∙ ap (λ (n : ℕ). n + length (spelled (flat f))) (tokens_are g)
    ∙ ap (λ (n : ℕ). tokens g + n) (tokens_are f)

-- ---- pieces

pub seq_long : (a b : Piece) (pc : ℕ) → length (seq a b pc) ≡ length (a pc) + length (b (pc + length (a pc)))
seq_long a b pc = length-append (a pc) (b (pc + length (a pc)))

pub link_long : (short : Bool) (operator : Operator) (right : Piece) (n t pc : ℕ) → ((q : ℕ) → length (right q) + t ≤ n) →
    length (link_piece short operator right pc) + t ≤ n + 1
link_long true operator right n t pc h = let le = h (pc + 1) in omega (arith, le)
link_long false operator right n t pc h = let le = h pc in omega (arith, le, length-append (right pc) (Apply operator ∷ []))

pub choice_long : (test a b : Piece) (x y z pc : ℕ) → ((q : ℕ) → length (test q) ≤ x) → ((q : ℕ) → length (a q) ≤ y) → ((q : ℕ) → length (b q) ≤ z) →
    length (choice test a b pc) ≤ x + y + z + 2
choice_long test a b x y z pc hx hy hz =
    let body = pc + length (test pc) + 1 in
    let others = body + length (a body) + 1 in
    let jump = Jump (others + length (b others)) in
    let lx = hx pc in
    let ly = hy body in
    let lz = hz others in
    let outer = length-append (test pc) (Unless others ∷ (a body ++ (jump ∷ b others))) in
    let inner = length-append (a body) (jump ∷ b others) in
    omega (arith, lx, ly, lz, outer, inner)

pub while_long : (test body : Piece) (x y pc : ℕ) → ((q : ℕ) → length (test q) ≤ x) → ((q : ℕ) → length (body q) ≤ y) → length (while_piece test body pc) ≤ x + y + 4
while_long test body x y pc hx hy =
    let ask = pc + 1 + 1 + length (body (pc + 1 + 1)) in
    let end = Unless (ask + length (test ask) + 1 + 1) ∷ (Jump (pc + 1) ∷ []) in
    let lx = hx ask in
    let ly = hy (pc + 1 + 1) in
    let outer = length-append (body (pc + 1 + 1)) (test ask ++ end) in
    let inner = length-append (test ask) end in
    omega (arith, lx, ly, outer, inner)

pub repeat_long : (body test : Piece) (x y pc : ℕ) → ((q : ℕ) → length (body q) ≤ x) → ((q : ℕ) → length (test q) ≤ y) → length (repeat_piece body test pc) ≤ x + y + 2
repeat_long body test x y pc hx hy =
    let ask = pc + 1 + length (body (pc + 1)) in
    let lx = hx (pc + 1) in
    let ly = hy ask in
    let outer = length-append (body (pc + 1)) (test ask ++ (Unless pc ∷ [])) in
    let inner = length-append (test ask) (Unless pc ∷ []) in
    omega (arith, lx, ly, outer, inner)

pub loop_long : (s : ℕ) (body : Piece) (x pc : ℕ) → ((q : ℕ) → length (body q) ≤ x) → length (loop_piece s body pc) ≤ x + 3
loop_long s body x pc hx =
    let lx = hx (pc + 1 + 1) in
    let outer = length-append (body (pc + 1 + 1)) (Upto s (pc + 1) ∷ []) in
    omega (arith, lx, outer)

pub guard_long : (test body others : Piece) (x y z pc : ℕ) → ((q : ℕ) → length (test q) ≤ x) → ((q : ℕ) → length (body q) ≤ y) → ((q : ℕ) → length (others q) ≤ z) →
    length (guard_piece test body others pc) ≤ x + y + z + 1
guard_long test body others x y z pc hx hy hz =
    let begins = pc + length (test pc) + 1 in
    let after = begins + length (body begins) in
    let lx = hx pc in
    let ly = hy begins in
    let lz = hz after in
    let outer = length-append (test pc) (Guard after ∷ (body begins ++ others after)) in
    let inner = length-append (body begins) (others after) in
    omega (arith, lx, ly, lz, outer, inner)

pub seq_short : (a b : Piece) (x y pc : ℕ) → ((q : ℕ) → length (a q) ≤ x) → ((q : ℕ) → length (b q) ≤ y) → length (seq a b pc) ≤ x + y
seq_short a b x y pc hx hy =
    let lx = hx pc in
    let ly = hy (pc + length (a pc)) in
    omega (arith, lx, ly, seq_long a b pc)

pub mode_short : (m : Mode) (a b : Piece) (x : ℕ) (pc : ℕ) → length (a pc) ≤ x → length (b pc) ≤ x → length (by_mode m a b pc) ≤ x
mode_short mode.Value a b x pc ha hb = ha
mode_short mode.Shared a b x pc ha hb = ha
mode_short mode.Out a b x pc ha hb = hb
