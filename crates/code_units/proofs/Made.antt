-- Guards, makings and bodies, as they are appended.
use Rattle.std.proofs.lemmas.List.{length-map}
use Rattle.std.proofs.Math.ListN.{drop_of_length-le}
use Rattle.std.proofs.Common.{◌≡◌, ◌<◌, ◌≤◌, ℕ, zero, suc, ◌+◌, List, [], ◌∷◌, ◌++◌, get_or, length, map, drop, set, Option, refl, sym, ap, ◌∙◌, arith, append_assoc, length-append}
use Rattle.link_rules.specs.Units.{Source}
use Rattle.type_rules.specs.declared.types.DataType.{DataType}
use Rattle.type_rules.specs.Scopes.{Local}
use Rattle.value_core.specs.Datum.{Datum}
use Rattle.value_core.specs.View.{datum_of}
use Rattle.meaning_rules.specs.Functions.{opened}
use Rattle.meaning_rules.specs.Openings.{opening}
use Rattle.code_rules.specs.Instructions.{Instr, Guard}
use Rattle.code_rules.specs.Machine.{Body}
use Rattle.code_rules.specs.Pieces.{Piece, guard_piece, one, seq}
use Rattle.emitted_code.specs.Appends.{Appends}
use Rattle.emitted_code.specs.Views.{code_of}
use Rattle.code_exprs.proofs.Pieces.{long, patched, then}
use Rattle.emitted_code.specs.declared.bodies.EmittedBody.{EmittedBody}
use Rattle.code_units.specs.Guarded.{guarded}
use Rattle.emitted_code.specs.Views.{body_seen}

-- a list that began with nothing
pub alone : (p : Piece) (a b : List Instr) → a ≡ [] → Appends p a b → b ≡ p 0
alone p a b none x = x.is ∙ ap (λ (o : List Instr). o ++ p (length o)) none

abbrev a_body : List Instr → List Datum → ℕ → Body
a_body code opens spare = record { code = code; opens = opens; spare = spare }

pub body_is : (b : EmittedBody) (code : List Instr) (opens : List Datum) (spare : ℕ) → code_of b.code ≡ code → map datum_of b.opens.items ≡ opens → b.spare ≡ spare →
    body_seen b ≡ record { code = code; opens = opens; spare = spare }
body_is b code opens spare e f g =
    ap (λ (is : List Instr). a_body is (map datum_of b.opens.items) b.spare) e
    ∙ ap (λ (xs : List Datum). a_body code xs b.spare) f
    ∙ ap (λ (k : ℕ). a_body code opens k) g

pub opened_is : (us : List Source) (ls : List Local) → map (opening us) (map (λ l. l.type) ls) ≡ opened us ls
opened_is us [] = refl
opened_is us (l ∷ ls) = ap (λ (xs : List Datum). opening us l.type ∷ xs) (opened_is us ls)

-- a guard with its body
pub guard_made : (test body : Piece) (h : Instr) (a b c d e : List Instr) (at to : ℕ) → Appends test a b → at ≡ length b → Appends (one h) b c → Appends body c d →
    to ≡ length d → e ≡ set d at (Guard to) → Appends (guarded test body) a e
guard_made test body h a b c d e at to x1 here x2 x3 there is =
    let n = length b in
    let both = then (one h) body b c d x2 x3 in
    let ld : length d ≡ n + suc (length (body (n + 1))) = long (seq (one h) body) b d both in
    let goal : to ≡ n + 1 + length (body (n + 1)) = omega (arith, ld, there) in
    let tail : Piece = λ pc. Guard (pc + 1 + length (body (pc + 1))) ∷ body (pc + 1) in
    let made = patched h (λ pc. Guard (pc + 1 + length (body (pc + 1)))) body b d (Guard to) both (ap (λ (k : ℕ). Guard k) goal) in
    let last : Appends tail b e = record { is = is ∙ ap (λ (k : ℕ). set d k (Guard to)) here ∙ made.is } in
    record { is = (then test tail a b e x1 last).is }

-- and the guards behind it
pub guard_then : (test body rest : Piece) (a c d : List Instr) → Appends (guarded test body) a c → Appends rest c d → Appends (guard_piece test body rest) a d
guard_then test body rest a c d x y =
    let n = length a in
    let t = test n in
    let begins = n + length t + 1 in
    let b = body begins in
    let g = Guard (begins + length b) in
    let place : n + length (t ++ g ∷ b) ≡ begins + length b = omega (arith, length-append t (g ∷ b)) in
    record {
      is = (then (guarded test body) rest a c d x y).is
          ∙ ap (λ (o : List Instr). a ++ o)
          (append_assoc t (g ∷ b) (rest (n + length (t ++ g ∷ b))) ∙ ap (λ (k : ℕ). t ++ (g ∷ (b ++ rest k))) place);
    }

-- the variable at a place
pub local_there : (ls : List Local) (ts : List (Option DataType)) (i : ℕ) (t : Option DataType) → ts ≡ map (λ l. l.type) ls → i < length ts → t ≡ get_or ts i t →
    (l : Local) × ((l.type ≡ t) × (drop i ls ≡ l ∷ drop (i + 1) ls))
local_there [] ts i t e lt is = let none : length ts ≡ 0 = ap (λ (k : List (Option DataType)). length k) e in absurd (omega (arith, none, lt))
local_there (l ∷ ls) [] i t e lt is = absurd (omega (arith, lt))
local_there (l ∷ ls) (u ∷ ts) zero t e lt is = (l, (sym (ap (λ (k : List (Option DataType)). get_or k 0 t) e) ∙ sym is, refl))
local_there (l ∷ ls) (u ∷ ts) (suc i) t e lt is =
    let low : i < length ts = omega (arith, lt) in
    let next : suc i + 1 ≡ suc (i + 1) = omega arith in
    let r = local_there ls ts i t (ap (λ (k : List (Option DataType)). drop 1 k) e) low is in
    (r.0, (r.1.0, r.1.1 ∙ ap (λ (k : List Local). r.0 ∷ k) (ap (λ (k : ℕ). drop k (l ∷ ls)) (sym next))))

pub drop_types : (i : ℕ) (ls : List Local) → drop i (map (λ l. l.type) ls) ≡ map (λ l. l.type) (drop i ls)
drop_types zero ls = refl
drop_types (suc i) [] = refl
drop_types (suc i) (l ∷ ls) = drop_types i ls

pub no_locals : (ls : List Local) (ts : List (Option DataType)) (i : ℕ) → ts ≡ map (λ l. l.type) ls → length ts ≤ i → drop i ls ≡ []
no_locals ls ts i e le =
    let same : length ts ≡ length ls = ap (λ (k : List (Option DataType)). length k) e ∙ length-map ls (λ (l : Local). l.type) in
    let low : length ls ≤ i = omega (arith, same, le) in
    drop_of_length-le ls low
