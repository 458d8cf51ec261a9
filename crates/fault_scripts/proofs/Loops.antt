-- Reading lines: what was read, and what is still to be read.
use Rattle.std.proofs.Common.{◌≡◌, ℕ, ◌+◌, ◌<◌, ◌≤◌, Bool, List, [], ◌∷◌, ◌++◌, length, get_or, drop, map, Bor, ap, refl, sym, ◌∙◌, append_assoc, append-nil}
use Rattle.std.specs.Prelude.{Option, Some, None, Result, Ok, Err}
use Rattle.std.specs.List.{cons_option}
use Rattle.std.proofs.lemmas.List.{at_drop_more, drop_all}
use Rattle.orca_base.specs.declared.refusal.Refusal.{Refusal}
use Rattle.orca_base.specs.declared.refusal.Refusal.TheVariants.{Because, NoMemory}
use Rattle.net_rules.specs.declared.line.ScriptLine.{ScriptLine}
use Rattle.fault_scripts.specs.declared.error.ScriptError.{ScriptError}
use Rattle.fault_scripts.specs.Reading.{◌>>=◌, Answers, line_at, lines_at, seeded_by}

-- what was read stands in front of what is read
abbrev pub with_front : List ScriptLine → Result (List ScriptLine) ScriptError → Result (List ScriptLine) ScriptError
with_front front (Ok said) = Ok (front ++ said)
with_front front (Err e) = Err e

-- the lines from this one on
abbrev pub left : Bool → ℕ → List (Bor (List ℕ)) → Result (List ScriptLine) ScriptError
left seeded index lines = lines_at seeded (index + 1) (map (λ line. line.now) (drop index lines))

-- what a line says stands in front of what those behind it say
abbrev onto : Option ScriptLine → Result (List ScriptLine) ScriptError → Result (List ScriptLine) ScriptError
onto one rest = rest >>= λ others. Ok (cons_option one others)

-- no line
abbrev pub no_line : Bor (List ℕ)
no_line = record { ref_ptr = (0, 0); now = [] }

-- one line more
step : (seeded : Bool) (index : ℕ) (lines : List (Bor (List ℕ))) (d : Bor (List ℕ)) → index < length lines →
    left seeded index lines ≡ (line_at seeded (index + 1) (get_or lines index d).now >>= λ one. onto one (left (seeded_by seeded one) (index + 1) lines))
unfolding lines_at
step seeded index lines d below = at_drop_more (λ (ls : List (Bor (List ℕ))). lines_at seeded (index + 1) (map (λ l. l.now) ls)) lines index d below

joined : (front : List ScriptLine) (one : Option ScriptLine) (rest : Result (List ScriptLine) ScriptError) →
    with_front front (onto one rest) ≡ with_front (front ++ cons_option one []) rest
joined front one (Err e) = refl
joined front None (Ok others) = ap (λ xs. Ok (xs ++ others)) (sym (append-nil front))
joined front (Some line) (Ok others) = ap (λ xs. Ok xs) (sym (append_assoc front (line ∷ []) others))

-- what was read of it stands behind what was read
pub goes_on : (front now : List ScriptLine) (seeded after : Bool) (index : ℕ) (lines : List (Bor (List ℕ))) (d : Bor (List ℕ)) (one : Option ScriptLine)
    (all : Result (List ScriptLine) ScriptError) → index < length lines → line_at seeded (index + 1) (get_or lines index d).now ≡ Ok one →
    now ≡ front ++ cons_option one [] → after ≡ seeded_by seeded one → with_front front (left seeded index lines) ≡ all →
    with_front now (left after (index + 1) lines) ≡ all
goes_on front now seeded after index lines d one all below read grew then was =
    ap (λ xs. with_front xs (left after (index + 1) lines)) grew
    ∙ ap (λ b. with_front (front ++ cons_option one []) (left b (index + 1) lines)) then
    ∙ sym (joined front one (left (seeded_by seeded one) (index + 1) lines))
    ∙ ap (λ r. with_front front (r >>= λ x. onto x (left (seeded_by seeded x) (index + 1) lines))) (sym read)
    ∙ ap (with_front front) (sym (step seeded index lines d below)) ∙ was

-- what is wrong with it is told
pub stops : (front : List ScriptLine) (seeded : Bool) (index : ℕ) (lines : List (Bor (List ℕ))) (d : Bor (List ℕ)) (e : ScriptError)
    (all : Result (List ScriptLine) ScriptError) → index < length lines → line_at seeded (index + 1) (get_or lines index d).now ≡ Err e →
    with_front front (left seeded index lines) ≡ all → all ≡ Err e
stops front seeded index lines d e all below read was =
    sym was ∙ ap (with_front front) (step seeded index lines d below)
    ∙ ap (λ r. with_front front (r >>= λ x. onto x (left (seeded_by seeded x) (index + 1) lines))) read

-- no line is left
pub ends : (front : List ScriptLine) (seeded : Bool) (index : ℕ) (lines : List (Bor (List ℕ))) (all : Result (List ScriptLine) ScriptError) →
    length lines ≤ index → with_front front (left seeded index lines) ≡ all → all ≡ Ok front
unfolding lines_at
ends front seeded index lines all past was =
    sym was ∙ ap (λ ls. with_front front (lines_at seeded (index + 1) (map (λ l. l.now) ls))) (drop_all index lines past) ∙ ap (λ xs. Ok xs) (append-nil front)

-- and want of memory says nothing
pub passes : {X : Type 0} (e : Refusal ScriptError) (front : List ScriptLine) (seeded : Bool) (index : ℕ) (lines : List (Bor (List ℕ))) (d : Bor (List ℕ))
    (all : Result (List ScriptLine) ScriptError) → index < length lines →
    Answers {X = Option ScriptLine} (λ x. x) (Err e) (line_at seeded (index + 1) (get_or lines index d).now) →
    with_front front (left seeded index lines) ≡ all → (view : X → List ScriptLine) → Answers view (Err e) all
passes (Because e) front seeded index lines d all below read was view = stops front seeded index lines d e all below read was
passes NoMemory front seeded index lines d all below read was view = tt
