-- One line more: of losses, of a history, and of a text that is printed.
use Rattle.std.proofs.Common.{◌≡◌, ℕ, ◌+◌, ◌<◌, ◌≤◌, List, [], ◌∷◌, ◌++◌, length, map, get_or, take, drop, add-one, refl, sym, ap, ◌∙◌, subst}
use Rattle.std.specs.Prelude.{Option, Ok, Err}
use Rattle.std.specs.List.{flat_map}
use Rattle.std.proofs.lemmas.List.{drop_all, flat_map_more, take_more}
use Rattle.orca_io.specs.declared.sink.SinkFault.{SinkFault}
use Rattle.orca_io.specs.Sinks.{Puts}
use Rattle.net_rules.specs.declared.line.ScriptLine.{ScriptLine}
use Rattle.command_output.specs.Printed.{Grew, WroteOf}
use Rattle.command_output.proofs.Putting.{GrewUpTo, grew_all, grew_front, grew_item_fault}
use Rattle.generated_program.specs.Program.{ended, text_of}
use Rattle.make_command.specs.Losses.{loss, losses}

pub loss_more : (n : ℕ) (lines : List ScriptLine) (line : ScriptLine) → lines ≡ losses n → line ≡ loss (n + 1) → lines ++ line ∷ [] ≡ losses (n + 1)
loss_more n lines line had is =
    (λ i. had i ++ is i ∷ []) ∙ ap (λ k. losses n ++ loss k ∷ []) (add-one n) ∙ ap losses (sym (add-one n))

-- what is written for the front of some items, one item on
pub text_more : {A : Type 0} (text : A → List ℕ) (done : List ℕ) (xs : List A) (i : ℕ) (x : A) → i < length xs → x ≡ get_or xs i x →
    done ≡ flat_map text (take i xs) → done ++ text x ≡ flat_map text (take (i + 1) xs)
text_more text done xs i x less is had =
    ap (λ (l : List ℕ). l ++ text x) had
    ∙ flat_map_more text [] (take i xs) x
    ∙ ap (λ y. flat_map text (take i xs ++ y ∷ [])) is
    ∙ ap (flat_map text) (sym (take_more xs i x less))

-- the text of lines that are seen of some items
pub seen_text : {A : Type 0} (view : A → List ℕ) (xs : List A) → flat_map (λ x. ended (view x)) xs ≡ text_of (map view xs)
seen_text view [] = refl
seen_text view (x ∷ xs) = ap (λ (l : List ℕ). ended (view x) ++ l) (seen_text view xs)

-- ---- what was printed of lines, each with its line feed

abbrev written : {A : Type 0} → (A → List ℕ) → List A → List ℕ
written view xs = flat_map (λ x. ended (view x)) xs

pub printed_all : {A : Type 0} (view : A → List ℕ) (first old : Option (List ℕ)) (xs : List A) (i : ℕ) → length xs ≤ i →
    GrewUpTo first old (written view xs) (written view (drop i xs)) → Grew first old (WroteOf (Ok tt) (text_of (map view xs)))
printed_all view first old xs i over told =
    subst (λ (t : List ℕ). Grew first old (WroteOf (Ok tt) t)) (seen_text view xs)
    (grew_all first old (written view xs) (written view (drop i xs)) (ap (written view) (drop_all i xs over)) told)

pub printed_front : {A : Type 0} (view : A → List ℕ) (first old : Option (List ℕ)) (xs : List A) (i : ℕ) (fault : SinkFault) →
    GrewUpTo first old (written view xs) (written view (drop i xs)) → Grew first old (WroteOf (Err fault) (text_of (map view xs)))
printed_front view first old xs i fault told =
    subst (λ (t : List ℕ). Grew first old (WroteOf (Err fault) t)) (seen_text view xs)
    (grew_front first old (written view xs) (written view (drop i xs)) fault told)

pub printed_fault : {A : Type 0} (view : A → List ℕ) (first old new : Option (List ℕ)) (xs : List A) (i : ℕ) (x : A) (piece : List ℕ) (fault : SinkFault) →
    i < length xs → x ≡ get_or xs i x → piece ≡ ended (view x) → GrewUpTo first old (written view xs) (written view (drop i xs)) →
    Puts old new piece (Err fault) → Grew first new (WroteOf (Err fault) (text_of (map view xs)))
printed_fault view first old new xs i x piece fault less is says told puts =
    subst (λ (t : List ℕ). Grew first new (WroteOf (Err fault) t)) (seen_text view xs)
    (grew_item_fault (λ y. ended (view y)) first old new xs i x piece fault less is says told puts)
