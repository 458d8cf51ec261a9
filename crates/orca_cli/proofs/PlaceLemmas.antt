-- The places of a history's lines, as they are printed.
use Rattle.std.proofs.Common.{◌≡◌, ◌∙◌, ◌<◌, ◌≤◌, ◌+◌, ℕ, zero, suc, min, Bool, true, false, List, [], ◌∷◌, ◌++◌, length, get_or, slice_get, drop, add-one, drop-cons, Option, Some, None, Result, Ok, Err, ap, sym, subst, refl, arith}
use Rattle.std.proofs.lemmas.List.{append-nil}
use Rattle.std.proofs.lemmas.Option.{slice_get_within}
use Rattle.orca_io.specs.declared.sink.SinkFault.{SinkFault}
use Rattle.orca_io.specs.Sinks.{Puts}
use Rattle.value_core.specs.declared.action.Line.{Line}
use Rattle.world_rules.specs.declared.standing.PlaceNote.{PlaceNote}
use Rattle.world_places.specs.Text.{placed_text, places_text}
use Rattle.command_output.specs.Printed.{Grew, WroteOf}
use Rattle.command_output.proofs.Putting.{GrewUpTo, grew_all, grew_fault, grew_put}
use Rattle.orca_cli.specs.Standings.{places_said}

-- they aren't asked for
pub placed_none : (told : Option (List ℕ)) (asked : Bool) (book : List Line) (notes : List PlaceNote) → asked ≡ false → Grew told told (WroteOf (Ok tt) (places_said asked book notes))
placed_none None asked book notes not = refl
placed_none (Some old) asked book notes not = ([], sym (append-nil old), ap (λ (b : Bool). places_said b book notes) (sym not))

-- they are
pub placed_all : (old new : Option (List ℕ)) (asked : Bool) (book : List Line) (notes : List PlaceNote) (put : Result Unit SinkFault) → asked ≡ true → Grew old new (WroteOf put (places_text book notes)) → Grew old new (WroteOf put (places_said asked book notes))
placed_all old new asked book notes put is grew = subst (λ (b : Bool). Grew old new (WroteOf put (places_said b book notes))) (sym is) grew

drop_next : {A : Type 0} (xs : List A) (i : ℕ) (x : A) → Some x ≡ slice_get xs i → drop i xs ≡ x ∷ drop (suc i) xs
drop_next [] i x at = absurd (let lt = slice_get_within [] i x (sym at) in omega (arith, lt))
drop_next {A} (y ∷ xs) zero x at = let e : x ≡ y = cc at in ap (λ (z : A). z ∷ xs) (sym e)
drop_next (y ∷ xs) (suc i) x at = drop_next xs i x at

-- what is left from a place on begins with the line there
left_at : (book : List Line) (notes : List PlaceNote) (i : ℕ) (line : Line) (note : PlaceNote) → i < length book → line ≡ get_or book i line → Some note ≡ slice_get notes i
    → places_text (drop i book) (drop i notes) ≡ placed_text line note ++ places_text (drop (suc i) book) (drop (suc i) notes)
left_at book notes i line note low is at =
    let rest : List ℕ = places_text (drop (suc i) book) (drop (suc i) notes) in
    ap (λ (ls : List Line). places_text ls (drop i notes)) (drop-cons book i line low)
    ∙ ap (λ (ns : List PlaceNote). places_text (get_or book i line ∷ drop (suc i) book) ns) (drop_next notes i note at)
    ∙ ap (λ (l : Line). placed_text l note ++ rest) (sym is)

module _ (first old new : Option (List ℕ)) (book : List Line) (notes : List PlaceNote) (i : ℕ) (line : Line) (note : PlaceNote) (piece : List ℕ) where
  here : i < length book → line ≡ get_or book i line → Some note ≡ slice_get notes i → piece ≡ placed_text line note → GrewUpTo first old (places_text book notes) (places_text (drop i book) (drop i notes))
      → GrewUpTo first old (places_text book notes) (piece ++ places_text (drop (suc i) book) (drop (suc i) notes))
  here low is at says told =
      subst (GrewUpTo first old (places_text book notes)) (left_at book notes i line note low is at ∙ ap (λ (l : List ℕ). l ++ places_text (drop (suc i) book) (drop (suc i) notes)) (sym says)) told

  -- one line more was put
  pub place_put : i < length book → line ≡ get_or book i line → Some note ≡ slice_get notes i → piece ≡ placed_text line note → GrewUpTo first old (places_text book notes) (places_text (drop i book) (drop i notes))
      → Puts old new piece (Ok tt) → GrewUpTo first new (places_text book notes) (places_text (drop (i + 1) book) (drop (i + 1) notes))
  place_put low is at says told puts =
      subst (λ (k : ℕ). GrewUpTo first new (places_text book notes) (places_text (drop k book) (drop k notes))) (sym (add-one i))
      (grew_put first old new (places_text book notes) piece (places_text (drop (suc i) book) (drop (suc i) notes)) (here low is at says told) puts)

  -- or not whole
  pub place_fault : (fault : SinkFault) → i < length book → line ≡ get_or book i line → Some note ≡ slice_get notes i → piece ≡ placed_text line note → GrewUpTo first old (places_text book notes) (places_text (drop i book) (drop i notes))
      → Puts old new piece (Err fault) → Grew first new (WroteOf (Err fault) (places_text book notes))
  place_fault fault low is at says told puts =
      grew_fault first old new (places_text book notes) piece (places_text (drop (suc i) book) (drop (suc i) notes)) fault (here low is at says told) puts

-- all were
drop_none : {A : Type 0} (i : ℕ) → ◌≡◌ {A = List A} (drop i []) []
drop_none zero = refl
drop_none (suc i) = refl

no_notes : (book : List Line) → places_text book [] ≡ []
no_notes [] = refl
no_notes (line ∷ book) = refl

nothing_left : (book : List Line) (notes : List PlaceNote) (i : ℕ) → min (length book) (length notes) ≤ i → places_text (drop i book) (drop i notes) ≡ []
nothing_left [] notes i le = ap (λ (ls : List Line). places_text ls (drop i notes)) (drop_none i)
nothing_left (line ∷ book) [] i le = ap (λ (ns : List PlaceNote). places_text (drop i (line ∷ book)) ns) (drop_none i) ∙ no_notes (drop i (line ∷ book))
nothing_left (line ∷ book) (note ∷ notes) zero le = absurd (omega (arith, le))
nothing_left (line ∷ book) (note ∷ notes) (suc i) le = nothing_left book notes i (omega (arith, le))

pub places_over : (first new : Option (List ℕ)) (book : List Line) (notes : List PlaceNote) (i : ℕ) → min (length book) (length notes) ≤ i → GrewUpTo first new (places_text book notes) (places_text (drop i book) (drop i notes)) → Grew first new (WroteOf (Ok tt) (places_text book notes))
places_over first new book notes i le told = grew_all first new (places_text book notes) (places_text (drop i book) (drop i notes)) (nothing_left book notes i le) told
