-- The notes and the lines of a book stand side by side, place by place.
use Rattle.std.proofs.Common.{◌≡◌, ◌<◌, ◌≤◌, ◌+◌, ◌==◌, ℕ, zero, suc, Bool, true, false, if◌then◌else◌, List, [], ◌∷◌, ◌++◌, length, length-append, take, map, nat_le, refl, sym, ap, ◌∙◌, arith}
use Rattle.std.proofs.lemmas.Bool.{le-leb, lt-leb}
use Rattle.std.proofs.lemmas.List.{take_all}
use Rattle.value_core.specs.declared.action.Action.{Action}
use Rattle.value_core.specs.declared.action.Action.TheVariants as action
use Rattle.value_core.specs.declared.action.Line.{Line}
use Rattle.value_core.specs.declared.message.Message.{Message}
use Rattle.object_manager.specs.After.{Copied, opening_copies}
use Rattle.book_law.specs.Book.{aside_at, book, book_from}
use Rattle.book_law.specs.Passes.{Test, after, lines_after}
use Rattle.book_law.specs.declared.placing.Placed.{Placed}
use Rattle.book_law.proofs.Books.{cut}
use Rattle.world_rules.specs.declared.standing.PlaceNote.{PlaceNote}
use Rattle.world_rules.specs.declared.standing.PlaceNote.TheVariants as note
use Rattle.world_rules.specs.Frame.{Frame}
use Rattle.world_rules.specs.Worlds.{agreed, aside_note, aside_notes, called_note, notes_from, singles_in}
use Rattle.world_facts.specs.Places.{AllPlaced, FrontsOfBooks, WorkedPlaces, lines_to, number_of}

-- ---- lists side by side

-- both lists are equally long, and each note has this number
pub record Beside (k : ℕ) (notes : List PlaceNote) (lines : List Line) : Type 0 where
  pub long : length notes ≡ length lines
  pub within : (n : ℕ) → k ≤ n → lines_to n notes lines ≡ lines
  pub beyond : (n : ℕ) → n < k → lines_to n notes lines ≡ []

beside_none : (k : ℕ) → Beside k [] []
beside_none k = record { long = refl; within = λ n le. refl; beyond = λ n lt. refl }

beside_one : (k : ℕ) (x : PlaceNote) (l : Line) (notes : List PlaceNote) (lines : List Line) → number_of x ≡ k → Beside k notes lines →
    Beside k (x ∷ notes) (l ∷ lines)
beside_one k x l notes lines is b = record {
  long = ap suc b.long;
  within = λ n le.
      ap (λ c. if c then l ∷ lines_to n notes lines else lines_to n notes lines) (le-leb (number_of x) n (omega (arith, is, le)))
      ∙ ap (λ (ls : List Line). l ∷ ls) (b.within n le);
  beyond = λ n lt.
      ap (λ c. if c then l ∷ lines_to n notes lines else lines_to n notes lines) (lt-leb (number_of x) n (omega (arith, is, lt)))
      ∙ b.beyond n lt;
}

lines_append : (n : ℕ) (xs ys : List PlaceNote) (ls ks : List Line) → length xs ≡ length ls →
    lines_to n (xs ++ ys) (ls ++ ks) ≡ lines_to n xs ls ++ lines_to n ys ks
lines_append n [] ys [] ks long = refl
lines_append n [] ys (l ∷ ls) ks long = absurd (cc long)
lines_append n (x ∷ xs) ys [] ks long = absurd (cc long)
lines_append n (x ∷ xs) ys (l ∷ ls) ks long = go (nat_le (number_of x) n) (lines_append n xs ys ls ks (omega (arith, long)))
  where
    go : (b : Bool) → lines_to n (xs ++ ys) (ls ++ ks) ≡ lines_to n xs ls ++ lines_to n ys ks →
        (if b then l ∷ lines_to n (xs ++ ys) (ls ++ ks) else lines_to n (xs ++ ys) (ls ++ ks)) ≡
        (if b then l ∷ lines_to n xs ls else lines_to n xs ls) ++ lines_to n ys ks
    go true e = ap (λ (r : List Line). l ∷ r) e
    go false e = e

beside_append : (k : ℕ) (xs ys : List PlaceNote) (ls ks : List Line) → Beside k xs ls → Beside k ys ks → Beside k (xs ++ ys) (ls ++ ks)
beside_append k xs ys ls ks one two = record {
  long = length-append xs ys ∙ ap (λ n. n + length ys) one.long ∙ ap (λ n. length ls + n) two.long ∙ sym (length-append ls ks);
  within = λ n le. lines_append n xs ys ls ks one.long ∙ ap (λ (r : List Line). r ++ lines_to n ys ks) (one.within n le)
      ∙ ap (λ (r : List Line). ls ++ r) (two.within n le);
  beyond = λ n lt. lines_append n xs ys ls ks one.long ∙ ap (λ (r : List Line). r ++ lines_to n ys ks) (one.beyond n lt) ∙ two.beyond n lt;
}

-- ---- a place

entry_beside : (k : ℕ) (lines : List Line) → Beside k (map (λ (line : Line). note.Entry k) lines) lines
entry_beside k [] = beside_none k
entry_beside k (l ∷ lines) = beside_one k (note.Entry k) l (map (λ (line : Line). note.Entry k) lines) lines refl (entry_beside k lines)

called_number : (b : Bool) (k : ℕ) → number_of (called_note b k) ≡ k
called_number true k = refl
called_number false k = refl

aside_number : (single : Test) (k : ℕ) (act : Action) → number_of (aside_note single k act) ≡ k
aside_number single k (action.Call kind op object args) = called_number (single object) k
aside_number single k (action.Make kind object) = refl
aside_number single k (action.Fork text args place_on) = refl
aside_number single k action.Ended = refl
aside_number single k (action.Faulted fault) = refl

aside_beside : (single : Test) (k : ℕ) (aside : List Placed) → Beside k (aside_notes single k aside) (aside_at k aside)
aside_beside single k [] = beside_none k
aside_beside single k (r ∷ rs) = go (r.place == k) (aside_beside single k rs)
  where
    go : (b : Bool) → Beside k (aside_notes single k rs) (aside_at k rs) →
        Beside k (if b then aside_note single k r.line.action ∷ aside_notes single k rs else aside_notes single k rs)
        (if b then r.line ∷ aside_at k rs else aside_at k rs)
    go true h = beside_one k (aside_note single k r.line.action) r.line (aside_notes single k rs) (aside_at k rs)
        (aside_number single k r.line.action) h
    go false h = h

-- ---- from place to place

abbrev notes_at : Frame → Test → Copied → Message → List Placed → List PlaceNote
notes_at f single c x aside =
    map (λ (line : Line). note.Entry (c.applied + 1)) (lines_after single f.performs c x) ++ aside_notes single (c.applied + 1) aside

abbrev lines_at : Frame → Test → Copied → Message → List Placed → List Line
lines_at f single c x aside = lines_after single f.performs c x ++ aside_at (c.applied + 1) aside

place_beside : (f : Frame) (single : Test) (c : Copied) (x : Message) (aside : List Placed) →
    Beside (c.applied + 1) (notes_at f single c x aside) (lines_at f single c x aside)
place_beside f single c x aside = beside_append (c.applied + 1) _ (aside_notes single (c.applied + 1) aside)
    (lines_after single f.performs c x) (aside_at (c.applied + 1) aside)
    (entry_beside (c.applied + 1) (lines_after single f.performs c x)) (aside_beside single (c.applied + 1) aside)

long_from : (f : Frame) (single : Test) (c : Copied) (xs : List Message) (aside : List Placed) →
    length (notes_from f single c xs aside) ≡ length (book_from single f.performs c xs aside)
long_from f single c [] aside = refl
long_from f single c (x ∷ xs) aside =
    let ns : List PlaceNote = notes_from f single (after single f.performs c x) xs aside in
    let ls : List Line = book_from single f.performs (after single f.performs c x) xs aside in
    length-append (notes_at f single c x aside) ns
    ∙ ap (λ n. n + length ns) (place_beside f single c x aside).long
    ∙ ap (λ n. length (lines_at f single c x aside) + n) (long_from f single (after single f.performs c x) xs aside)
    ∙ sym (length-append (lines_at f single c x aside) ls)

-- behind a place no line is up to it
none_from : (f : Frame) (single : Test) (c : Copied) (xs : List Message) (aside : List Placed) (n : ℕ) → n ≤ c.applied →
    lines_to n (notes_from f single c xs aside) (book_from single f.performs c xs aside) ≡ []
none_from f single c [] aside n le = refl
none_from f single c (x ∷ xs) aside n le =
    let d : Copied = after single f.performs c x in
    let b = place_beside f single c x aside in
    lines_append n (notes_at f single c x aside) (notes_from f single d xs aside) (lines_at f single c x aside)
    (book_from single f.performs d xs aside) b.long
    ∙ ap (λ (r : List Line). r ++ lines_to n (notes_from f single d xs aside) (book_from single f.performs d xs aside))
    (b.beyond n (omega (arith, le)))
    ∙ none_from f single d xs aside n (omega (arith, le))

lines_from : (f : Frame) (single : Test) (c : Copied) (xs : List Message) (aside : List Placed) (n j : ℕ) → n ≡ c.applied + j →
    lines_to n (notes_from f single c xs aside) (book_from single f.performs c xs aside) ≡ book_from single f.performs c (take j xs) aside
lines_from f single c [] aside n zero is = refl
lines_from f single c [] aside n (suc j) is = refl
lines_from f single c (x ∷ xs) aside n zero is = none_from f single c (x ∷ xs) aside n (omega (arith, is))
lines_from f single c (x ∷ xs) aside n (suc j) is =
    let d : Copied = after single f.performs c x in
    let b = place_beside f single c x aside in
    lines_append n (notes_at f single c x aside) (notes_from f single d xs aside) (lines_at f single c x aside)
    (book_from single f.performs d xs aside) b.long
    ∙ ap (λ (r : List Line). r ++ lines_to n (notes_from f single d xs aside) (book_from single f.performs d xs aside))
    (b.within n (omega (arith, is)))
    ∙ ap (λ (r : List Line). lines_at f single c x aside ++ r) (lines_from f single d xs aside n j (omega (arith, is)))

-- ---- the book

pub fronts : FrontsOfBooks
fronts single p list aside n = cut single p list aside n

pub placed : AllPlaced
placed f w =
    let single : Test = singles_in f w in
    let list : List Message = agreed f w in
    let notes : List PlaceNote = notes_from f single opening_copies list w.aside in
    let lines : List Line = book_from single f.performs opening_copies list w.aside in
    let first = aside_beside single 0 w.aside in
    record {
      notes = length-append (aside_notes single 0 w.aside) notes
          ∙ ap (λ n. n + length notes) first.long
          ∙ ap (λ n. length (aside_at 0 w.aside) + n) (long_from f single opening_copies list w.aside)
          ∙ sym (length-append (aside_at 0 w.aside) lines);
      front = λ n. cut single f.performs list w.aside n;
      until = λ n. sym (lines_append n (aside_notes single 0 w.aside) notes (aside_at 0 w.aside) lines first.long
          ∙ ap (λ (r : List Line). r ++ lines_to n notes lines) (first.within n (omega arith))
          ∙ ap (λ (r : List Line). aside_at 0 w.aside ++ r) (lines_from f single opening_copies list w.aside n n (omega arith)));
      whole = ap (λ (l : List Message). book single f.performs l w.aside) (take_all (length list) list (omega arith));
    }

pub worked_places : WorkedPlaces
worked_places = record { front = refl; rest = refl; lines = refl; none = refl }
