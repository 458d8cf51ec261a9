-- What was performed, in an order in which its lines are the book: each operation stands there at its place.
use Rattle.std.proofs.Common.{inl, inr, ◌≡◌, ◌<◌, ◌==◌, ◌&&◌, not, ⊎_elim, ℕ, zero, suc, Bool, true, false, if◌then◌else◌, Some, List, [], ◌∷◌, length, map, slice_get, option_map, refl, sym, ap, ◌∙◌, arith, subst}
use Rattle.std.specs.List.{AllByRecursion}
use Rattle.std.specs.List.Sorted.{IsPermutation}
use Rattle.std.proofs.lemmas.Bool.{cases_lt, eqb-true}
use Rattle.std.proofs.lemmas.List.Elements.{All-from_recursion, recursion_from_All}
use Rattle.std.proofs.lemmas.List.Sorted.{All-permutation}
use Rattle.std.proofs.lemmas.Option.{slice_get-map, slice_get_within}
use Rattle.value_core.specs.declared.action.Line.{Line}
use Rattle.value_core.specs.History.{opening}
use Rattle.book_law.specs.Book.{aside_at}
use Rattle.book_law.specs.Events.{In}
use Rattle.book_law.specs.Performed.{Performed}
use Rattle.book_law.specs.declared.placing.Placed.{Placed}
use Rattle.book_law.proofs.Objects.{in_append}
use Rattle.book_law.proofs.Processes.{get_some}
use Rattle.book_law.proofs.Replying.{in_aside}
use Rattle.world_rules.specs.declared.standing.PlaceNote.{PlaceNote}
use Rattle.world_rules.specs.Frame.{Frame}
use Rattle.world_rules.specs.Worlds.{Book, World, agreed, places, singles_in}
use Rattle.world_facts.specs.Places.{number_of}
use Rattle.world_places.specs.Explained.{AreItsPlaces, is_at_entry, is_beside, is_entry, lines_where}
use Rattle.world_places.proofs.Falls.{later_higher}

-- ---- lists

all_in : {A : Type 0} (all xs : List A) → ((x : A) → In x xs → In x all) → AllByRecursion (λ x. In x all) xs
all_in all [] h = tt
all_in all (x ∷ xs) h = (h x (inl refl), all_in all xs (λ y u. h y (inr u)))

one_at : {A : Type 0} (P : A → Type 0) (xs : List A) (i : ℕ) (x : A) → AllByRecursion P xs → slice_get xs i ≡ Some x → P x
one_at P [] i x all at = absurd (let lt = slice_get_within [] i x at in omega (arith, lt))
one_at P (y ∷ xs) zero x all at = let e : y ≡ x = cc at in subst P e all.0
one_at P (y ∷ xs) (suc i) x all at = one_at P xs i x all.1 at

-- what another order has is there
shuffled : {A : Type 0} (xs ys : List A) (i : ℕ) (y : A) → IsPermutation xs ys → slice_get ys i ≡ Some y → In y xs
shuffled {A} xs ys i y perm at =
    one_at (λ (z : A). In z xs) ys i y (recursion_from_All (λ (z : A). In z xs) ys (All-permutation (λ (z : A). In z xs) xs ys perm
    (All-from_recursion (λ (z : A). In z xs) xs (all_in xs xs (λ z h. h))))) at

map_is : {A B : Type 0} (g : A → B) (xs : List A) (ys : List B) → length xs ≡ length ys → ((i : ℕ) (x : A) (y : B) → slice_get xs i ≡ Some x → slice_get ys i ≡ Some y → g x ≡ y) → map g xs ≡ ys
map_is g [] [] long all = refl
map_is g [] (y ∷ ys) long all = absurd (cc long)
map_is g (x ∷ xs) [] long all = absurd (cc long)
map_is {A} {B} g (x ∷ xs) (y ∷ ys) long all =
    ap (λ (z : B). z ∷ map g xs) (all 0 x y refl refl) ∙ ap (λ (zs : List B). y ∷ zs) (map_is g xs ys (omega (arith, long)) (λ i u v is at. all (suc i) u v is at))

map_long : {A B : Type 0} (g : A → B) (xs : List A) → length (map g xs) ≡ length xs
map_long g [] = refl
map_long g (x ∷ xs) = ap suc (map_long g xs)

-- ---- a line at a place

-- the line stands there at a place that passes the test
record IsWhere (t : PlaceNote → Bool) (notes : List PlaceNote) (lines : List Line) (l : Line) : Type 0 where
  at : ℕ
  note : PlaceNote
  line : slice_get lines at ≡ Some l
  place : slice_get notes at ≡ Some note
  passes : t note ≡ true

from_where : (t : PlaceNote → Bool) (notes : List PlaceNote) (lines : List Line) (l : Line) → In l (lines_where t notes lines) → IsWhere t notes lines l
from_where t [] lines l h = absurd h
from_where t (x ∷ notes) [] l h = absurd h
from_where t (x ∷ notes) (k ∷ lines) l h = go (t x) refl (λ u. from_where t notes lines l u) h
  where
    behind : IsWhere t notes lines l → IsWhere t (x ∷ notes) (k ∷ lines) l
    behind i = record { at = suc i.at; note = i.note; line = i.line; place = i.place; passes = i.passes }

    go : (b : Bool) → t x ≡ b → (In l (lines_where t notes lines) → IsWhere t notes lines l) → In l (if b then k ∷ lines_where t notes lines else lines_where t notes lines) → IsWhere t (x ∷ notes) (k ∷ lines) l
    go true is rest (inl e) = record { at = 0; note = x; line = ap Some (sym e); place = refl; passes = is }
    go true is rest (inr u) = behind (rest u)
    go false is rest u = behind (rest u)

both_right : (a b : Bool) → (a && b) ≡ true → b ≡ true
both_right true b e = e
both_right false b e = absurd (cc e)

entry_number : (n : ℕ) (x : PlaceNote) → is_at_entry n x ≡ true → number_of x ≡ n
entry_number n x is = eqb-true (number_of x) n (both_right (is_entry x) (number_of x == n) is)

beside_number : (n : ℕ) (x : PlaceNote) → is_beside n x ≡ true → number_of x ≡ n
beside_number n x is = eqb-true (number_of x) n (both_right (not (is_entry x)) (number_of x == n) is)

module _ (f : Frame) (w : World) (a : AreItsPlaces f w (places f w)) (performed : List Placed) (h : Performed (singles_in f w) f.performs (agreed f w) w.aside performed) where
  -- the line stands in the book at this number
  record StandsAt (n : ℕ) (l : Line) : Type 0 where
    at : ℕ
    note : PlaceNote
    line : slice_get (Book f w) at ≡ Some l
    place : slice_get (places f w) at ≡ Some note
    number : number_of note ≡ n

  by_beside : (n : ℕ) (l : Line) → In l (aside_at n w.aside) → StandsAt n l
  by_beside n l inside =
      let i = from_where (is_beside n) (places f w) (Book f w) l (subst (λ (ls : List Line). In l ls) (sym (a.beside n)) inside) in
      record { at = i.at; note = i.note; line = i.line; place = i.place; number = beside_number n i.note i.passes }

  by_place : (n : ℕ) (l : Line) → In l (aside_at n performed) → StandsAt n l
  by_place zero l inside = by_beside 0 l (subst (λ (ls : List Line). In l ls) h.first inside)
  by_place (suc n) l inside = ⊎_elim
      (λ (lt : n < length (agreed f w)).
      let y = get_some (agreed f w) n lt in
      ⊎_elim
      (λ u.
      let i = from_where (is_at_entry (suc n)) (places f w) (Book f w) l (subst (λ (ls : List Line). In l ls) (sym (a.entries n y.0 y.1)) u) in
      record { at = i.at; note = i.note; line = i.line; place = i.place; number = entry_number (suc n) i.note i.passes })
      (λ u. by_beside (suc n) l u)
      (in_append l _ (aside_at (suc n) w.aside) (subst (λ (ls : List Line). In l ls) (h.entries n y.0 y.1) inside)))
      (λ le. absurd (subst (λ (ls : List Line). In l ls) (h.above (suc n) (omega (arith, le))) inside))
      (cases_lt n (length (agreed f w)))

  -- a line stands in the book once
  line_once : (i k : ℕ) (l : Line) → slice_get (Book f w) i ≡ Some l → slice_get (Book f w) k ≡ Some l → i ≡ k
  line_once i k l is at = ⊎_elim
      (λ (lt : i < k). let less = later_higher f.performs f.computes (opening f.computes) (Book f w) i k l l a.legal lt is at refl in absurd (omega (arith, less)))
      (λ le. ⊎_elim
      (λ (lt : k < i). let less = later_higher f.performs f.computes (opening f.computes) (Book f w) k i l l a.legal lt at is refl in absurd (omega (arith, less)))
      (λ more. omega (arith, le, more))
      (cases_lt k i))
      (cases_lt i k)

  module _ (sorted : List Placed) (perm : IsPermutation performed sorted) (lines : map (λ (r : Placed). r.line) sorted ≡ Book f w) where
    line_at : (i : ℕ) (r : Placed) → slice_get sorted i ≡ Some r → slice_get (Book f w) i ≡ Some r.line
    line_at i r at = ap (λ (ls : List Line). slice_get ls i) (sym lines) ∙ slice_get-map (λ (s : Placed). s.line) sorted i ∙ ap (option_map (λ (s : Placed). s.line)) at

    pub number_at : (i : ℕ) (r : Placed) (x : PlaceNote) → slice_get sorted i ≡ Some r → slice_get (places f w) i ≡ Some x → number_of x ≡ r.place
    number_at i r x at place =
        let s = by_place r.place r.line (in_aside r performed (shuffled performed sorted i r perm at)) in
        let e : s.at ≡ i = line_once s.at i r.line s.line (line_at i r at) in
        let g : Some s.note ≡ Some x = sym s.place ∙ ap (slice_get (places f w)) e ∙ place in
        let same : s.note ≡ x = cc g in
        ap number_of (sym same) ∙ s.number

    -- so notes that each line has by its number are the places
    pub sorted_told : (told : Placed → PlaceNote) → ((i : ℕ) (l : Line) (x : PlaceNote) → slice_get (Book f w) i ≡ Some l → slice_get (places f w) i ≡ Some x → x ≡ told (record { place = number_of x; line = l }))
        → map told sorted ≡ places f w
    sorted_told told all = map_is told sorted (places f w) (let m = map_long (λ (r : Placed). r.line) sorted in let n = ap length lines in let e = a.each in omega (arith, m, n, e))
        (λ i r x at place.
        let e = number_at i r x at place in
        ap (λ (n : ℕ). told (record { place = n; line = r.line })) (sym e) ∙ sym (all i r.line x (line_at i r at) place))
