-- Elements of lists: what passes a test keeps its place, and where texts have one place each there are no more than their numbers.
use Rattle.std.proofs.Common.{◌≤◌, ◌<◌, ◌+◌, refl, sym, ap, ◌∙◌, arith, cond}
use Rattle.std.specs.Prelude.{◌≡◌, ℕ, zero, suc, Bool, true, false, List, [], ◌∷◌, ◌++◌, bytes_eq, filter, get_or, length, map, position, slice_get, take, unwrap_or, Option, Some, None, option_map}
use Rattle.std.proofs.Math.ListN.{get_or-map}
use Rattle.std.proofs.lemmas.List.{append_assoc, length-map, map-append, take_all, take_more}
use Rattle.std.proofs.lemmas.List.Elements.{filter-append}
use Rattle.std.proofs.lemmas.Option.{slice_get-map}
use Rattle.std.proofs.lemmas.Slice.Eq.{bytes_eq-Decides}
use Rattle.book_law.proofs.Processes.{get_some}
use Rattle.accepted_law.proofs.Lists.{found_at, same_some, some_place}

-- what stands in a list of values is one of some element
pub mapped_at : {X Y : Type 0} (f : X → Y) (xs : List X) (k : ℕ) (y : Y) → slice_get (map f xs) k ≡ Some y → (x : X) × (slice_get xs k ≡ Some x) × (f x ≡ y)
mapped_at {X} {Y} f xs k y at = by (slice_get xs k) refl (sym (slice_get-map f xs k) ∙ at)
  where
    by : (o : Option X) → slice_get xs k ≡ o → option_map f o ≡ Some y → (x : X) × (slice_get xs k ≡ Some x) × (f x ≡ y)
    by None here is = absurd cc
    by (Some x) here is = (x, here, same_some (f x) y is)

-- an element that passes, with how many stand in front that do
pub record IsKept {X : Type 0} (p : X → Bool) (xs : List X) (k : ℕ) (x : X) : Type 0 where
  pub place : ℕ
  pub at : slice_get xs place ≡ Some x
  pub passes : p x ≡ true
  pub before : k ≡ length (filter p (take place xs))

pub kept_at : {X : Type 0} (p : X → Bool) (xs : List X) (k : ℕ) (x : X) → slice_get (filter p xs) k ≡ Some x → IsKept p xs k x
kept_at p [] k x at = absurd cc
kept_at {X} p (y ∷ xs) k x at = by (p y) refl k at (λ j e. kept_at p xs j x e)
  where
    by : (b : Bool) → p y ≡ b → (j : ℕ) → slice_get (cond b (y ∷ filter p xs) (filter p xs)) j ≡ Some x → ((i : ℕ) → slice_get (filter p xs) i ≡ Some x → IsKept p xs i x) →
        IsKept p (y ∷ xs) j x
    by true is zero e rest = record { place = zero; at = e; passes = ap p (sym (same_some y x e)) ∙ is; before = refl }
    by true is (suc j) e rest =
        let r = rest j e in
        record { place = suc r.place; at = r.at; passes = r.passes; before = ap suc r.before ∙ ap (λ b. length (cond b (y ∷ filter p (take r.place xs)) (filter p (take r.place xs)))) (sym is) }
    by false is j e rest =
        let r = rest j e in
        record { place = suc r.place; at = r.at; passes = r.passes; before = r.before ∙ ap (λ b. length (cond b (y ∷ filter p (take r.place xs)) (filter p (take r.place xs)))) (sym is) }

-- each text stands at one place
abbrev pub Apart : List (List ℕ) → Type 0
Apart names = (one two : ℕ) (name : List ℕ) → slice_get names one ≡ Some name → slice_get names two ≡ Some name → one ≡ two

-- where the first of each text has a number below this, there are no more
module _ {X : Type 0} (name : X → List ℕ) (xs : List X) (limit : ℕ) (apart : Apart (map name xs)) (numbers : (n : List ℕ) → unwrap_or (position (λ x. bytes_eq (name x) n) xs) 0 < limit) where
  number_below : (k : ℕ) (x : X) → slice_get xs k ≡ Some x → k < limit
  number_below k x at =
      let first = some_place bears xs k x at ((bytes_eq-Decides (name x) (name x)).1 refl) in
      let there = found_at bears xs first.0 first.1 in
      let same : first.0 ≡ k = apart first.0 k (name x) (named first.0 there.0 there.1 ∙ ap (λ n. Some n) ((bytes_eq-Decides (name there.0) (name x)).0 there.2)) (named k x at) in
      let number : unwrap_or (position bears xs) 0 ≡ first.0 = ap (λ o. unwrap_or o 0) first.1 in
      let below : unwrap_or (position bears xs) 0 < limit = numbers (name x) in
      omega (arith, same, number, below)
    where
      bears : X → Bool
      bears y = bytes_eq (name y) (name x)

      named : (i : ℕ) (y : X) → slice_get xs i ≡ Some y → slice_get (map name xs) i ≡ Some (name y)
      named i y here = slice_get-map name xs i ∙ ap (option_map name) here

  pub few_apart : length xs ≤ limit
  few_apart = by (length xs) refl
    where
      by : (count : ℕ) → length xs ≡ count → count ≤ limit
      by zero is = omega arith
      by (suc last) is =
          let x = get_some xs last (omega (arith, is)) in
          let below = number_below last x.0 x.1 in
          omega (arith, below)

-- ---- lists that grow by what passes a test

pub passed_more : {A X : Type 0} (view : A → X) (p : X → Bool) (xs : List A) (k : ℕ) (x : A) → k < length xs → x ≡ get_or xs k x →
    filter p (take (k + 1) (map view xs)) ≡ filter p (take k (map view xs)) ++ cond (p (view x)) (view x ∷ []) []
passed_more {A} {X} view p xs k x less is =
    let long = length-map xs view in
    ap (filter p) (take_more (map view xs) k (view x) (omega (arith, less, long)))
    ∙ filter-append p (take k (map view xs)) (get_or (map view xs) k (view x) ∷ [])
    ∙ ap (λ (v : X). filter p (take k (map view xs)) ++ filter p (v ∷ [])) (get_or-map view xs k x ∙ ap view (sym is))

-- one more is put behind values of those so far, where it passes
pub grown : {A X Y : Type 0} (view : A → X) (p : X → Bool) (f : X → Y) (front : List Y) (xs : List A) (k : ℕ) (x : A) (old new : List Y) → k < length xs → x ≡ get_or xs k x →
    old ≡ front ++ map f (filter p (take k (map view xs))) → new ≡ old ++ map f (cond (p (view x)) (view x ∷ []) []) →
    new ≡ front ++ map f (filter p (take (k + 1) (map view xs)))
grown {A} {X} {Y} view p f front xs k x old new less is before more =
    more
    ∙ ap (λ (ys : List Y). ys ++ map f (cond (p (view x)) (view x ∷ []) [])) before
    ∙ append_assoc front (map f (filter p (take k (map view xs)))) (map f (cond (p (view x)) (view x ∷ []) []))
    ∙ ap (λ (ys : List Y). front ++ ys)
    (sym (map-append f (filter p (take k (map view xs))) (cond (p (view x)) (view x ∷ []) [])) ∙ ap (map f) (sym (passed_more view p xs k x less is)))

-- and at the end all are seen
pub all_grown : {A X Y : Type 0} (view : A → X) (p : X → Bool) (f : X → Y) (front : List Y) (xs : List A) (k : ℕ) (ys : List Y) → length xs ≤ k →
    ys ≡ front ++ map f (filter p (take k (map view xs))) → ys ≡ front ++ map f (filter p (map view xs))
all_grown {A} {X} {Y} view p f front xs k ys past is =
    let long = length-map xs view in
    is ∙ ap (λ (ts : List X). front ++ map f (filter p ts)) (take_all k (map view xs) (omega (arith, long, past)))
