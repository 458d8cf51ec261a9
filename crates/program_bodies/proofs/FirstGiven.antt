-- What is found first in lists, one behind the other.
use Rattle.std.proofs.Common.{◌≡◌, ℕ, Bool, true, false, cond, List, [], ◌∷◌, ◌++◌, find, Option, Some, None, refl, sym, ap, ◌∙◌}
use Rattle.std.specs.Prelude.{is_some, slice_get, option_map}
use Rattle.std.specs.List.{cons_option, filter_map}
use Rattle.std.proofs.lemmas.List.Elements.{filter_map-append}
use Rattle.orca_syntax.specs.Syntax.{Decl}
use Rattle.link_rules.specs.Declarations.{Declared}
use Rattle.type_tables.specs.Entries.{or_other}

pub other_none : {X : Type 0} (o : Option X) → o ≡ or_other o None
other_none None = refl
other_none (Some x) = refl

pub other_grouped : {X : Type 0} (a b c : Option X) → or_other (or_other a b) c ≡ or_other a (or_other b c)
other_grouped None b c = refl
other_grouped (Some x) b c = refl

pub other_mapped : {X Y : Type 0} (f : X → Y) (a b : Option X) → option_map f (or_other a b) ≡ or_other (option_map f a) (option_map f b)
other_mapped f None b = refl
other_mapped f (Some x) b = refl

pub some_mapped : {X Y : Type 0} (f : X → Y) (o : Option X) → is_some o ≡ is_some (option_map f o)
some_mapped f None = refl
some_mapped f (Some x) = refl

pub find_push : {X : Type 0} (t : X → Bool) (xs : List X) (y : X) → find t (xs ++ y ∷ []) ≡ or_other (find t xs) (cond (t y) (Some y) None)
find_push t [] y = refl
find_push t (x ∷ xs) y = by_test (t x) refl (find_push t xs y)
  where
    by_test : (b : Bool) → t x ≡ b → find t (xs ++ y ∷ []) ≡ or_other (find t xs) (cond (t y) (Some y) None) →
        cond b (Some x) (find t (xs ++ y ∷ [])) ≡ or_other (cond b (Some x) (find t xs)) (cond (t y) (Some y) None)
    by_test true is rest = refl
    by_test false is rest = rest

-- ---- the first that a function gives

-- a declaration of a unit
abbrev pub declared_as : List ℕ → List ℕ → Decl → Declared
declared_as by file d = record { by = by; file = file; decl = d }

first_of_both : {X : Type 0} (xs ys : List X) → slice_get (xs ++ ys) 0 ≡ or_other (slice_get xs 0) (slice_get ys 0)
first_of_both [] ys = refl
first_of_both (x ∷ xs) ys = refl

-- the first that is given
abbrev pub first_given : {X Y : Type 0} → (X → Option Y) → List X → Option Y
first_given f xs = slice_get (filter_map f xs) 0

given_alone : {X Y : Type 0} (f : X → Option Y) (x : X) → first_given f (x ∷ []) ≡ f x
given_alone {X} {Y} f x = alone (f x)
  where
    alone : (o : Option Y) → slice_get (cons_option o []) 0 ≡ o
    alone None = refl
    alone (Some y) = refl

pub given_append : {X Y : Type 0} (f : X → Option Y) (xs ys : List X) → first_given f (xs ++ ys) ≡ or_other (first_given f xs) (first_given f ys)
given_append {X} {Y} f xs ys = ap (λ (l : List Y). slice_get l 0) (filter_map-append f xs ys) ∙ first_of_both (filter_map f xs) (filter_map f ys)

-- one more
pub given_more : {X Y : Type 0} (f : X → Option Y) (xs : List X) (x : X) (old was now : Option Y) → was ≡ or_other old (first_given f xs) →
    now ≡ or_other was (f x) → now ≡ or_other old (first_given f (xs ++ x ∷ []))
given_more {X} {Y} f xs x old was now before after =
    after
    ∙ ap (λ (o : Option Y). or_other o (f x)) before
    ∙ other_grouped old (first_given f xs) (f x)
    ∙ ap (or_other old) (ap (or_other (first_given f xs)) (sym (given_alone f x)) ∙ sym (given_append f xs (x ∷ [])))

-- and a list more
pub given_further : {X Y : Type 0} (f : X → Option Y) (xs ys : List X) (old was now : Option Y) → was ≡ or_other old (first_given f xs) →
    now ≡ or_other was (first_given f ys) → now ≡ or_other old (first_given f (xs ++ ys))
given_further {X} {Y} f xs ys old was now before after =
    after
    ∙ ap (λ (o : Option Y). or_other o (first_given f ys)) before
    ∙ other_grouped old (first_given f xs) (first_given f ys)
    ∙ ap (or_other old) (sym (given_append f xs ys))
