-- The first that a function gives of a list: where the first of what is left gives none, and where it gives one.
use Rattle.std.proofs.Common.{◌≡◌, true, false, List, ◌∷◌, ◌++◌, Option, Some, None, refl, sym, ap, ◌∙◌}
use Rattle.std.specs.Prelude.{is_some, option_map, slice_get}
use Rattle.std.specs.List.{cons_option, filter_map}
use Rattle.type_tables.specs.Entries.{or_other}
use Rattle.program_bodies.proofs.FirstGiven.{first_given, given_append}

none_seen : {A Y : Type 0} (view : A → Y) (own : Option A) → is_some own ≡ false → option_map view own ≡ None
none_seen view None is = refl
none_seen view (Some a) is = absurd (cc is)

-- of one
pub gives_none : {A X Y : Type 0} (view : A → Y) (f : X → Option Y) (x : X) (xs : List X) (own : Option A) (all : Option Y) → is_some own ≡ false →
    option_map view own ≡ f x → first_given f (x ∷ xs) ≡ all → first_given f xs ≡ all
gives_none {A} {X} {Y} view f x xs own all is e before =
    ap (λ (o : Option Y). slice_get (cons_option o (filter_map f xs)) 0) (sym (none_seen view own is) ∙ e) ∙ before

pub gives_one : {A X Y : Type 0} (view : A → Y) (f : X → Option Y) (x : X) (xs : List X) (own : Option A) (all : Option Y) → is_some own ≡ true →
    option_map view own ≡ f x → first_given f (x ∷ xs) ≡ all → option_map view own ≡ all
gives_one view f x xs None all is e before = absurd (cc is)
gives_one {A} {X} {Y} view f x xs (Some a) all is e before = ap (λ (o : Option Y). slice_get (cons_option o (filter_map f xs)) 0) e ∙ before

-- of several
pub give_none : {A X Y : Type 0} (view : A → Y) (f : X → Option Y) (ys xs : List X) (own : Option A) (all : Option Y) → is_some own ≡ false →
    option_map view own ≡ first_given f ys → first_given f (ys ++ xs) ≡ all → first_given f xs ≡ all
give_none {A} {X} {Y} view f ys xs own all is e before =
    ap (λ (o : Option Y). or_other o (first_given f xs)) (sym (none_seen view own is) ∙ e) ∙ sym (given_append f ys xs) ∙ before

pub give_one : {A X Y : Type 0} (view : A → Y) (f : X → Option Y) (ys xs : List X) (own : Option A) (all : Option Y) → is_some own ≡ true →
    option_map view own ≡ first_given f ys → first_given f (ys ++ xs) ≡ all → option_map view own ≡ all
give_one view f ys xs None all is e before = absurd (cc is)
give_one {A} {X} {Y} view f ys xs (Some a) all is e before =
    ap (λ (o : Option Y). or_other o (first_given f xs)) e ∙ sym (given_append f ys xs) ∙ before
