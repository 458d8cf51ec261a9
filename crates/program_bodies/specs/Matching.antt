-- What goes together: two things, where both are there, and the things of two lists, one by one.
use Rattle.std.specs.Prelude.{List, [], ◌∷◌, Option, Some, None}

abbrev pub Both : {A B : Type 0} → (A → B → Type 0) → Option A → Option B → Type 0
Both R None None = Unit {0}
Both R (Some a) (Some b) = R a b
Both R _ _ = ⊥

abbrev pub Match : {A B : Type 0} → (A → B → Type 0) → List A → List B → Type 0
Match R [] [] = Unit {0}
Match R (a ∷ xs) (b ∷ ys) = R a b × Match R xs ys
Match R _ _ = ⊥

abbrev pub or_none : {X : Type 0} → Option (Option X) → Option X
or_none None = None
or_none (Some x) = x
