-- What is found, where something may be.
use Rattle.std.proofs.Common.{◌≡◌, Option, Some, None, refl, subst}
use Rattle.std.specs.Prelude.{option_and_then, option_map}
use Rattle.program_bodies.specs.Matching.{Both}

none_goes : {A B : Type 0} (R : A → B → Type 0) (o : Option B) → Both R None o → o ≡ None
none_goes R None h = refl
none_goes R (Some b) h = absurd h

pub found_none : {A B : Type 0} (R : A → B → Type 0) (a : Option A) (o : Option B) → a ≡ None → Both R a o → o ≡ None
found_none {A} R a o is h = none_goes R o (subst (λ (k : Option A). Both R k o) is h)

some_goes : {A B : Type 0} (R : A → B → Type 0) (a : A) (o : Option B) → Both R (Some a) o → (b : B) × (R a b × (o ≡ Some b))
some_goes R a None h = absurd h
some_goes R a (Some b) h = (b, (h, refl))

pub found_some : {A B : Type 0} (R : A → B → Type 0) (a : Option A) (o : Option B) (x : A) → a ≡ Some x → Both R a o → (b : B) × (R x b × (o ≡ Some b))
found_some {A} R a o x is h = some_goes R x o (subst (λ (k : Option A). Both R k o) is h)

pub mapped_after : {A B C : Type 0} (g : B → C) (f : A → Option B) (o : Option A) → option_and_then (λ x. option_map g (f x)) o ≡ option_map g (option_and_then f o)
mapped_after g f None = refl
mapped_after g f (Some x) = refl
