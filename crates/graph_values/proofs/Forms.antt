-- A node that stands at a place.
use Rattle.std.proofs.Common.{◌≡◌, ℕ, ℤ, List, Option, Some, ap, sym, ◌∙◌, subst}
use Rattle.std.specs.Prelude.{FitsSigned, slice_get}
use Rattle.std.specs.Int.{cast_signed, cast_unsigned, w64}
use Rattle.std.proofs.lemmas.Int.{to_z-of_z}
use Rattle.value_core.specs.Datum.{Datum}
use Rattle.graph_values.specs.Graphs.{fields_in, value_at}
use Rattle.graph_values.specs.Places.{StandsAt}

-- nodes at their names, as a caller speaks of them
pub stands_there : (name : ℤ) (xs ys : List Datum) (place : ℕ) → FitsSigned w64 name → StandsAt (cast_signed w64 (cast_unsigned w64 name)) xs place → xs ≡ ys → StandsAt name ys place
stands_there name xs ys place fits stands same = subst (λ zs. StandsAt name zs place) same (subst (λ z. StandsAt z xs place) (to_z-of_z w64 name fits) stands)

-- the second field of a node is its value
pub value_told : (name : ℤ) (xs : List Datum) (place : ℕ) (x : Datum) (o p : Option Datum) → StandsAt name xs place → slice_get xs place ≡ Some x → o ≡ slice_get (fields_in x) 1 → p ≡ value_at name xs → o ≡ p
value_told name xs place x o p stands is told found =
    told ∙ ap (λ y. slice_get (fields_in y) 1) (stands.node x is) ∙ sym (found ∙ stands.value x is)
