-- Upper bounds of the sizes of values, which a frame keeps beside them, and what a change at the end of a path adds to a size.
use Rattle.std.specs.Prelude.{◌≡◌, ℕ, ◌+◌, ◌≤◌, List, [], ◌∷◌, Ok}
use Rattle.orca_base.specs.declared.limits.TheConstants.{VALUE_SIZE}
use Rattle.value_core.specs.Datum.{Datum}
use Rattle.value_core.specs.Size.{size_of}
use Rattle.value_paths.specs.declared.step.Step.{Step}
use Rattle.value_paths.specs.Paths.{part_at, with_part}

-- a value is no larger than a bound; one that is above the limit of variables says nothing
abbrev pub IsWithin : ℕ → Datum → Type 0
IsWithin n v = n ≤ VALUE_SIZE → size_of v ≤ n

-- the first of some values are within these bounds, one each; of the others nothing is said
abbrev pub AreWithin : List ℕ → List Datum → Type 0
AreWithin [] vs = Unit {0}
AreWithin (n ∷ ns) [] = Unit {0}
AreWithin (n ∷ ns) (v ∷ vs) = IsWithin n v × AreWithin ns vs

-- a value grows by no more than what is put at the end of a path is larger than what stood there
abbrev pub AddsUp : List Step → Datum → Type 0
AddsUp path v = (p x : Datum) → part_at path v ≡ Ok p → size_of (with_part path v x) + size_of p ≤ size_of v + size_of x

-- a bound of a value to which what is put at the end of a path may be added
abbrev pub IsBound : ℕ → List Step → Datum → Type 0
IsBound n path v = n ≤ VALUE_SIZE → (size_of v ≤ n) × AddsUp path v
