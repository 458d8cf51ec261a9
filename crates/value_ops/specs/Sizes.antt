-- Sizes up to their limit, counts, ordinals and places (docs/LANGUAGE.md, Operators).
use Rattle.std.specs.Prelude.{ℕ, ◌+◌, ℤ, pos, negsuc, ◌+ℤ◌, ◌-ℤ◌, ◌<ℤ◌, ◌≤ℤ◌, ◌⊎◌, Result, Ok, Err, length, min, nat_lt, if◌then◌else◌}
use Rattle.orca_base.specs.declared.fault.FaultKind.{FaultKind}
use Rattle.orca_base.specs.declared.fault.FaultKind.TheVariants.{IndexOutside}
use Rattle.orca_base.specs.declared.limits.TheConstants.{VALUE_SIZE}
use Rattle.value_core.specs.Datum.{Datum, list_of}
use Rattle.value_core.specs.Datum as datum

-- a size, or one more than a value may have where it is greater than that
abbrev pub told_size : ℕ → ℕ
told_size n = min n (VALUE_SIZE + 1)

-- the language's `size`: the characters of a string, the elements of a set or bag
abbrev pub number_in : Datum → ℕ
number_in (datum.text t) = length t
number_in (datum.set w) = length (list_of w)
number_in (datum.bag w) = length (list_of w)
number_in v = 0

-- `ord`: a char's code, or the number of an enumeration's value
abbrev pub ordinal_of : Datum → ℕ
ordinal_of (datum.char c) = c
ordinal_of (datum.enumerated n) = n
ordinal_of v = 0

-- so far behind the first of so many parts
abbrev pub part_at : ℕ → ℤ → Result ℕ FaultKind
part_at count (pos n) = if nat_lt n count then Ok n else Err IndexOutside
part_at count (negsuc n) = Err IndexOutside

-- the place from 0 of an array's part, by the array's length and low bound
abbrev pub place_of : ℕ → ℤ → ℤ → Result ℕ FaultKind
place_of count low index = part_at count (index -ℤ low)

-- the index is below the low bound, or not below the low bound and the length
abbrev pub IsOutside : ℕ → ℤ → ℤ → Type 0
IsOutside count low index = (index <ℤ low) ⊎ ((low +ℤ pos count) ≤ℤ index)
