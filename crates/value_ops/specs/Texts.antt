-- Strings joined, and what `WriteLine` writes of a value (docs/LANGUAGE.md, Operators).
use Rattle.std.specs.Prelude.{ℕ, ◌+◌, Bool, true, false, List, [], ◌∷◌, ◌++◌, Result, Ok, Err, length, codes, nat_le, nat_lt, if◌then◌else◌, unwrap_or, slice_get}
use Rattle.std.specs.Fmt.{signed_decimal}
use Rattle.orca_base.specs.declared.fault.FaultKind.{FaultKind}
use Rattle.orca_base.specs.declared.fault.FaultKind.TheVariants.{TooLarge}
use Rattle.orca_base.specs.declared.limits.TheConstants.{TEXT_LENGTH}
use Rattle.value_core.specs.Datum.{Datum}
use Rattle.value_core.specs.Datum as datum

-- `&`: one string behind the other, where that is no longer than a string may be
abbrev pub joined : List ℕ → List ℕ → Result (List ℕ) FaultKind
joined s t = if nat_le (length s + length t) TEXT_LENGTH then Ok (s ++ t) else Err TooLarge

abbrev pub truth_text : Bool → List ℕ
truth_text true = codes "true"
truth_text false = codes "false"

-- an integer in decimal, a truth in letters, a char and a string themselves, and an enumeration's name of the value; of a number that is
-- no char's code nothing
abbrev pub text_of : List (List ℕ) → Datum → List ℕ
text_of names (datum.int z) = signed_decimal z
text_of names (datum.truth b) = truth_text b
text_of names (datum.char c) = if nat_lt c 128 then c ∷ [] else []
text_of names (datum.enumerated n) = unwrap_or (slice_get names n) []
text_of names (datum.text t) = t
text_of names v = []
