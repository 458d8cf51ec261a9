-- What is written of a sound value has the codes of chars.
use Rattle.std.proofs.Common.{ℕ, zero, suc, Bool, true, false, List, [], ◌∷◌, arith}
use Rattle.std.specs.Prelude.{if◌then◌else◌, nat_lt, slice_get, unwrap_or}
use Rattle.std.specs.Fmt.{signed_decimal}
use Rattle.std.specs.List.{All}
use Rattle.std.specs.Str.{IsAscii}
use Rattle.std.proofs.lemmas.Fmt.{IsAscii-signed}
use Rattle.std.proofs.lemmas.List.Elements.{All-cons, All-from_get_or, All-from_recursion, All-head, All-nil, All-tail}
use Rattle.value_core.specs.Datum.{Datum}
use Rattle.value_core.specs.Datum as datum
use Rattle.value_core.specs.Sound.{IsCode, IsSound}
use Rattle.value_ops.specs.Texts.{text_of, truth_text}

codes_of : (codes : List ℕ) → IsAscii codes → All IsCode codes
codes_of codes ascii = All-from_get_or IsCode codes 0 (λ i less. let small = ascii i in omega (arith, small))

truth_codes : (b : Bool) → All IsCode (truth_text b)
truth_codes true = All-from_recursion IsCode (truth_text true) (omega arith, (omega arith, (omega arith, (omega arith, tt))))
truth_codes false = All-from_recursion IsCode (truth_text false) (omega arith, (omega arith, (omega arith, (omega arith, (omega arith, tt)))))

name_codes : (names : List (List ℕ)) (n : ℕ) → All (All IsCode) names → All IsCode (unwrap_or (slice_get names n) [])
name_codes [] n all = All-nil IsCode
name_codes (name ∷ names) zero all = All-head (All IsCode) name names all
name_codes (name ∷ names) (suc n) all = name_codes names n (All-tail (All IsCode) name names all)

char_codes : (b : Bool) (c : ℕ) → IsCode c → All IsCode (if b then c ∷ [] else [])
char_codes true c code = All-cons IsCode c [] code (All-nil IsCode)
char_codes false c code = All-nil IsCode

pub told_codes : (names : List (List ℕ)) (v : Datum) → All (All IsCode) names → IsSound v → All IsCode (text_of names v)
told_codes names (datum.int z) all sound = codes_of (signed_decimal z) (IsAscii-signed z sound.well_formed.sfits)
told_codes names (datum.truth b) all sound = truth_codes b
told_codes names (datum.char c) all sound = char_codes (nat_lt c 128) c sound.well_formed
told_codes names (datum.enumerated n) all sound = name_codes names n all
told_codes names (datum.text t) all sound = sound.well_formed.0
told_codes names v all sound = All-nil IsCode
