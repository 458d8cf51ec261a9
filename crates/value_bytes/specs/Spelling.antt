-- The one spelling of each value in bytes (docs/LANGUAGE.md, Values): a tag, and then the content. All numbers are big-endian, and
-- integers are in two's complement.
use Rattle.std.specs.Prelude.{ℕ, List, [], ◌∷◌, ◌++◌, length, if◌then◌else◌}
use Rattle.std.specs.Int.{w16, w32, w64, cast_unsigned, to_be_bytes}
use Rattle.value_core.specs.Datum.{Datum, Data, list_of}
use Rattle.value_core.specs.Datum as datum

-- a count of 4 bytes, and then these bytes
abbrev pub counted : ℕ → List ℕ → List ℕ
counted count bytes = to_be_bytes w32 count ++ bytes

-- 8 bytes for an integer, 1 for a truth or a char, 2 for an enumeration's value; for a string its length and a byte for each
-- char; for an array, a record, a set or a bag the number of parts and then the parts in order; for an object 2 bytes for its
-- process and 4 for its number
abbrev mutual
  pub spelling : Datum → List ℕ
  spelling (datum.int z) = 1 ∷ to_be_bytes w64 (cast_unsigned w64 z)
  spelling (datum.truth b) = 2 ∷ (if b then 1 else 0) ∷ []
  spelling (datum.char c) = 3 ∷ c ∷ []
  spelling (datum.enumerated n) = 4 ∷ to_be_bytes w16 n
  spelling (datum.text t) = 5 ∷ counted (length t) t
  spelling (datum.array w) = 6 ∷ counted (length (list_of w)) (spellings w)
  spelling (datum.fields w) = 7 ∷ counted (length (list_of w)) (spellings w)
  spelling (datum.set w) = 8 ∷ counted (length (list_of w)) (spellings w)
  spelling (datum.bag w) = 9 ∷ counted (length (list_of w)) (spellings w)
  spelling (datum.object p n) = 10 ∷ to_be_bytes w16 p ++ to_be_bytes w32 n

  pub spellings : Data → List ℕ
  spellings datum.none = []
  spellings (datum.more v w) = spelling v ++ spellings w
