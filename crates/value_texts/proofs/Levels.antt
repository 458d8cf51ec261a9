-- A value by its first byte, and a list by its parts.
use Rattle.std.proofs.Common.{◌≡◌, ℕ, zero, suc, ◌-◌, ◌<◌, List, length, Some, None, refl, sym, ap, ◌∙◌, arith}
use Rattle.value_core.specs.Datum.{Datum, Data, data_of, data_of-list_of, list_of}
use Rattle.value_texts.specs.declared.brackets.Brackets.{Brackets}
use Rattle.value_texts.specs.Reading.{◌>>=◌, Reads, closing, first_at, list_at, part_at, until_at, value_at, within}

pub no_level : (levels : ℕ) (text : List ℕ) → levels ≡ 0 → value_at levels text ≡ None
unfolding value_at
no_level zero text none = refl
no_level (suc levels) text none = absurd (omega (arith, none))

pub first_read : (levels : ℕ) (text : List ℕ) → 0 < levels → value_at levels text ≡ first_at (value_at (levels - 1)) text
unfolding value_at
first_read zero text some = absurd (omega (arith, some))
first_read (suc levels) text some =
    let e : suc levels - 1 ≡ levels = omega arith in
    rw e refl

pub list_read : (read : List ℕ → Reads Datum) (brackets : Brackets) (text : List ℕ) (vs : List Datum) (after : List ℕ) (w : Data) (v : Datum) → until_at (part_at read brackets) (closing brackets) (length text) None text ≡ Some (vs, after) →
    list_of w ≡ vs → v ≡ within brackets w → list_at read brackets text ≡ Some (v, after)
unfolding list_at
list_read read brackets text vs after w v items parts is =
    let same_data : data_of vs ≡ w = ap data_of (sym parts) ∙ data_of-list_of w in
    ap (λ (r : Reads (List Datum)). r >>= λ parts. Some (within brackets (data_of parts.0), parts.1)) items
    ∙ ap (λ (d : Data). Some (within brackets d, after)) same_data
    ∙ ap (λ (d : Datum). Some (d, after)) (sym is)
