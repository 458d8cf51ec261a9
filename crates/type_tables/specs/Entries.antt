-- What a table by names has.
use Rattle.std.specs.Prelude.{ℕ, List, Option, Some, None}
use Rattle.std.specs.Borrow.{Bor}
use Rattle.std.specs.BTreeMap.{BTreeMap, get_by}
use Rattle.std.specs.Cmp.Lexicographic.{slice_cmp}
use Rattle.std.specs.Ordering.{nat_cmp}

abbrev pub entry : {X : Type 0} → BTreeMap (Bor (List ℕ)) X → List ℕ → Option X
entry table n = get_by (λ k. slice_cmp nat_cmp n k.now) table

-- the first, or else the other
abbrev pub or_other : {X : Type 0} → Option X → Option X → Option X
or_other None other = other
or_other (Some x) other = Some x
