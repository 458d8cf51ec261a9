-- The order of values (docs/LANGUAGE.md, Values).
use Rattle.std.specs.Prelude.{ℕ}
use Rattle.std.specs.declared.cmp.Ordering.{Ordering}
use Rattle.std.specs.declared.cmp.Ordering.TheVariants.{Less, Equal, Greater}
use Rattle.std.specs.Ordering.{ordering_then, nat_cmp, int_cmp, bool_cmp}
use Rattle.std.specs.Cmp.Lexicographic.{slice_cmp}
use Rattle.value_core.specs.Datum.{Datum, Data}
use Rattle.value_core.specs.Datum as datum

-- the place of a value's kind among the kinds
abbrev pub tag : Datum → ℕ
tag (datum.int z) = 1
tag (datum.truth b) = 2
tag (datum.char c) = 3
tag (datum.enumerated n) = 4
tag (datum.text t) = 5
tag (datum.array w) = 6
tag (datum.fields w) = 7
tag (datum.set w) = 8
tag (datum.bag w) = 9
tag (datum.object p n) = 10

-- numbers by size, false before true, strings by codes from the left with a prefix first, lists of values likewise by
-- values, objects by process and then number; values of two kinds by their kinds
abbrev mutual
  pub datum_cmp : Datum → Datum → Ordering
  datum_cmp (datum.int y) (datum.int z) = int_cmp y z
  datum_cmp (datum.truth a) (datum.truth b) = bool_cmp a b
  datum_cmp (datum.char c) (datum.char d) = nat_cmp c d
  datum_cmp (datum.enumerated m) (datum.enumerated n) = nat_cmp m n
  datum_cmp (datum.text s) (datum.text t) = slice_cmp nat_cmp s t
  datum_cmp (datum.array vs) (datum.array ws) = data_cmp vs ws
  datum_cmp (datum.fields vs) (datum.fields ws) = data_cmp vs ws
  datum_cmp (datum.set vs) (datum.set ws) = data_cmp vs ws
  datum_cmp (datum.bag vs) (datum.bag ws) = data_cmp vs ws
  datum_cmp (datum.object p m) (datum.object q n) = ordering_then (nat_cmp p q) (nat_cmp m n)
  datum_cmp v w = nat_cmp (tag v) (tag w)

  pub data_cmp : Data → Data → Ordering
  data_cmp datum.none datum.none = Equal
  data_cmp datum.none (datum.more w ws) = Less
  data_cmp (datum.more v vs) datum.none = Greater
  data_cmp (datum.more v vs) (datum.more w ws) = ordering_then (datum_cmp v w) (data_cmp vs ws)
