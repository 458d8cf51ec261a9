-- Values whose sets rise and whose bags never fall, at whatever depth: of these elements and nodes can be found by halving.
use Rattle.std.specs.Prelude.{List, [], ◌∷◌}
use Rattle.std.specs.List.{AllByRecursion}
use Rattle.std.specs.List.Sorted.{IsSorted, IsStrictlySortedBy}
use Rattle.value_core.specs.Datum.{Data, Datum, list_of}
use Rattle.value_core.specs.Datum as datum
use Rattle.value_core.specs.Order.{datum_cmp}

abbrev mutual
  pub IsOrdered : Datum → Type 0
  IsOrdered (datum.int z) = Unit {0}
  IsOrdered (datum.truth b) = Unit {0}
  IsOrdered (datum.char c) = Unit {0}
  IsOrdered (datum.enumerated n) = Unit {0}
  IsOrdered (datum.text t) = Unit {0}
  IsOrdered (datum.array w) = AreOrdered w
  IsOrdered (datum.fields w) = AreOrdered w
  IsOrdered (datum.set w) = AreOrdered w × IsStrictlySortedBy datum_cmp (list_of w)
  IsOrdered (datum.bag w) = AreOrdered w × IsSorted datum_cmp (list_of w)
  IsOrdered (datum.object p n) = Unit {0}

  pub AreOrdered : Data → Type 0
  AreOrdered datum.none = Unit {0}
  AreOrdered (datum.more v w) = IsOrdered v × AreOrdered w

-- the same of a list, as of a frame's values
abbrev pub AllOrdered : List Datum → Type 0
AllOrdered xs = AllByRecursion IsOrdered xs

-- each value and the next, from the value x on
abbrev pub Follow : (Datum → Datum → Type 0) → Datum → List Datum → Type 0
Follow R x [] = Unit {0}
Follow R x (y ∷ ys) = R x y × Follow R y ys
