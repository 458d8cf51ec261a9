-- What `in`, `insert`, `delete` and `from` do with the elements of a set or bag (docs/LANGUAGE.md, Operators).
use Rattle.std.specs.Prelude.{◌≡◌, Bool, false, List, [], ◌∷◌, Result, Ok, Err, if◌then◌else◌}
use Rattle.std.specs.List.{list_any}
use Rattle.std.specs.List.Sorted.{IsSorted, IsStrictlySortedBy}
use Rattle.std.specs.Ordering.{is_eq, is_lt}
use Rattle.orca_base.specs.declared.fault.FaultKind.{FaultKind}
use Rattle.orca_base.specs.declared.fault.FaultKind.TheVariants.{FromEmpty}
use Rattle.value_core.specs.Datum.{Datum, Data, list_of, data_of}
use Rattle.value_core.specs.Datum as datum
use Rattle.value_core.specs.Order.{datum_cmp}

-- whether e is in a list
abbrev pub has : Datum → List Datum → Bool
has e xs = list_any (λ x. is_eq (datum_cmp x e)) xs

-- e in front of the first element that isn't below it
abbrev pub put_in : Datum → List Datum → List Datum
put_in e [] = e ∷ []
put_in e (x ∷ xs) = if is_lt (datum_cmp x e) then x ∷ put_in e xs else e ∷ x ∷ xs

-- without the first element that is e
abbrev pub without : Datum → List Datum → List Datum
without e [] = []
without e (x ∷ xs) = if is_eq (datum_cmp x e) then xs else x ∷ without e xs

-- the elements of a set or bag
abbrev pub elements : Datum → List Datum
elements (datum.set w) = list_of w
elements (datum.bag w) = list_of w
elements v = []

-- elements are in order: those of a set rise, those of a bag never fall
abbrev pub IsInOrder : Datum → Type 0
IsInOrder (datum.set w) = IsStrictlySortedBy datum_cmp (list_of w)
IsInOrder (datum.bag w) = IsSorted datum_cmp (list_of w)
IsInOrder v = Unit {0}

-- the elements of a set with e among them
abbrev pub with_once : Datum → Data → Data
with_once e w = if has e (list_of w) then w else data_of (put_in e (list_of w))

-- `insert`: a set gets an element that it doesn't have, and a bag gets one more
abbrev pub inserted : Datum → Datum → Datum
inserted e (datum.set w) = datum.set (with_once e w)
inserted e (datum.bag w) = datum.bag (data_of (put_in e (list_of w)))
inserted e v = v

-- `delete`: one element that equals e goes
abbrev pub deleted : Datum → Datum → Datum
deleted e (datum.set w) = datum.set (data_of (without e (list_of w)))
deleted e (datum.bag w) = datum.bag (data_of (without e (list_of w)))
deleted e v = v

-- the first of the elements, which is what `from` gives
abbrev pub first_of : List Datum → Result Datum FaultKind
first_of [] = Err FromEmpty
first_of (x ∷ xs) = Ok x

abbrev pub least_of : Datum → Result Datum FaultKind
least_of v = first_of (elements v)

-- x isn't less than e
abbrev pub IsNotBelow : Datum → Datum → Type 0
IsNotBelow x e = is_lt (datum_cmp x e) ≡ false

-- what `from` leaves
abbrev pub rest_of : Data → Data
rest_of datum.none = datum.none
rest_of (datum.more x w) = w

abbrev pub without_least : Datum → Datum
without_least (datum.set w) = datum.set (rest_of w)
without_least (datum.bag w) = datum.bag (rest_of w)
without_least v = v
