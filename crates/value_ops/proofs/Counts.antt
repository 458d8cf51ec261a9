-- How many elements there are: none, few, and that what is in order never falls.
use Rattle.std.proofs.Common.{◌≡◌, ◌↔◌, ◌<◌, ◌≤◌, List, [], ◌∷◌, length, Err, refl, arith}
use Rattle.std.specs.Prelude.{IsOkUnless}
use Rattle.std.specs.List.Sorted.{IsSorted}
use Rattle.orca_base.specs.declared.fault.FaultKind.TheVariants.{FromEmpty}
use Rattle.orca_base.specs.declared.limits.TheConstants.{VALUE_SIZE}
use Rattle.value_core.specs.Datum.{Datum, Data, list_of}
use Rattle.value_core.specs.Datum as datum
use Rattle.value_core.specs.Order.{datum_cmp}
use Rattle.value_core.specs.Size.{size_of, size_of_all}
use Rattle.value_core.specs.Sound.{IsShort}
use Rattle.value_ops.specs.Elements.{IsInOrder, elements, first_of, least_of}
use Rattle.value_ops.specs.Sizes.{number_in}
use Rattle.value_ops.proofs.Orders.{rising_sorted, sorted_again}

-- none
none_first : (xs : List Datum) → (xs ≡ []) ↔ (first_of xs ≡ Err FromEmpty)
none_first [] = (λ h. refl, λ h. refl)
none_first (x ∷ xs) = (λ h. absurd cc, λ h. absurd cc)

pub from_none : (v : Datum) → (elements v ≡ []) ↔ (least_of v ≡ Err FromEmpty)
from_none v = none_first (elements v)

first_faults : (xs : List Datum) → IsOkUnless (first_of xs) FromEmpty
first_faults [] = refl
first_faults (x ∷ xs) = tt

pub from_faults : (v : Datum) → IsOkUnless (least_of v) FromEmpty
from_faults v = first_faults (elements v)

-- in order
pub in_order_sorted : (v : Datum) → IsInOrder v → IsSorted datum_cmp (elements v)
in_order_sorted (datum.set w) h = rising_sorted (list_of w) h
in_order_sorted (datum.bag w) h = h
in_order_sorted v h = sorted_again [] tt

-- few
one_at_least : (v : Datum) → 1 ≤ size_of v
one_at_least (datum.int z) = omega arith
one_at_least (datum.truth b) = omega arith
one_at_least (datum.char c) = omega arith
one_at_least (datum.enumerated n) = omega arith
one_at_least (datum.text t) = omega arith
one_at_least (datum.array w) = omega arith
one_at_least (datum.fields w) = omega arith
one_at_least (datum.set w) = omega arith
one_at_least (datum.bag w) = omega arith
one_at_least (datum.object p n) = omega arith

no_longer : (w : Data) → length (list_of w) ≤ size_of_all w
no_longer datum.none = omega arith
no_longer (datum.more v w) = omega (arith, one_at_least v, no_longer w)

pub few : (v : Datum) → size_of v ≤ VALUE_SIZE → number_in v < VALUE_SIZE
few (datum.text t) h = omega (arith, h)
few (datum.set w) h = omega (arith, h, no_longer w)
few (datum.bag w) h = omega (arith, h, no_longer w)
few v h = omega arith

pub short : (e v : Datum) → size_of v ≤ VALUE_SIZE → IsShort (e ∷ elements v)
short e (datum.set w) h = omega (arith, h, no_longer w)
short e (datum.bag w) h = omega (arith, h, no_longer w)
short e v h = omega arith
