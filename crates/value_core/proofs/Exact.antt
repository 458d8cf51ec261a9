-- Values that compare Equal are the same.
use Rattle.std.proofs.Common.{◌≡◌, ◌↔◌, Bool, ap, ◌∙◌, sym, refl}
use Rattle.std.specs.Prelude.{IsTrue}
use Rattle.std.specs.declared.cmp.Ordering.{Ordering}
use Rattle.std.specs.Ordering.{is_eq}
use Rattle.std.specs.Cmp.{Equal-is}
use Rattle.value_core.specs.Datum.{Datum, Data}
use Rattle.value_core.specs.Datum as datum
use Rattle.value_core.specs.Order.{datum_cmp, data_cmp}
use Rattle.value_core.specs.OrderLaws.{datum_cmp-exact, data_cmp-exact}
use Rattle.value_core.specs.View.{datum_of}
use Rattle.value_core.specs.declared.value.Value.{Value}
use Rattle.value_core.specs.declared.value.Value.TheVariants.{Int, Truth, Char, Enum, Text, Array, Fields, Set, Bag, Object}

-- the value that a datum shows
value_of : Datum → Value
value_of (datum.int z) = Int z
value_of (datum.truth b) = Truth b
value_of (datum.char c) = Char c
value_of (datum.enumerated n) = Enum n
value_of (datum.text t) = Text t
value_of (datum.array w) = Array w
value_of (datum.fields w) = Fields w
value_of (datum.set w) = Set w
value_of (datum.bag w) = Bag w
value_of (datum.object p n) = Object (record { process = p; number = n })

value_of-datum_of : (v : Value) → value_of (datum_of v) ≡ v
unfolding value_of
value_of-datum_of (Int z) = refl
value_of-datum_of (Truth b) = refl
value_of-datum_of (Char c) = refl
value_of-datum_of (Enum n) = refl
value_of-datum_of (Text t) = refl
value_of-datum_of (Array w) = refl
value_of-datum_of (Fields w) = refl
value_of-datum_of (Set w) = refl
value_of-datum_of (Bag w) = refl
value_of-datum_of (Object o) = refl

-- values that show the same are the same
pub shown_once : (v w : Value) → datum_of v ≡ datum_of w → v ≡ w
shown_once v w same = sym (value_of-datum_of v) ∙ ap value_of same ∙ value_of-datum_of w

pub data_tested : (v w : Data) (r : Ordering) (b : Bool) → r ≡ data_cmp v w → b ≡ is_eq r → IsTrue b ↔ (v ≡ w)
data_tested v w r b is e = (
  λ h. (data_cmp-exact v w).0 (sym is ∙ (Equal-is r).0 (sym e ∙ h)),
  λ h. e ∙ (Equal-is r).1 (is ∙ (data_cmp-exact v w).1 h),
)

pub values_tested : (v w : Value) (r : Ordering) (b : Bool) → r ≡ datum_cmp (datum_of v) (datum_of w) → b ≡ is_eq r → IsTrue b ↔ (v ≡ w)
values_tested v w r b is e = (
  λ h. shown_once v w ((datum_cmp-exact (datum_of v) (datum_of w)).0 (sym is ∙ (Equal-is r).0 (sym e ∙ h))),
  λ h. e ∙ (Equal-is r).1 (is ∙ (datum_cmp-exact (datum_of v) (datum_of w)).1 (ap datum_of h)),
)
