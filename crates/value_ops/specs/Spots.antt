-- Where an element stands among elements that never fall, as a search by halving finds it.
use Rattle.std.specs.Prelude.{◌≡◌, ℕ, ◌<◌, ◌≤◌, Bool, true, false, List, length, insert, remove}
use Rattle.std.specs.List.Sorted.{IsPartitionPoint}
use Rattle.std.specs.Ordering.{is_lt}
use Rattle.value_core.specs.Datum.{Datum}
use Rattle.value_core.specs.Order.{datum_cmp}
use Rattle.value_core.specs.View.{datum_of}
use Rattle.value_core.specs.declared.value.Value.{Value}
use Rattle.value_ops.specs.Elements.{has, put_in, without}

-- whether a value is below e
abbrev pub is_under : Datum → Value → Bool
is_under e v = is_lt (datum_cmp (datum_of v) e)

-- so many values in front are below e, and the others aren't
abbrev pub Parted : Datum → List Value → ℕ → Type 0
Parted e vs place = IsPartitionPoint (λ v. is_under e v ≡ true) (λ v. is_under e v ≡ false) vs place

-- e would stand at this place, and whether it stands there
pub record IsSpot (e : Datum) (xs : List Datum) (place : ℕ) (is_there : Bool) : Type 0 where
  pub within : place ≤ length xs
  pub there : is_there ≡ has e xs
  pub full : is_there ≡ true → place < length xs
  pub put : put_in e xs ≡ insert xs place e
  pub taken : is_there ≡ true → without e xs ≡ remove xs place
