-- Where the nodes of a name stand among values that rise.
use Rattle.std.specs.Prelude.{◌≡◌, ℕ, ℤ, Bool, true, false, List}
use Rattle.std.specs.List.{AllByRecursion}
use Rattle.std.specs.List.Sorted.{IsPartitionPoint}
use Rattle.std.specs.Ordering.{is_lt}
use Rattle.value_core.specs.Datum.{Datum}
use Rattle.value_core.specs.Datum as datum
use Rattle.value_core.specs.Order.{datum_cmp}
use Rattle.value_core.specs.View.{datum_of}
use Rattle.value_core.specs.declared.value.Value.{Value}

-- the fields of a name alone, which are below those of each node with it
abbrev pub name_alone : ℤ → Datum
name_alone name = datum.fields (datum.more (datum.int name) datum.none)

abbrev pub is_before : ℤ → Datum → Bool
is_before name v = is_lt (datum_cmp v (name_alone name))

-- so many values in front are below the fields of a name alone, and the others aren't
abbrev pub Precedes : ℤ → List Value → ℕ → Type 0
Precedes name vs place = IsPartitionPoint (λ v. is_before name (datum_of v) ≡ true) (λ v. is_before name (datum_of v) ≡ false) vs place

-- values that are below the fields of a name alone
abbrev pub AreBefore : ℤ → List Datum → Type 0
AreBefore name xs = AllByRecursion (λ x. is_before name x ≡ true) xs
