use Rattle.std.proofs.Common.{◌≡◌, drop, map, false}
use Rattle.std.specs.Ordering.{is_lt}
use Rattle.value_core.specs.Order.{datum_cmp}
use Rattle.value_core.specs.View.{datum_of}
use Rattle.frame_variables.specs.Ordered.{Follow}
use Rattle.frame_variables.proofs.orders.follow_from.Given as goal

-- none falls where none does of what is left
abbrev pub invariant-values : goal.invariant-values
invariant-values l = Follow (λ x y. is_lt (datum_cmp y x) ≡ false) (datum_of l.last) (map datum_of (drop l.value-index l.values)) →
    Follow (λ x y. is_lt (datum_cmp y x) ≡ false) (datum_of l.first) (map datum_of l.values)
