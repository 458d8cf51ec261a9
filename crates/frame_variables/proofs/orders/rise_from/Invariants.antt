use Rattle.std.proofs.Common.{◌≡◌, drop, map, true}
use Rattle.std.specs.Ordering.{is_lt}
use Rattle.value_core.specs.Order.{datum_cmp}
use Rattle.value_core.specs.View.{datum_of}
use Rattle.frame_variables.specs.Ordered.{Follow}
use Rattle.frame_variables.proofs.orders.rise_from.Given as goal

-- all rise where what is left does
abbrev pub invariant-values : goal.invariant-values
invariant-values l = Follow (λ x y. is_lt (datum_cmp x y) ≡ true) (datum_of l.last) (map datum_of (drop l.value-index l.values)) →
    Follow (λ x y. is_lt (datum_cmp x y) ≡ true) (datum_of l.first) (map datum_of l.values)
