-- A value inside another has fewer values inside: recursion over values ends.
use Rattle.std.specs.Prelude.{◌≤◌, List, [], ◌∷◌}
use Rattle.std.proofs.Common.{arith}
use denote.Param.Weighed.{most}
use Rattle.value_core.specs.Sizes.{count_of_all, count_of}
use Rattle.value_core.specs.View.{datum_of, data_in}
use Rattle.value_core.specs.declared.value.Value.{Value}
use Rattle.value_core.specs.declared.value.Value.TheVariants.{Int, Truth, Char, Enum, Text, Array, Fields, Set, Bag, Object}
use Rattle.value_core.specs.declared.value.BoxedParts.TheDeep.{deep-Value}

deep_le : (v : Value) → deep-Value v ≤ count_of (datum_of v)
deep_le (Int z) = omega arith
deep_le (Truth b) = omega arith
deep_le (Char c) = omega arith
deep_le (Enum n) = omega arith
deep_le (Text t) = omega arith
deep_le (Array w) = omega arith
deep_le (Fields w) = omega arith
deep_le (Set w) = omega arith
deep_le (Bag w) = omega arith
deep_le (Object o) = omega arith

-- no part is larger than all of them together
pub most_le : (vs : List Value) → most deep-Value vs ≤ count_of_all (data_in vs)
most_le [] = omega arith
most_le (v ∷ vs) = omega (arith, deep_le v, most_le vs)
