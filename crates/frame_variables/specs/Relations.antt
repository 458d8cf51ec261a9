-- The operators of which a relation of two values says what they give.
use Rattle.std.specs.Prelude.{Bool, true, false}
use Rattle.orca_tree.specs.declared.tree.Operator.{Operator}
use Rattle.orca_tree.specs.declared.tree.Operator.TheVariants as op

abbrev pub is_relation : Operator → Bool
is_relation op.Equal = true
is_relation op.Different = true
is_relation op.Less = true
is_relation op.AtMost = true
is_relation op.Greater = true
is_relation op.AtLeast = true
is_relation op.In = true
is_relation _ = false
