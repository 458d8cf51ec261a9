-- Nodes whose values are sound, and don't nest too deep for a graph, which nests three levels more.
use Rattle.std.specs.Prelude.{◌+◌, ◌≤◌}
use Rattle.orca_base.specs.declared.limits.TheConstants.{VALUE_NESTING}
use Rattle.value_core.specs.Datum.{Datum}
use Rattle.value_core.specs.Sound.{IsSound, nesting}
use Rattle.graph_values.specs.Graphs.{value_in}

pub record IsSoundNode (x : Datum) : Type 0 where
  pub sound : IsSound (value_in x)
  pub shallow : nesting (value_in x) + 3 ≤ VALUE_NESTING
