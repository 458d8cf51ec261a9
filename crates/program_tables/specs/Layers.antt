-- Types by reference, and what stands in their outer arrays.
use Rattle.std.specs.Prelude.{List, [], ◌∷◌, Option, Some, None}
use Rattle.type_rules.specs.declared.types.Layer.{Layer}
use Rattle.type_rules.specs.declared.types.Layer.TheVariants.{Array, Set, Bag, Graph}
use Rattle.type_rules.specs.declared.types.DataType.{DataType}
use Rattle.value_core.specs.Datum.{Datum}
use Rattle.value_core.specs.Datum as datum
use Rattle.graph_values.specs.Graphs.{empty_graph}
use Rattle.program_tables.specs.declared.seen.Seen.{Seen}

abbrev pub type_seen : Seen → DataType
type_seen s = record { layers = s.layers.now; base = s.base }

-- the set, bag or graph that stands in the outer arrays of a type, empty; none where these are all of its layers
abbrev pub empty_within : List Layer → Option Datum
empty_within [] = None
empty_within (Array low high ∷ ls) = empty_within ls
empty_within (Set ∷ ls) = Some (datum.set datum.none)
empty_within (Bag ∷ ls) = Some (datum.bag datum.none)
empty_within (Graph ∷ ls) = Some empty_graph
