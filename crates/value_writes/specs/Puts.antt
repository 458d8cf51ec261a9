-- What is left where a part is put (docs/LANGUAGE.md, Operators).
use Rattle.std.specs.Prelude.{◌≡◌, ℤ, List, Result, Ok, Err}
use Rattle.orca_base.specs.declared.fault.FaultKind.{FaultKind}
use Rattle.orca_base.specs.declared.refusal.Refusal.{Refusal}
use Rattle.orca_base.specs.declared.refusal.Refusal.TheVariants.{Because, NoMemory}
use Rattle.value_core.specs.Datum.{Datum, Data}
use Rattle.value_core.specs.Datum as datum
use Rattle.value_core.specs.View.{datum_of}
use Rattle.value_core.specs.declared.value.Value.{Value}
use Rattle.value_core.specs.declared.value.Value.TheVariants.{Fields}
use Rattle.value_paths.specs.declared.step.Step.{Step}
use Rattle.value_paths.specs.Paths.{part_at, with_part}

-- x stands at the end of the path, and what stood there is given; or a step leads nowhere, whose fault it is, and nothing has
-- changed; or memory lacks, and nothing has changed
abbrev pub Puts : List Step → Datum → Value → Result Value (Refusal FaultKind) → Value → Type 0
Puts path x old (Ok part) new = (part_at path (datum_of old) ≡ Ok (datum_of part)) × (datum_of new ≡ with_part path (datum_of old) x)
Puts path x old (Err (Because fault)) new = (part_at path (datum_of old) ≡ Err fault) × (new ≡ old)
Puts path x old (Err NoMemory) new = new ≡ old

-- a graph with this next name, of which these are the nodes
abbrev pub graph_with : ℤ → Data → Value
graph_with next nodes = Fields (datum.more (datum.int next) (datum.more (datum.set nodes) datum.none))
