-- Paths of which each node is the only one of its name, and has a value: whatever is put at the end of one, graphs that are in order
-- stay so, and what is put counts as it does in an array.
use Rattle.std.specs.Prelude.{◌≡◌, ◌≢◌, ◌≤◌, ◌+◌, ℤ, pos, false, IfOk, List, [], ◌∷◌, Some, length, slice_get}
use Rattle.std.specs.List.{position_or_len}
use Rattle.value_core.specs.Datum.{Datum}
use Rattle.graph_values.specs.Graphs.{fields_in, is_named, nodes_in}
use Rattle.value_paths.specs.declared.step.Step.{Step}
use Rattle.value_paths.specs.declared.step.Step.TheVariants.{Index, Field, Node}
use Rattle.value_paths.specs.Paths.{part_to}
use Rattle.meaning_rules.specs.Variables.{Target}

-- the first node of a name has a value, and the one behind it another name; the name isn't that of what is no node
pub record IsFirmNode (name : ℤ) (xs : List Datum) : Type 0 where
  pub named : name ≢ pos 0
  pub valued : (x : Datum) → slice_get xs (position_or_len (is_named name) xs) ≡ Some x → 2 ≤ length (fields_in x)
  pub alone : (x : Datum) → slice_get xs (position_or_len (is_named name) xs + 1) ≡ Some x → is_named name x ≡ false

abbrev pub IsFirmStep : Step → Datum → Type 0
IsFirmStep (Index low index) v = Unit {0}
IsFirmStep (Field place) v = Unit {0}
IsFirmStep (Node name) v = IsFirmNode name (nodes_in v)

-- each step of a path is firm where it begins
abbrev pub IsFirm : List Step → Datum → Type 0
IsFirm [] v = Unit {0}
IsFirm (step ∷ path) v = IsFirmStep step v × IfOk (part_to step v) (IsFirm path)

-- the path of a target is firm in its variable
abbrev pub IsFirmAt : Target → List Datum → Type 0
IsFirmAt to xs = (whole : Datum) → slice_get xs to.slot ≡ Some whole → IsFirm to.path whole
