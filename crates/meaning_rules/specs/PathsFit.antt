-- Paths of steps lead from types to types; in a value of a type they can be walked, and what stands at the end of one is of the type to
-- which it leads, and may be replaced by such.
use Rattle.std.specs.Prelude.{◌≡◌, ℕ, ℤ, List, [], ◌∷◌, slice_get, Some, Ok}
use Rattle.link_rules.specs.Units.{Source}
use Rattle.type_rules.specs.declared.types.DataType.{DataType}
use Rattle.type_rules.specs.declared.types.Base.TheVariants as base
use Rattle.type_rules.specs.declared.types.Layer.TheVariants as layer
use Rattle.type_rules.specs.Types as types
use Rattle.type_rules.specs.Types.{outside_of, inside_of}
use Rattle.value_core.specs.Datum.{Datum}
use Rattle.value_core.specs.Fits.{Kinds}
use Rattle.value_paths.specs.declared.step.Step.{Step}
use Rattle.value_paths.specs.declared.step.Step.TheVariants.{Field, Index, Node}
use Rattle.value_paths.specs.Paths.{CanWalk, part_at, with_part}
use Rattle.meaning_rules.specs.Openings.{field_types}
use Rattle.meaning_rules.specs.Fitting.{IsOf, Fits}

-- a step from a value of the one type to one of the other
abbrev pub StepsTo : List Source → Step → DataType → DataType → Type 0
StepsTo us (Index low index) t u = (high : ℤ) × (outside_of t ≡ types.Within (layer.Array low high)) × (inside_of t ≡ u)
StepsTo us (Field place) t u = (i : ℕ) × (outside_of t ≡ types.Bare (base.Record i)) × (slice_get (field_types us i) place ≡ Some (Some u))
StepsTo us (Node name) t u = (outside_of t ≡ types.Within layer.Graph) × (inside_of t ≡ u)

-- and a path
abbrev pub Leads : List Source → List Step → DataType → DataType → Type 0
Leads us [] t u = t ≡ u
Leads us (step ∷ path) t u = (w : DataType) × StepsTo us step t w × Leads us path w u

pub record HasPart (us : List Source) (kinds : Kinds) (path : List Step) (v : Datum) (t u : DataType) : Type 0 where
  pub walks : CanWalk path v
  pub part : (p : Datum) → part_at path v ≡ Ok p → Fits us kinds p (Some u)
  pub put : (p x : Datum) → part_at path v ≡ Ok p → IsOf us kinds x u → IsOf us kinds (with_part path v x) t

abbrev pub PathsFit : List Source → Type 0
PathsFit us =
    (kinds : Kinds) (path : List Step) (v : Datum) (t u : DataType) → Leads us path t u → Fits us kinds v (Some t) →
    HasPart us kinds path v t u
