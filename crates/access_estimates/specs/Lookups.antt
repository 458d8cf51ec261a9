-- Cited by private functions alone. What names are looked up in.
use Rattle.std.specs.Prelude.{◌≡◌, List, [], ◌∷◌, map, Option, Some, None}
use Rattle.orca_base.specs.declared.ids.KindNo.{KindNo}
use Rattle.orca_base.specs.declared.ids.OpNo.{OpNo}
use Rattle.link_rules.specs.Units.{Source}
use Rattle.type_forms.specs.Indexed.{Indexes}
use Rattle.meaning_rules.specs.Classes.{class_of}
use Rattle.program_tables.specs.Tables.{IsTables}
use Rattle.access_analysis.specs.Tables.{class_at_place}
use Rattle.access_estimates.specs.declared.resolving.Lookups.{Lookups}

-- the names, the numbers and the classes are those of these sources
pub record AreLookups (us : List Source) (l : Lookups) : Type 0 where
  pub names : Indexes l.index.now us
  pub tables : IsTables us l.tables.now
  pub classes : (kind : KindNo) (op : OpNo) → class_at_place (map (λ v. v.items) l.classes.now) kind op ≡ class_of us kind op

abbrev pub option_list : {X : Type 0} → Option X → List X
option_list None = []
option_list (Some x) = x ∷ []
