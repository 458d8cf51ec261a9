-- What the code keeps by reference, as the rules of linking see it.
use Rattle.std.specs.Prelude.{◌≡◌, ℕ, Bool, List, is_some}
use Rattle.std.specs.Borrow.{Bor}
use Rattle.std.specs.BTreeMap.{BTreeMap, get_by}
use Rattle.std.specs.Cmp.Lexicographic.{slice_cmp}
use Rattle.std.specs.Ordering.{nat_cmp}
use Rattle.link_rules.specs.declared.role.Role.TheVariants.{Module, Specification, Implementation, Other}
use Rattle.link_rules.specs.Units.{Defined, Import}
use Rattle.link_rules.specs.Rules.{is_defined}
use Rattle.orca_modules.specs.declared.sites.Definition.{Definition}
use Rattle.orca_modules.specs.declared.sites.ImportLine.{ImportLine}
use Rattle.orca_modules.specs.declared.tables.Tables.{Tables}

abbrev pub definition : Definition → Defined
definition d = record { role = d.role; by = d.by.now; file = d.file.now; name = record { at = d.at; text = d.name.now } }

abbrev pub import_line : ImportLine → Import
import_line i = record { by = i.by.now; file = i.file.now; name = record { at = i.at; text = i.name.now } }

-- whether a name is in a set of names
abbrev pub has : {X : Type 0} → BTreeMap (Bor (List ℕ)) X → List ℕ → Bool
has names n = is_some (get_by (λ k. slice_cmp nat_cmp n k.now) names)

-- the tables have the names that are defined here
pub record Knows (t : Tables) (ds : List Defined) : Type 0 where
  pub modules : (n : List ℕ) → has t.modules n ≡ is_defined Module n ds
  pub specifications : (n : List ℕ) → has t.specifications n ≡ is_defined Specification n ds
  pub implementations : (n : List ℕ) → has t.implementations n ≡ is_defined Implementation n ds
  pub others : (n : List ℕ) → has t.others n ≡ is_defined Other n ds
