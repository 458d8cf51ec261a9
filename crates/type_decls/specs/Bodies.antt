-- The names of a body, as tables.
use Rattle.std.specs.Prelude.{◌≡◌, ℕ, Bool, true, false, List, find, bytes_eq, option_map}
use Rattle.std.specs.Borrow.{Bor}
use Rattle.std.specs.BTreeMap.{BTreeMap}
use Rattle.orca_syntax.specs.Syntax.{Kind}
use Rattle.type_rules.specs.declared.types.Measured.{Measured}
use Rattle.type_rules.specs.Rules.{Found, is_among}
use Rattle.type_rules.specs.Constants.{View}
use Rattle.type_rules.specs.TypePhrases.{data_found, kind_found}
use Rattle.type_rules.specs.Scopes as rules
use Rattle.type_forms.specs.Seen.{has}
use Rattle.type_tables.specs.Entries.{entry}
use Rattle.type_exprs.specs.declared.scope.Local.{Local}
use Rattle.type_exprs.specs.Scoped.{local_as}

-- the table has these names of a body, the first where two are the same
abbrev pub AreLocals : BTreeMap (Bor (List ℕ)) Local → List rules.Local → Type 0
AreLocals table ls = (n : List ℕ) → option_map (local_as n) (entry table n) ≡ find (λ l. bytes_eq l.name n) ls

-- the set has these names
abbrev pub AreNames : BTreeMap (Bor (List ℕ)) (Unit {0}) → List (List ℕ) → Type 0
AreNames names ns = (n : List ℕ) → has names n ≡ is_among ns n

-- what variables are of: those of a process may be objects
abbrev pub variable_found : Bool → View → Kind → Found Measured
variable_found true = kind_found
variable_found false = data_found
