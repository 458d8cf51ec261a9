-- The modules that lead to one by imports, as a set of names that is widened until it is closed.
use Rattle.std.specs.Prelude.{◌≡◌, ◌↔◌, ℕ, true, not, List, length, filter, IsTrue}
use Rattle.std.specs.List.{Contains}
use Rattle.std.specs.Borrow.{Bor}
use Rattle.std.specs.BTreeMap.{BTreeMap}
use Rattle.link_rules.specs.Units.{Import}
use Rattle.link_rules.specs.Cycles.{Leads}
use Rattle.orca_modules.specs.Seen.{has}

-- every name of the set leads to this one
abbrev pub AllLead : {X : Type 0} → List Import → List ℕ → BTreeMap (Bor (List ℕ)) X → Type 0
AllLead is target names = (n : List ℕ) → has names n ≡ true → Leads is n target

-- who imports one of the set is in it
abbrev pub IsClosed : {X : Type 0} → List Import → BTreeMap (Bor (List ℕ)) X → Type 0
IsClosed is names = (i : Import) → Contains is i → has names i.name.text ≡ true → has names i.by ≡ true

-- the set has the names that lead to this one
abbrev pub IsLeading : {X : Type 0} → List Import → List ℕ → BTreeMap (Bor (List ℕ)) X → Type 0
IsLeading is target names = (n : List ℕ) → IsTrue (has names n) ↔ Leads is n target

-- of how many imports the importer isn't in the set
abbrev pub outside : {X : Type 0} → BTreeMap (Bor (List ℕ)) X → List Import → ℕ
outside names is = length (filter (λ i. not (has names i.by)) is)
