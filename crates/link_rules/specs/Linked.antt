-- What it means that units link, in the words of the language (docs/LANGUAGE.md, Linking).
use Rattle.std.specs.Prelude.{◌≡◌, ◌≢◌, ◌↔◌, ℕ, Bool, true, false, List, codes}
use Rattle.std.specs.List.{AllPairs, Contains}
use Rattle.link_rules.specs.declared.role.Role.{Role}
use Rattle.link_rules.specs.declared.role.Role.TheVariants.{Module, Specification, Implementation}
use Rattle.link_rules.specs.Units.{Source, Defined, Import, definitions, imports}
use Rattle.link_rules.specs.Rules.{Links}
use Rattle.link_rules.specs.Cycles.{Leads}

-- two definitions may bear one name: a module's name is apart from the others, and an object type's specification and implementation
-- share theirs
abbrev pub may_share : Role → Role → Bool
may_share Module Module = false
may_share Module _ = true
may_share _ Module = true
may_share Specification Implementation = true
may_share Implementation Specification = true
may_share _ _ = false

-- a name is defined as this
abbrev pub Defines : List Source → Role → List ℕ → Type 0
Defines us role n = (d : Defined) × Contains (definitions us) d × (d.role ≡ role) × (d.name.text ≡ n)

-- two definitions have different names, or may share theirs
abbrev pub AreDistinct : List Source → Type 0
AreDistinct us = AllPairs (λ d e. d.name.text ≡ e.name.text → may_share d.role e.role ≡ true) (definitions us)

-- what is imported is a module
abbrev pub AreKnown : List Source → Type 0
AreKnown us = (i : Import) → Contains (imports us) i → Defines us Module i.name.text

-- no import lies on a cycle
abbrev pub AreAcyclic : List Source → Type 0
AreAcyclic us = (i : Import) → Contains (imports us) i → Leads (imports us) i.name.text i.by → ⊥

-- a name of the top level is `OrcaMain`
abbrev pub HasMain : List Source → Type 0
HasMain us = (role : Role) × (role ≢ Module) × Defines us role (codes "OrcaMain")

pub record IsLinked (us : List Source) : Type 0 where
  pub distinct : AreDistinct us
  pub known : AreKnown us
  pub acyclic : AreAcyclic us
  pub main : HasMain us
  pub implemented : (n : List ℕ) → Defines us Specification n → Defines us Implementation n

-- units break no rule exactly where this is so
abbrev pub IsNoBreach : List Source → Type 0
IsNoBreach us = Links us ↔ IsLinked us
