-- What it means that a module leads to another by imports, and that the rule of cycles says it.
use Rattle.std.specs.Prelude.{◌≡◌, ◌↔◌, ℕ, List, length, IsTrue}
use Rattle.std.specs.List.{Contains}
use Rattle.link_rules.specs.Units.{Source, Import, imports}
use Rattle.link_rules.specs.Rules.{leads}

-- a module leads to itself, and where it imports another, to whatever that leads to
pub data Leads (is : List Import) : List ℕ → List ℕ → Type 0 where
  itself : (a b : List ℕ) → a ≡ b → Leads is a b
  by_import : (a b : List ℕ) (i : Import) → Contains is i → i.by ≡ a → Leads is i.name.text b → Leads is a b

-- within as many imports as there are units each module is reached that is reached at all
abbrev pub ReachesAll : List Source → Type 0
ReachesAll us = (a b : List ℕ) → IsTrue (leads (imports us) (length us) a b) ↔ Leads (imports us) a b
