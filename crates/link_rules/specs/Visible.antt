-- The names that a module sees (docs/LANGUAGE.md, Linking), and that in a program that links a name is defined once.
use Rattle.std.specs.Prelude.{◌≡◌, ◌↔◌, ◌⊎◌, ℕ, Bool, false, ◌&&◌, ◌||◌, List, bytes_eq, IsTrue}
use Rattle.std.specs.List.{Contains, list_any}
use Rattle.link_rules.specs.Units.{Source, Defined, Import, definitions, imports}
use Rattle.link_rules.specs.Linked.{may_share}

-- a module sees what it defines itself and what the modules define that it imports, and not what these import
abbrev pub Sees : List Source → List ℕ → Defined → Type 0
Sees us m d = (d.by ≡ m) ⊎ ((i : Import) × Contains (imports us) i × (i.by ≡ m) × (i.name.text ≡ d.by))

-- and as a test
abbrev pub is_seen : List Source → List ℕ → Defined → Bool
is_seen us m d = bytes_eq d.by m || list_any (λ i. bytes_eq i.by m && bytes_eq i.name.text d.by) (imports us)

abbrev pub TellsSeen : List Source → Type 0
TellsSeen us = (m : List ℕ) (d : Defined) → IsTrue (is_seen us m d) ↔ Sees us m d

-- two definitions of one name that may not share it are one
abbrev pub DefinesOnce : List Source → Type 0
DefinesOnce us = (d e : Defined) → Contains (definitions us) d → Contains (definitions us) e → d.name.text ≡ e.name.text →
    may_share d.role e.role ≡ false → d ≡ e
