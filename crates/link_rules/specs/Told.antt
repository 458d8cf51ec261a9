-- Which breach of linking is told (docs/LANGUAGE.md, Linking): of the lowest broken rule the first, in the order of the files and of
-- their texts.
use Rattle.std.specs.Prelude.{◌≡◌, ◌↔◌, List, ◌∷◌, ◌++◌, false}
use Rattle.std.specs.List.{Contains}
use Rattle.link_rules.specs.declared.link_error.LinkError.{LinkError}
use Rattle.link_rules.specs.declared.role.Role.TheVariants.{Module, Specification, Implementation}
use Rattle.link_rules.specs.Units.{Source, Defined, Import, definitions, imports}
use Rattle.link_rules.specs.Rules.{at_definition, at_import, IsLinkError, no_main}
use Rattle.link_rules.specs.Cycles.{Leads}
use Rattle.link_rules.specs.Linked.{AreAcyclic, AreDistinct, AreKnown, Defines, HasMain, may_share}

-- of a list this is the first for which something holds, of those in front of it and of itself
pub record IsFirst {X : Type 0} (P : List X → X → Type 0) (xs : List X) (x : X) : Type 0 where
  pub front : List X
  pub rest : List X
  pub splits : xs ≡ front ++ x ∷ rest
  pub holds : P front x
  pub none : (before behind : List X) (y : X) → front ≡ before ++ y ∷ behind → P before y → ⊥

-- a definition bears the name of one in front of it, and may not share it
abbrev pub Repeats : List Defined → Defined → Type 0
Repeats front d = (e : Defined) × Contains front e × (e.name.text ≡ d.name.text) × (may_share e.role d.role ≡ false)

-- what is imported is no module
abbrev pub IsUnknown : List Source → Import → Type 0
IsUnknown us i = Defines us Module i.name.text → ⊥

-- what is imported leads back to what imports it
abbrev pub LiesOnCycle : List Source → Import → Type 0
LiesOnCycle us i = Leads (imports us) i.name.text i.by

-- a specification without an implementation
abbrev pub IsUnimplemented : List Source → Defined → Type 0
IsUnimplemented us d = (d.role ≡ Specification) × (Defines us Implementation d.name.text → ⊥)

-- the breach that is told, rule by rule: each keeps the rules below it
pub data IsToldOf (us : List Source) : LinkError → Type 0 where
  repeats : (d : Defined) → IsFirst Repeats (definitions us) d → IsToldOf us (at_definition 1 d)
  unknown : (i : Import) → AreDistinct us → IsFirst (λ _. IsUnknown us) (imports us) i → IsToldOf us (at_import 2 i)
  cycle : (i : Import) → AreDistinct us → AreKnown us → IsFirst (λ _. LiesOnCycle us) (imports us) i → IsToldOf us (at_import 3 i)
  without_main : AreDistinct us → AreKnown us → AreAcyclic us → (HasMain us → ⊥) → IsToldOf us no_main
  unimplemented : (d : Defined) → AreDistinct us → AreKnown us → AreAcyclic us → HasMain us →
      IsFirst (λ _. IsUnimplemented us) (definitions us) d → IsToldOf us (at_definition 5 d)

abbrev pub IsTold : List Source → Type 0
IsTold us = (e : LinkError) → IsLinkError us e ↔ IsToldOf us e
