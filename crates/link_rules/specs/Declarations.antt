-- The declarations of a program, and which names each defines.
use Rattle.std.specs.Prelude.{◌≡◌, ◌↔◌, ◌⊎◌, ℕ, List, map, flat_map}
use Rattle.std.specs.List.{Contains}
use Rattle.orca_syntax.specs.Syntax.{Decl}
use Rattle.link_rules.specs.declared.role.Role.TheVariants.{Module}
use Rattle.link_rules.specs.Units.{Source, Defined, defined, defined_by, definitions, module_name, module_of}

-- a declaration, with the module and the file that it stands in
pub record Declared : Type 0 where
  pub by : List ℕ
  pub file : List ℕ
  pub decl : Decl

-- the declarations of a unit, and of all, in the order of the files and of their texts
abbrev pub declarations_of : Source → List Declared
declarations_of u = map (λ d. record { by = module_name u; file = u.file; decl = d }) u.syntax.declarations

abbrev pub declarations : List Source → List Declared
declarations us = flat_map declarations_of us

-- a definition is that of a unit's module, or one of a declaration
abbrev pub IsDefinedBy : List Source → Defined → Type 0
IsDefinedBy us d =
    ((u : Source) × Contains us u × (d ≡ defined (module_name u) u.file Module (module_of u.syntax)))
    ⊎ ((x : Declared) × Contains (declarations us) x × Contains (defined_by x.by x.file x.decl) d)

abbrev pub ComesFromDeclarations : List Source → Type 0
ComesFromDeclarations us = (d : Defined) → Contains (definitions us) d ↔ IsDefinedBy us d
