-- The five rules of linking, and their breaches (docs/LANGUAGE.md, Linking).
use Rattle.std.specs.Prelude.{◌≡◌, ℕ, zero, suc, Bool, true, false, not, ◌&&◌, ◌||◌, List, [], ◌∷◌, ◌++◌, length, map, filter, codes, if◌then◌else◌, bytes_eq, Option, Some, None}
use Rattle.std.specs.List.{list_any}
use Rattle.orca_tree.specs.declared.tree.Name.{Name}
use Rattle.link_rules.specs.declared.link_error.LinkError.{LinkError}
use Rattle.link_rules.specs.declared.role.Role.{Role}
use Rattle.link_rules.specs.declared.role.Role.TheVariants.{Module, Specification, Implementation, Other}
use Rattle.link_rules.specs.Units.{Source, Defined, Import, definitions, imports}

abbrev pub is_role : Role → Role → Bool
is_role Module Module = true
is_role Specification Specification = true
is_role Implementation Implementation = true
is_role Other Other = true
is_role _ _ = false

-- whether a name is defined as this
abbrev pub is_defined : Role → List ℕ → List Defined → Bool
is_defined role n ds = list_any (λ d. is_role role d.role && bytes_eq d.name.text n) ds

-- Rule 1. No module's name is defined twice, and no name of the top level. Modules' names are apart from those of the top level, and an
-- object type's specification and implementation share its name.
abbrev pub is_taken : List Defined → Role → List ℕ → Bool
is_taken before Module n = is_defined Module n before
is_taken before Specification n = is_defined Specification n before || is_defined Other n before
is_taken before Implementation n = is_defined Implementation n before || is_defined Other n before
is_taken before Other n = is_defined Specification n before || (is_defined Implementation n before || is_defined Other n before)

-- of the definitions behind these, those that repeat an earlier one
abbrev pub repeated : List Defined → List Defined → List Defined
repeated before [] = []
repeated before (d ∷ ds) =
    if is_taken before d.role d.name.text then d ∷ repeated (before ++ d ∷ []) ds else repeated (before ++ d ∷ []) ds

-- Rule 2. What is imported is a module of the program.
abbrev pub is_unknown : List Defined → Import → Bool
is_unknown ds i = not (is_defined Module i.name.text ds)

-- Rule 3. No import lies on a cycle: no module that is imported leads back, by imports, to the one that imports it. Within so many
-- imports one module leads to another; no way needs more than there are modules.
abbrev pub leads : List Import → ℕ → List ℕ → List ℕ → Bool
leads is zero a b = bytes_eq a b
leads is (suc n) a b = bytes_eq a b || list_any (λ i. bytes_eq i.by a && leads is n i.name.text b) is

abbrev pub is_on_cycle : List Source → Import → Bool
is_on_cycle us i = leads (imports us) (length us) i.name.text i.by

-- Rule 4. A name of the top level is `OrcaMain`.
abbrev pub is_main : Defined → Bool
is_main d = not (is_role Module d.role) && bytes_eq d.name.text (codes "OrcaMain")

-- Rule 5. An object type with a specification has an implementation, in whatever unit.
abbrev pub is_unimplemented : List Defined → Defined → Bool
is_unimplemented ds d = is_role Specification d.role && not (is_defined Implementation d.name.text ds)

-- a breach of a rule at a name; that of rule 4 stands nowhere
abbrev pub link_error : ℕ → List ℕ → Name → LinkError
link_error rule file name = record { rule = rule; name = name.text; file = file; at = name.at }

abbrev pub at_definition : ℕ → Defined → LinkError
at_definition rule d = link_error rule d.file d.name

abbrev pub at_import : ℕ → Import → LinkError
at_import rule i = link_error rule i.file i.name

abbrev pub no_main : LinkError
no_main = record { rule = 4; name = []; file = []; at = record { line = 1; column = 1 } }

-- the breaches of each rule, in the order of the files and of their texts
abbrev pub repetitions : List Source → List LinkError
repetitions us = map (at_definition 1) (repeated [] (definitions us))

abbrev pub unknown_modules : List Source → List LinkError
unknown_modules us = map (at_import 2) (filter (is_unknown (definitions us)) (imports us))

abbrev pub import_cycles : List Source → List LinkError
import_cycles us = map (at_import 3) (filter (is_on_cycle us) (imports us))

abbrev pub without_main : List Source → List LinkError
without_main us = if list_any is_main (definitions us) then [] else no_main ∷ []

abbrev pub without_implementation : List Source → List LinkError
without_implementation us = map (at_definition 5) (filter (is_unimplemented (definitions us)) (definitions us))

-- all breaches, those of the lowest rule first
abbrev pub link_errors : List Source → List LinkError
link_errors us = repetitions us ++ (unknown_modules us ++ (import_cycles us ++ (without_main us ++ without_implementation us)))

-- no rule is broken
abbrev pub Links : List Source → Type 0
Links us = link_errors us ≡ []

-- the breach that is told: the first
abbrev pub first : {X : Type 0} → List X → Option X
first [] = None
first (x ∷ xs) = Some x

abbrev pub IsLinkError : List Source → LinkError → Type 0
IsLinkError us e = first (link_errors us) ≡ Some e
