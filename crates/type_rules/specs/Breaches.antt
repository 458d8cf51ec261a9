-- The breaches of a program, in text order, with the files in order; at one place the lowest rule first (docs/LANGUAGE.md, Typing).
use Rattle.std.specs.Prelude.{◌≡◌, List, [], map, flat_map, Some}
use Rattle.link_rules.specs.Units.{Source, module_name}
use Rattle.link_rules.specs.Rules.{first}
use Rattle.type_rules.specs.declared.type_error.TypeError.{TypeError}
use Rattle.type_rules.specs.Rules.{Breach}
use Rattle.type_rules.specs.Order.{in_text_order}
use Rattle.type_rules.specs.Declarations.{decl_breaches}

abbrev pub unit_breaches : List Source → Source → List Breach
unit_breaches us u = in_text_order (flat_map (decl_breaches us (module_name u)) u.syntax.declarations)

abbrev pub type_error : Source → Breach → TypeError
type_error u b = record { rule = b.rule; file = u.file; at = b.at }

abbrev pub breaches : List Source → List TypeError
breaches us = flat_map (λ u. map (type_error u) (unit_breaches us u)) us

-- no rule is broken
abbrev pub IsWellTyped : List Source → Type 0
IsWellTyped us = breaches us ≡ []

-- the breach that is told: the first
abbrev pub IsTypeError : List Source → TypeError → Type 0
IsTypeError us e = first (breaches us) ≡ Some e
