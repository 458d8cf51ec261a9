-- Each definition is that of a unit's module, or one of a declaration.
use Rattle.std.proofs.Common.{◌≡◌, List, ◌⊎◌, inl, inr, sym, subst}
use Rattle.std.specs.Prelude.{flat_map}
use Rattle.std.specs.List.{Contains}
use Rattle.orca_syntax.specs.Syntax.{Decl}
use Rattle.link_rules.specs.declared.role.Role.TheVariants.{Module}
use Rattle.link_rules.specs.Units.{Source, Defined, defined, defined_by, definitions, definitions_of, module_name, module_of}
use Rattle.link_rules.specs.Declarations.{ComesFromDeclarations, Declared, declarations_of, IsDefinedBy}
use Rattle.link_rules.proofs.Elements.{cons_cases, from_flat_map, from_map, here, in_flat_map, in_map, there}

module _ (us : List Source) (d : Defined) where
  abbrev own : Source → Defined
  own u = defined (module_name u) u.file Module (module_of u.syntax)

  abbrev rest : Source → List Defined
  rest u = flat_map (defined_by (module_name u) u.file) u.syntax.declarations

  abbrev of : Source → Decl → Declared
  of u k = record { by = module_name u; file = u.file; decl = k }

  in_unit : (u : Source) → Contains us u → (own u ≡ d) ⊎ Contains (rest u) d → IsDefinedBy us d
  in_unit u c (inl e) = inl (u, c, sym e)
  in_unit u c (inr r) =
      let k = from_flat_map (defined_by (module_name u) u.file) u.syntax.declarations d r in
      inr (of u k.0, in_flat_map declarations_of us u (of u k.0) c (in_map (of u) u.syntax.declarations k.0 k.1), k.2)

  from : Contains (definitions us) d → IsDefinedBy us d
  from c = let u = from_flat_map definitions_of us d c in in_unit u.0 u.1 (cons_cases (own u.0) (rest u.0) d u.2)

  to : IsDefinedBy us d → Contains (definitions us) d
  to (inl m) = in_flat_map definitions_of us m.0 d m.1 (subst (λ (v : Defined). Contains (definitions_of m.0) v) (sym m.2) (here (own m.0) (rest m.0)))
  to (inr m) =
      let u = from_flat_map declarations_of us m.0 m.1 in
      let k = from_map (of u.0) u.0.syntax.declarations m.0 u.2 in
      let inside : Contains (defined_by (module_name u.0) u.0.file k.0) d = subst (λ (x : Declared). Contains (defined_by x.by x.file x.decl) d) (sym k.2) m.2 in
      in_flat_map definitions_of us u.0 d u.1 (there (own u.0) (rest u.0) d (in_flat_map (defined_by (module_name u.0) u.0.file) u.0.syntax.declarations k.0 d k.1 inside))

pub comes_from : (us : List Source) → ComesFromDeclarations us
comes_from us = λ d. (from us d, to us d)
