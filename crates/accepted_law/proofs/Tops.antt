-- What is asked of each name of the top level, in a program whose declarations break no rule; and which role it has.
use Rattle.std.proofs.Common.{refl}
use Rattle.std.specs.Prelude.{◌≡◌, ℕ, true, zero, suc, List, [], ◌∷◌, map, flat_map}
use Rattle.std.specs.List.{AllByRecursion}
use Rattle.orca_tree.specs.declared.tree.Name.{Name}
use Rattle.orca_syntax.specs.Sound.{IsSoundDecl, IsSoundDefinition, IsSoundSyntax}
use Rattle.orca_syntax.specs.Syntax as syn
use Rattle.orca_syntax.specs.Syntax.{Decl}
use Rattle.link_rules.specs.declared.role.Role.{Role}
use Rattle.link_rules.specs.declared.role.Role.TheVariants.{Specification, Implementation, Other}
use Rattle.link_rules.specs.Units.{Source, module_name, values_of}
use Rattle.link_rules.specs.Declarations.{declarations, declarations_of}
use Rattle.type_rules.specs.Breaches.{IsWellTyped, type_error, unit_breaches}
use Rattle.type_rules.specs.Constants.{bound}
use Rattle.type_rules.specs.TopLevel as top
use Rattle.type_rules.specs.TopLevel.{What, TopName, top_names, unit_names, names_in, name_in, number_of, role_in, what_in, values_at, values_in}
use Rattle.type_rules.specs.TypePhrases.{declared_type, definition}
use Rattle.type_rules.specs.Rules.{asks}
use Rattle.type_rules.specs.Scopes.{specification, view_of}
use Rattle.type_rules.specs.Declarations.{decl_breaches, function_breaches, holds_no_self, is_specified_in, no_main, number_or_none, process_breaches, process_form, specification_breaches}
use Rattle.meaning_rules.proofs.Judged.{asked, left_none, right_none}
use Rattle.meaning_rules.proofs.Orderly.{all_both, all_flat, all_map, each_none, map_none, order_none, units}

-- ---- roles

abbrev pub role_of : What → Role
role_of (top.Specified hs) = Specification
role_of (top.Implemented os) = Implementation
role_of _ = Other

abbrev pub HasRole : TopName → Type 0
HasRole t = t.defined.role ≡ role_of t.what

decl_role : (d : Decl) → role_in d ≡ role_of (what_in d)
decl_role (syn.Constant at n value) = refl
decl_role (syn.Declares at n of) = refl
decl_role (syn.Specification at n hs) = refl
decl_role (syn.Implementation at n fields os opening) = refl
decl_role (syn.Function at n ps r b) = refl
decl_role (syn.Process at n ps b) = refl

value_roles : (m file of : List ℕ) (number : ℕ) (ns : List Name) → AllByRecursion HasRole (values_at m file of number ns)
value_roles m file of number [] = tt
value_roles m file of number (n ∷ ns) = (refl, value_roles m file of (suc number) ns)

pub top_roles : (us : List Source) → AllByRecursion HasRole (top_names us)
top_roles us = all_flat HasRole unit_names us (each us)
  where
    decls : (m file : List ℕ) (ds : List Decl) → AllByRecursion (λ d. AllByRecursion HasRole (names_in m file d)) ds
    decls m file [] = tt
    decls m file (d ∷ ds) = ((decl_role d, value_roles m file (name_in d).text zero (values_in d)), decls m file ds)

    each : (us : List Source) → AllByRecursion (λ u. AllByRecursion HasRole (unit_names u)) us
    each [] = tt
    each (u ∷ us) = (all_flat HasRole (names_in (module_name u) u.file) u.syntax.declarations (decls (module_name u) u.file u.syntax.declarations), each us)

-- ---- no breach

module _ (us : List Source) where
  abbrev pub IsFine : List ℕ → Name → What → Type 0
  IsFine m n (top.Constant b) = (no_main n ≡ []) × ((bound (view_of us m []) b).breaches ≡ [])
  IsFine m n (top.TypeName of) =
      (no_main n ≡ []) × (holds_no_self us n (number_of us n.text) ≡ [])
      × ((definition (declared_type us) (view_of us m []) (number_or_none (number_of us n.text)) of).breaches ≡ []) × IsSoundDefinition of
  IsFine m n (top.Value of number) = no_main n ≡ []
  IsFine m n (top.Specified hs) = (no_main n ≡ []) × (specification_breaches us m n hs ≡ [])
  IsFine m n (top.Implemented os) = (no_main n ≡ []) × (is_specified_in m (specification us n.text) ≡ true)
  IsFine m n (top.Function ps r b) = (no_main n ≡ []) × (function_breaches us m ps r b ≡ [])
  IsFine m n (top.Process ps b) = (process_form n ps ≡ []) × (process_breaches us m ps b ≡ [])

  abbrev pub IsFineTop : TopName → Type 0
  IsFineTop t = IsFine t.defined.by t.defined.name t.what

  abbrev pub IsFineDecl : List ℕ → Decl → Type 0
  IsFineDecl m d = (decl_breaches us m d ≡ []) × IsSoundDecl d

  decl_fine : (m : List ℕ) (d : Decl) → IsFineDecl m d → IsFine m (name_in d) (what_in d)
  decl_fine m (syn.Constant at n value) fine = (left_none (no_main n) _ fine.0, right_none (no_main n) _ fine.0)
  decl_fine m (syn.Declares at n of) fine =
      let one = right_none (no_main n) _ fine.0 in
      let two = right_none (flat_map no_main (values_of of)) _ one in
      let self = holds_no_self us n (number_of us n.text) in
      (left_none (no_main n) _ fine.0, left_none self _ two, right_none self _ two, fine.1.1)
  decl_fine m (syn.Specification at n hs) fine = (left_none (no_main n) _ fine.0, right_none (no_main n) _ fine.0)
  decl_fine m (syn.Implementation at n fields os opening) fine =
      let first = asks 11 n.at (is_specified_in m (specification us n.text)) in
      (left_none (no_main n) _ fine.0, asked 11 n.at (is_specified_in m (specification us n.text)) (left_none first _ (right_none (no_main n) _ fine.0)))
  decl_fine m (syn.Function at n ps r b) fine = (left_none (no_main n) _ fine.0, right_none (no_main n) _ fine.0)
  decl_fine m (syn.Process at n ps b) fine = (left_none (process_form n ps) _ fine.0, right_none (process_form n ps) _ fine.0)

  values_fine : (m file of : List ℕ) (number : ℕ) (ns : List Name) → AllByRecursion (λ n. no_main n ≡ []) ns → AllByRecursion IsFineTop (values_at m file of number ns)
  values_fine m file of number [] none = tt
  values_fine m file of number (n ∷ ns) none = (none.0, values_fine m file of (suc number) ns none.1)

  values_none : (m : List ℕ) (d : Decl) → IsFineDecl m d → AllByRecursion (λ n. no_main n ≡ []) (values_in d)
  values_none m (syn.Declares at n of) fine = each_none no_main (values_of of) (left_none (flat_map no_main (values_of of)) _ (right_none (no_main n) _ fine.0))
  values_none m (syn.Constant at n value) fine = tt
  values_none m (syn.Specification at n hs) fine = tt
  values_none m (syn.Implementation at n fields os opening) fine = tt
  values_none m (syn.Function at n ps r b) fine = tt
  values_none m (syn.Process at n ps b) fine = tt

  module _ (typed : IsWellTyped us) (sound : AllByRecursion (λ u. IsSoundSyntax u.syntax) us) where
    units_fine : AllByRecursion (λ u. AllByRecursion (IsFineDecl (module_name u)) u.syntax.declarations) us
    units_fine =
        all_both (λ u. map (type_error u) (unit_breaches us u) ≡ []) (λ u. IsSoundSyntax u.syntax) (λ u. AllByRecursion (IsFineDecl (module_name u)) u.syntax.declarations) us
        (λ u one words. all_both (λ d. decl_breaches us (module_name u) d ≡ []) IsSoundDecl (IsFineDecl (module_name u)) u.syntax.declarations (λ d a b. (a, b))
        (each_none (decl_breaches us (module_name u)) u.syntax.declarations (order_none _ (map_none (type_error u) (unit_breaches us u) one))) words.2)
        (each_none (λ u. map (type_error u) (unit_breaches us u)) us typed) sound

    pub decls_fine : AllByRecursion (λ x. IsFineDecl x.by x.decl) (declarations us)
    decls_fine =
        all_flat (λ x. IsFineDecl x.by x.decl) declarations_of us
        (all_both (λ u. AllByRecursion (IsFineDecl (module_name u)) u.syntax.declarations) (λ u. Unit {0}) (λ u. AllByRecursion (λ x. IsFineDecl x.by x.decl) (declarations_of u)) us
        (λ u one unit. all_map (λ x. IsFineDecl x.by x.decl) (λ d. record { by = module_name u; file = u.file; decl = d }) u.syntax.declarations one) units_fine (units us))

    pub tops_fine : AllByRecursion IsFineTop (top_names us)
    tops_fine =
        all_flat IsFineTop unit_names us
        (all_both (λ u. AllByRecursion (IsFineDecl (module_name u)) u.syntax.declarations) (λ u. Unit {0}) (λ u. AllByRecursion IsFineTop (unit_names u)) us
        (λ u one unit. all_flat IsFineTop (names_in (module_name u) u.file) u.syntax.declarations
        (all_both (IsFineDecl (module_name u)) (λ d. Unit {0}) (λ d. AllByRecursion IsFineTop (names_in (module_name u) u.file d)) u.syntax.declarations
        (λ d f unit2. (decl_fine (module_name u) d f, values_fine (module_name u) u.file (name_in d).text zero (values_in d) (values_none (module_name u) d f)))
        one (units u.syntax.declarations))) units_fine (units us))
