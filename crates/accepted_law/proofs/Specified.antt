-- An object type that a type phrase names goes by the number of a specification, also where the name's implementation alone is seen: each
-- implementation has one.
use Rattle.std.proofs.Common.{refl, sym, ap, ◌∙◌, subst}
use Rattle.std.specs.Prelude.{◌≡◌, ◌&&◌, not, ◌++◌, ℕ, ℤ, zero, suc, Bool, true, false, if◌then◌else◌, List, [], ◌∷◌, map, flat_map, length, slice_get, Option, Some, None, option_map, option_and_then}
use Rattle.std.specs.List.{AllByRecursion}
use Rattle.std.proofs.lemmas.Bool.{true≢false}
use Rattle.orca_base.specs.declared.place.Place.{Place}
use Rattle.orca_tree.specs.declared.tree.Bound.{Bound}
use Rattle.orca_tree.specs.declared.tree.Mode.{Mode}
use Rattle.orca_tree.specs.declared.tree.Mode.TheVariants as mode
use Rattle.orca_tree.specs.declared.tree.Name.{Name}
use Rattle.orca_syntax.specs.Places.{bound_place, kind_place}
use Rattle.orca_syntax.specs.Syntax as syn
use Rattle.orca_syntax.specs.Syntax.{Kind, TypedName, Parameter, Variables, Operation, Head, Definition, Block}
use Rattle.link_rules.specs.Rules.{is_role}
use Rattle.link_rules.specs.Units.{Source}
use Rattle.link_rules.specs.declared.role.Role.TheVariants.{Specification, Implementation, Other}
use Rattle.link_rules.proofs.Truth.{and_first}
use Rattle.type_rules.specs.declared.breach.Breach.{Breach}
use Rattle.type_rules.specs.declared.names.LocalRole.TheVariants.{Variable}
use Rattle.type_rules.specs.declared.names.Predeclared.{Predeclared}
use Rattle.type_rules.specs.declared.names.Predeclared.TheVariants as predeclared
use Rattle.type_rules.specs.declared.types.Base.TheVariants as base
use Rattle.type_rules.specs.declared.types.Measured.{Measured}
use Rattle.type_rules.specs.Types.{is_object, object_in, outside_of}
use Rattle.type_rules.specs.TopLevel as top
use Rattle.type_rules.specs.TopLevel.{What, TopName, bears, is_as, number_as, number_of, or_else, stands_for, top_names}
use Rattle.type_rules.specs.Rules.{Found, are_new, asks, fits, unless}
use Rattle.type_rules.specs.Constants.{View, Sense, OfBody, OfAll, bound, sense}
use Rattle.type_rules.specs.Scopes.{Local, is_name, locals_of, own_names, parameter_found, parameter_local, specification, specification_at, view_of}
use Rattle.type_rules.specs.TypePhrases.{array_found, array_phrase, at_most, bag_of, data_phrase, declared_top, declared_type, declared_what, declared_within, definition, distinct_fields, gathering_phrase, graph_of, graph_phrase, is_graph_bound, is_number_one, is_small, kind_found, named_type, of_data, phrase, predeclared_type, ranged_phrase, record_of, set_of, single, top_type, whole_module, with_field, within_limits}
use Rattle.type_rules.specs.Declarations.{is_specified_in}
use Rattle.meaning_rules.specs.Processes.{object_type_of}
use Rattle.meaning_rules.specs.Programs.{is_specification, process_scope}
use Rattle.meaning_rules.proofs.Called.{top_at}
use Rattle.meaning_rules.proofs.Judged.{all_at}
use Rattle.meaning_rules.proofs.Orderly.{all_append, all_flat, all_map}
use Rattle.accepted_law.proofs.Bounds.{sense_top}
use Rattle.accepted_law.proofs.Lists.{found_at, same_some}
use Rattle.accepted_law.proofs.Texts.{stands_bears, stands_number}
use Rattle.accepted_law.proofs.Tops.{HasRole, IsFine, IsFineTop, role_of, top_roles}

-- the number of an object type that was found
abbrev object_found : Option Measured → Option ℕ
object_found o = option_and_then (λ t. object_in (outside_of t)) (option_map (λ m. m.kind) o)

-- ---- what isn't a name is no object type

unless_no : (bs : List Breach) (o : Option Measured) → object_found o ≡ None → object_found (unless bs o).is ≡ None
unless_no [] o none = none
unless_no (b ∷ bs) o none = refl

array_no : (low high : Option ℤ) (o : Option Measured) → object_found (array_found low high o) ≡ None
array_no None high o = refl
array_no (Some low) None o = refl
array_no (Some low) (Some high) None = refl
array_no (Some low) (Some high) (Some m) = refl

graph_no : (o : Option Measured) → object_found (option_map graph_of o) ≡ None
graph_no None = refl
graph_no (Some m) = refl

set_no : (o : Option Measured) → object_found (option_map set_of o) ≡ None
set_no None = refl
set_no (Some m) = refl

bag_no : (o : Option Measured) → object_found (option_map bag_of o) ≡ None
bag_no None = refl
bag_no (Some m) = refl

field_no : (f r : Option Measured) → object_found r ≡ None → object_found (with_field f r) ≡ None
field_no None r none = refl
field_no (Some f) None none = refl
field_no (Some f) (Some r) none = none

record_no : (d : ℕ → Option Measured) (v : View) (i : ℕ) (fs : List TypedName) → object_found (record_of d v i fs).is ≡ None
record_no d v i [] = refl
record_no d v i (f ∷ fs) =
    let field = data_phrase d v f.kind in
    let rest = record_of d v i fs in
    unless_no (field.breaches ++ rest.breaches) (with_field field.is rest.is) (field_no field.is rest.is (record_no d v i fs))

within_no : (at : Place) (f : Found Measured) → object_found f.is ≡ None → object_found (within_limits at f).is ≡ None
within_no at f none = unless_no (f.breaches ++ asks 10 at (fits is_small f.is)) f.is none

bounded_no : (v : View) (low high : Bound) (element : Found Measured) → object_found (array_phrase v low high element).is ≡ None
bounded_no v low high element = by (is_graph_bound v high)
  where
    by : (b : Bool) → object_found (if b then graph_phrase low (bound v low) element else ranged_phrase low (bound v low) (bound v high) element).is ≡ None
    by true = unless_no ((bound v low).breaches ++ (asks 9 (bound_place low) (is_number_one low) ++ element.breaches)) (option_map graph_of element.is) (graph_no element.is)
    by false =
        unless_no ((bound v low).breaches ++ ((bound v high).breaches ++ (asks 9 (bound_place low) (at_most (bound v low).is (bound v high).is) ++ element.breaches)))
        (array_found (bound v low).is (bound v high).is element.is) (array_no (bound v low).is (bound v high).is element.is)

module _ (us : List Source) (fine : AllByRecursion (IsFineTop us) (top_names us)) where
  -- ---- names of object types

  abbrev pub IsSpecification : ℕ → Type 0
  IsSpecification i = (t : TopName) × (slice_get (top_names us) i ≡ Some t) × (is_specification t ≡ true)

  -- what is found is no object type, or one by its specification
  abbrev pub IsSpecified : Option Measured → Type 0
  IsSpecified o = (i : ℕ) → object_found o ≡ Some i → IsSpecification i

  without : (o : Option Measured) → object_found o ≡ None → IsSpecified o
  without o none i is = absurd (let e = sym none ∙ is in cc)

  unless_specified : (bs : List Breach) (o : Option Measured) → IsSpecified o → IsSpecified (unless bs o).is
  unless_specified [] o h = h
  unless_specified (b ∷ bs) o h = without None refl

  has_role : (i : ℕ) (t : TopName) → slice_get (top_names us) i ≡ Some t → (w : What) → t.what ≡ w → t.defined.role ≡ role_of w
  has_role i t at w what = all_at HasRole (top_names us) i t (top_roles us) at ∙ ap role_of what

  implemented_specified : (name : List ℕ) (i : ℕ) (t : TopName) (os : List Operation) → slice_get (top_names us) i ≡ Some t → t.what ≡ top.Implemented os →
      t.defined.name.text ≡ name → number_of us name ≡ Some i → IsSpecification i
  implemented_specified name i t os at what named number = by (number_as us Specification name) refl number
    where
      specified : is_specified_in t.defined.by (specification us name) ≡ true
      specified =
          subst (λ n. is_specified_in t.defined.by (specification us n) ≡ true) named
          (subst (IsFine us t.defined.by t.defined.name) what (all_at (IsFineTop us) (top_names us) i t fine at)).1

      by : (o : Option ℕ) → number_as us Specification name ≡ o → or_else o (or_else (number_as us Implementation name) (number_as us Other name)) ≡ Some i → IsSpecification i
      by None none e = absurd (true≢false (sym specified ∙ ap (λ o. is_specified_in t.defined.by (specification_at us o)) none))
      by (Some j) some e =
          let h = found_at (is_as Specification name) (top_names us) j some in
          (h.0, ap (slice_get (top_names us)) (sym (same_some j i e)) ∙ h.1, and_first (is_role Specification h.0.defined.role) (bears name h.0) h.2)

  top_specified : (d : ℕ → Option Measured) → ((i : ℕ) → IsSpecified (d i)) → (home : List ℕ) (n : Name) (i : ℕ) (t : TopName) → stands_for us home n.text ≡ top.Top i t →
      (w : What) → t.what ≡ w → IsSpecified (top_type d n i w).is
  top_specified d known home n i t stands (top.TypeName of) what = known i
  top_specified d known home n i t stands (top.Specified hs) what = λ j is.
      let at = top_at us home n.text i t stands in
      subst IsSpecification (same_some i j is) (t, at, ap (is_role Specification) (has_role i t at (top.Specified hs) what))
  top_specified d known home n i t stands (top.Implemented os) what = λ j is.
      subst IsSpecification (same_some i j is)
      (implemented_specified n.text i t os (top_at us home n.text i t stands) what (stands_bears us home n.text i t stands) (stands_number us home n.text i t stands))
  top_specified d known home n i t stands (top.Constant b) what = without None refl
  top_specified d known home n i t stands (top.Value of number) what = without None refl
  top_specified d known home n i t stands (top.Function ps r b) what = without None refl
  top_specified d known home n i t stands (top.Process ps b) what = without None refl

  predeclared_specified : (n : Name) (p : Predeclared) → IsSpecified (predeclared_type n p).is
  predeclared_specified n predeclared.NodeNameType = without (Some (single base.NodeName)) refl
  predeclared_specified n predeclared.GraphBound = without None refl
  predeclared_specified n predeclared.Nil = without None refl
  predeclared_specified n predeclared.AddNode = without None refl
  predeclared_specified n predeclared.DeleteNode = without None refl

  -- ---- type phrases, over declared types that are such

  module _ (d : ℕ → Option Measured) (known : (i : ℕ) → IsSpecified (d i)) where
    module _ (home : List ℕ) (hidden : List (List ℕ)) where
      abbrev Here : View
      Here = record { program = us; home = home; names = hidden }

      named_specified : (n : Name) → IsSpecified (named_type d n (sense Here n)).is
      named_specified n = by (sense Here n) refl
        where
          by : (s : Sense) → sense Here n ≡ s → IsSpecified (named_type d n s).is
          by OfBody is = without None refl
          by (OfAll top.Nothing) is = without None refl
          by (OfAll (top.Everywhere p)) is = predeclared_specified n p
          by (OfAll (top.Top i t)) is = top_specified d known home n i t (sense_top Here n i t is) t.what refl

      phrase_specified : (k : Kind) → IsSpecified (phrase d Here k).is
      phrase_specified (syn.Integer at) = without (Some (single base.Integer)) refl
      phrase_specified (syn.Boolean at) = without (Some (single base.Boolean)) refl
      phrase_specified (syn.Character at) = without (Some (single base.Character)) refl
      phrase_specified (syn.String at) = without (Some (single base.String)) refl
      phrase_specified (syn.Named n) = named_specified n
      phrase_specified (syn.Array at low high k) =
          let element = of_data (kind_place k) (phrase d Here k) in
          without (phrase d Here (syn.Array at low high k)).is (within_no at (array_phrase Here low high element) (bounded_no Here low high element))
      phrase_specified (syn.Set at k) =
          let element = of_data (kind_place k) (phrase d Here k) in
          without (phrase d Here (syn.Set at k)).is
          (within_no at (gathering_phrase set_of element) (unless_no element.breaches (option_map set_of element.is) (set_no element.is)))
      phrase_specified (syn.Bag at k) =
          let element = of_data (kind_place k) (phrase d Here k) in
          without (phrase d Here (syn.Bag at k)).is
          (within_no at (gathering_phrase bag_of element) (unless_no element.breaches (option_map bag_of element.is) (bag_no element.is)))

      data_specified : (k : Kind) → IsSpecified (data_phrase d Here k).is
      data_specified k =
          let f = phrase d Here k in
          unless_specified (f.breaches ++ asks 6 (kind_place k) (fits (λ m. not (is_object m.kind)) f.is)) f.is (phrase_specified k)

    definition_specified : (t : TopName) (i : ℕ) (of : Definition) → IsSpecified (definition d (whole_module us t) i of).is
    definition_specified t i (syn.Record at fs) =
        let r = record_of d (whole_module us t) i fs in
        without (definition d (whole_module us t) i (syn.Record at fs)).is
        (within_no at (distinct_fields fs r) (unless_no (r.breaches ++ are_new (map (λ f. f.name) fs)) r.is (record_no d (whole_module us t) i fs)))
    definition_specified t i (syn.Enumeration at ns) = without (Some (single (base.Enumeration i))) refl
    definition_specified t i (syn.Alias k) = data_specified t.defined.by [] k

  declared_specified : (n i : ℕ) → IsSpecified (declared_within us n i)
  declared_specified zero i = without None refl
  declared_specified (suc n) i = by (slice_get (top_names us) i) (declared_specified n)
    where
      what : (t : TopName) (w : What) → ((j : ℕ) → IsSpecified (declared_within us n j)) → IsSpecified (declared_what (declared_within us n) us i t w)
      what t (top.TypeName of) known = definition_specified (declared_within us n) known t i of
      what t (top.Specified hs) known = without None refl
      what t (top.Implemented os) known = without None refl
      what t (top.Constant b) known = without None refl
      what t (top.Value of number) known = without None refl
      what t (top.Function ps r b) known = without None refl
      what t (top.Process ps b) known = without None refl

      by : (o : Option TopName) → ((j : ℕ) → IsSpecified (declared_within us n j)) → IsSpecified (declared_top (declared_within us n) us i o)
      by None known = without None refl
      by (Some t) known = what t t.what known

  kind_specified : (home : List ℕ) (hidden : List (List ℕ)) (k : Kind) → IsSpecified (kind_found (record { program = us; home = home; names = hidden }) k).is
  kind_specified home hidden k = phrase_specified (declared_type us) (declared_specified (length (top_names us))) home hidden k

  -- ---- the names of a process

  abbrev pub IsSpecifiedLocal : Local → Type 0
  IsSpecifiedLocal l = (i : ℕ) → object_type_of l ≡ Some i → IsSpecification i

  module _ (home : List ℕ) (hidden : List (List ℕ)) where
    abbrev v : View
    v = record { program = us; home = home; names = hidden }

    parameter_specified : (m : Mode) (k : Kind) → IsSpecified (parameter_found v m k).is
    parameter_specified mode.Value k = data_specified (declared_type us) (declared_specified (length (top_names us))) home hidden k
    parameter_specified mode.Out k = data_specified (declared_type us) (declared_specified (length (top_names us))) home hidden k
    parameter_specified mode.Shared k =
        let f = kind_found v k in
        unless_specified (f.breaches ++ asks 7 (kind_place k) (is_name k && fits (λ m. is_object m.kind) f.is)) f.is (kind_specified home hidden k)

    parameters_specified : (ps : List Parameter) → AllByRecursion (λ p. IsSpecifiedLocal (parameter_local v p)) ps
    parameters_specified [] = tt
    parameters_specified (p ∷ ps) = (parameter_specified p.mode p.kind, parameters_specified ps)

    names_specified : (k : Kind) (ns : List Name) → AllByRecursion (λ n. IsSpecifiedLocal (record { name = n.text; role = Variable; type = option_map (λ m. m.kind) (kind_found v k).is })) ns
    names_specified k [] = tt
    names_specified k (n ∷ ns) = (kind_specified home hidden k, names_specified k ns)

    variables_specified : (vs : List Variables) → AllByRecursion (λ x. AllByRecursion IsSpecifiedLocal (locals_of Variable (kind_found v) x)) vs
    variables_specified [] = tt
    variables_specified (x ∷ vs) =
        (all_map IsSpecifiedLocal (λ n. record { name = n.text; role = Variable; type = option_map (λ m. m.kind) (kind_found v x.kind).is }) x.names (names_specified x.kind x.names), variables_specified vs)

  pub process_specified : (m : List ℕ) (ps : List Parameter) (b : Block) → AllByRecursion IsSpecifiedLocal (process_scope us m ps b).locals
  process_specified m ps b =
      let w : View = view_of us m (own_names ps b) in
      all_append IsSpecifiedLocal (map (parameter_local w) ps) (flat_map (locals_of Variable (kind_found w)) b.variables)
      (all_map IsSpecifiedLocal (parameter_local w) ps (parameters_specified m w.names ps))
      (all_flat IsSpecifiedLocal (locals_of Variable (kind_found w)) b.variables (variables_specified m w.names b.variables))
