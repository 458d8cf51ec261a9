-- The names of bodies, parameters and results have types, and of data where these are no object types: of functions, processes, fields and
-- operations.
use Rattle.std.proofs.Common.{refl, sym, ap, ◌∙◌, subst}
use Rattle.std.specs.Prelude.{◌≡◌, ◌&&◌, ℕ, zero, Bool, true, false, if◌then◌else◌, bytes_eq, List, [], ◌∷◌, ◌++◌, map, flat_map, filter_map, slice_get, Option, Some, None, option_map}
use Rattle.std.specs.List.{AllByRecursion, list_any}
use Rattle.std.specs.Option.{option_map_or}
use Rattle.std.proofs.lemmas.Slice.Eq.{bytes_eq-Decides}
use Rattle.orca_tree.specs.declared.tree.Mode.{Mode}
use Rattle.orca_tree.specs.declared.tree.Mode.TheVariants as mode
use Rattle.orca_tree.specs.declared.tree.Name.{Name}
use Rattle.orca_syntax.specs.Places.{kind_place}
use Rattle.orca_syntax.specs.Syntax as syn
use Rattle.orca_syntax.specs.Syntax.{Kind, Stmts, TypedName, Parameter, Variables, Operation, Block, Definition, Decl}
use Rattle.link_rules.specs.Declarations.{declarations}
use Rattle.link_rules.specs.Linked.{IsLinked}
use Rattle.link_rules.specs.Units.{Source}
use Rattle.type_rules.specs.declared.names.LocalRole.{LocalRole}
use Rattle.type_rules.specs.declared.names.LocalRole.TheVariants.{ObjectField, Variable}
use Rattle.type_rules.specs.declared.names.Owner.{Owner}
use Rattle.type_rules.specs.declared.names.Owner.TheVariants as owner
use Rattle.type_rules.specs.declared.types.DataType.{DataType}
use Rattle.type_rules.specs.declared.types.Measured.{Measured}
use Rattle.type_rules.specs.Constants.{View}
use Rattle.type_rules.specs.Types.{is_object}
use Rattle.type_rules.specs.TopLevel as top
use Rattle.type_rules.specs.TopLevel.{What, TopName, top_names}
use Rattle.type_rules.specs.Rules.{Found, are_new, asks, fits}
use Rattle.type_rules.specs.Scopes.{Local, formal, is_name, locals_of, own_names, parameter_found, parameter_local, passed, role_of, shared_found, signature, specification, texts, type_of, value_local, view_of}
use Rattle.type_rules.specs.Statements.{stmts_breaches}
use Rattle.type_rules.specs.TypePhrases.{data_found, data_phrase, declared_type, distinct_fields, kind_found, record_of, whole_module}
use Rattle.type_rules.specs.Declarations.{are_free, block_breaches, block_scope, field_locals, field_names, fields_view, function_breaches, heads_match, heads_of, implementation_breaches, implementation_scope, is_specified_in, no_main, opening_breaches, operation_breaches, operation_names, operation_view, owner_of, is_shared, parameters_breaches, process_breaches, result_breaches, result_of, values_breaches, variables_breaches}
use Rattle.meaning_rules.specs.Openings.{field_types, fields_in, fields_of_what, types_in}
use Rattle.meaning_rules.specs.Programs.{ObjectType, begin_scope, function_scope, implementation, implements, is_process, process_scope, process_texts}
use Rattle.meaning_rules.specs.Accepted.{HoldsData, IsData, IsFunction, IsKnown, IsKnownFormal, IsKnownResult, IsOfData, IsOpening, IsOperationBody, IsPlain}
use Rattle.meaning_rules.proofs.Judged.{all_at, asked, left_none, right_none, unless_is, unless_none}
use Rattle.meaning_rules.proofs.Orderly.{all_append, all_both, all_filter, all_filter_map, all_flat, all_map, each_none, units}
use Rattle.accepted_law.proofs.Declared.{no_breach_in}
use Rattle.accepted_law.proofs.Found.{IsTypeFound, data_of_kind, kind_is_found}
use Rattle.accepted_law.proofs.Lists.{same_some}
use Rattle.accepted_law.proofs.Measures.{is_data}
use Rattle.accepted_law.proofs.Tops.{IsFine, IsFineDecl, IsFineTop}

-- a type is known, and of data where it is no object type
abbrev pub IsGood : List Source → Option DataType → Type 0
IsGood us o = IsKnown o × ((t : DataType) → o ≡ Some t → is_object t ≡ false → IsData us t)

-- what is found of an implementation without a breach
pub record IsFineType (us : List Source) (name : List ℕ) (t : ObjectType) : Type 0 where
  pub specified : is_specified_in t.home (specification us name) ≡ true
  pub fields : variables_breaches (data_found (fields_view us t.home t.fields)) t.fields ≡ []
  pub heads : heads_of (specification us name) t.operations (heads_match us t.home t.fields) ≡ []
  pub operations : AllByRecursion (λ o. operation_breaches us t.home t.fields o ≡ []) t.operations

module _ (us : List Source) (linked : IsLinked us) (fine : AllByRecursion (IsFineTop us) (top_names us)) where
  type_good : (f : Found Measured) → IsTypeFound us linked fine f → IsGood us (type_of f)
  type_good f h =
      let is : type_of f ≡ Some h.0.kind = ap (option_map (λ m. m.kind)) h.1 in (
        (h.0.kind, is),
        λ t e simple.
            let same : h.0.kind ≡ t = same_some h.0.kind t (sym is ∙ e) in
            subst (IsData us) same (is_data us h.0 (h.2 (subst (λ u. is_object u ≡ false) (sym same) simple))),
      )

  data_good : (o : Option DataType) → IsOfData us o → IsGood us o
  data_good o h = ((h.0, h.1), λ t e simple. subst (IsData us) (same_some h.0 t (sym h.1 ∙ e)) h.2)

  module _ (home : List ℕ) (hidden : List (List ℕ)) where
    abbrev pub Here : View
    Here = record { program = us; home = home; names = hidden }

    -- ---- parameters

    shared_good : (k : Kind) → (shared_found Here k).breaches ≡ [] → IsGood us (type_of (shared_found Here k))
    shared_good k none =
        let f = kind_found Here k in
        let test = asks 7 (kind_place k) (is_name k && fits (λ m. is_object m.kind) f.is) in
        let all = unless_none (f.breaches ++ test) f.is none in
        let h = kind_is_found us linked fine home hidden k (left_none f.breaches test all) in
        type_good (shared_found Here k) (h.0, ap (λ g. g.is) (unless_is (f.breaches ++ test) f.is all) ∙ h.1, h.2)

    pub parameter_good : (m : Mode) (k : Kind) → (parameter_found Here m k).breaches ≡ [] → IsGood us (type_of (parameter_found Here m k))
    parameter_good mode.Value k none = data_good _ (data_of_kind us linked fine home hidden k none)
    parameter_good mode.Out k none = data_good _ (data_of_kind us linked fine home hidden k none)
    parameter_good mode.Shared k none = shared_good k none

    parameter_holds : (m : Mode) (k : Kind) → (parameter_found Here m k).breaches ≡ [] → HoldsData (role_of m) us (type_of (parameter_found Here m k))
    parameter_holds mode.Value k none = data_of_kind us linked fine home hidden k none
    parameter_holds mode.Out k none = data_of_kind us linked fine home hidden k none
    parameter_holds mode.Shared k none = tt

    formal_known : (m : Mode) (t : Option DataType) → IsKnown t → IsKnownFormal (passed m t)
    formal_known mode.Value t known = known
    formal_known mode.Out t known = known
    formal_known mode.Shared t known = known

    opening_of : (l : Local) → IsGood us l.type → IsOpening us l
    opening_of l good = record { known = good.0; data_type = good.1 }

    parameters_none : (ps : List Parameter) → parameters_breaches Here ps ≡ [] → AllByRecursion (λ p. (parameter_found Here p.mode p.kind).breaches ≡ []) ps
    parameters_none ps none = each_none (λ p. (parameter_found Here p.mode p.kind).breaches) ps none

    pub each_parameter : (P : Parameter → Type 0) → ((p : Parameter) → (parameter_found Here p.mode p.kind).breaches ≡ [] → P p) → (ps : List Parameter) → parameters_breaches Here ps ≡ [] → AllByRecursion P ps
    each_parameter P f ps none = all_both (λ p. (parameter_found Here p.mode p.kind).breaches ≡ []) (λ p. Unit {0}) P ps (λ p one unit. f p one) (parameters_none ps none) (units ps)

    -- ---- variables, of a type that was found of each phrase

    each_local : (P : Local → Type 0) (role : LocalRole) (find : Kind → Found Measured) (vs : List Variables) →
        ((k : Kind) (n : List ℕ) → (find k).breaches ≡ [] → P (record { name = n; role = role; type = type_of (find k) })) → variables_breaches find vs ≡ [] →
        AllByRecursion P (flat_map (locals_of role find) vs)
    each_local P role find vs f none =
        all_flat P (locals_of role find) vs
        (all_both (λ v. (find v.kind).breaches ≡ []) (λ v. Unit {0}) (λ v. AllByRecursion P (locals_of role find v)) vs
        (λ v one unit. all_map P (λ n. record { name = n.text; role = role; type = type_of (find v.kind) }) v.names
        (all_both (λ n. Unit {0}) (λ n. Unit {0}) (λ n. P (record { name = n.text; role = role; type = type_of (find v.kind) })) v.names (λ n a b. f v.kind n.text one) (units v.names) (units v.names)))
        (each_none (λ v. (find v.kind).breaches) vs none) (units vs))

    data_locals : (role : LocalRole) (vs : List Variables) → variables_breaches (data_found Here) vs ≡ [] → AllByRecursion (λ l. IsOfData us l.type) (flat_map (locals_of role (data_found Here)) vs)
    data_locals role vs none = each_local (λ l. IsOfData us l.type) role (data_found Here) vs (λ k n one. data_of_kind us linked fine home hidden k one) none

    data_openings : (role : LocalRole) (vs : List Variables) → variables_breaches (data_found Here) vs ≡ [] → AllByRecursion (IsOpening us) (flat_map (locals_of role (data_found Here)) vs)
    data_openings role vs none =
        each_local (IsOpening us) role (data_found Here) vs
        (λ k n one. opening_of (record { name = n; role = role; type = type_of (data_found Here k) }) (data_good _ (data_of_kind us linked fine home hidden k one))) none

    kind_openings : (role : LocalRole) (vs : List Variables) → variables_breaches (kind_found Here) vs ≡ [] → AllByRecursion (IsOpening us) (flat_map (locals_of role (kind_found Here)) vs)
    kind_openings role vs none =
        each_local (IsOpening us) role (kind_found Here) vs
        (λ k n one. opening_of (record { name = n; role = role; type = type_of (kind_found Here k) }) (type_good (kind_found Here k) (kind_is_found us linked fine home hidden k one))) none

    pub values_data : (ts : List TypedName) → values_breaches Here ts ≡ [] → AllByRecursion (λ t. IsOfData us (type_of (data_found Here t.kind))) ts
    values_data ts none =
        all_both (λ t. (data_found Here t.kind).breaches ≡ []) (λ t. Unit {0}) (λ t. IsOfData us (type_of (data_found Here t.kind))) ts
        (λ t one unit. data_of_kind us linked fine home hidden t.kind one) (each_none (λ t. (data_found Here t.kind).breaches) ts none) (units ts)

    pub result_known : (r : Option Kind) → result_breaches Here r ≡ [] → IsKnownResult us (result_of Here r)
    result_known None none = tt
    result_known (Some k) none = data_of_kind us linked fine home hidden k none

  -- ---- functions and processes

  module _ (m : List ℕ) (ps : List Parameter) (r : Option Kind) (b : Block) where
    abbrev pub hidden : List (List ℕ)
    hidden = texts (own_names ps b)

    pub record IsFineBlock (find : Kind → Found Measured) : Type 0 where
      pub parameters : parameters_breaches (Here m hidden) ps ≡ []
      pub result : result_breaches (Here m hidden) r ≡ []
      pub variables : variables_breaches find b.variables ≡ []

    pub block_fine : (o : Owner) (find : Kind → Found Measured) → block_breaches us m o find (view_of us m (own_names ps b)) ps r b ≡ [] → IsFineBlock find
    block_fine o find none =
        let v = view_of us m (own_names ps b) in
        let one = right_none (are_new (own_names ps b)) _ none in
        let two = right_none (are_free us m [] (own_names ps b)) _ one in
        let three = right_none (parameters_breaches v ps) _ two in
        let four = right_none (result_breaches v r) _ three in
        record {
          parameters = left_none (parameters_breaches v ps) _ two;
          result = left_none (result_breaches v r) _ three;
          variables = left_none (variables_breaches find b.variables) (stmts_breaches (block_scope us m o find v ps r b) b.statements) four;
        }

    parameter_openings : parameters_breaches (Here m hidden) ps ≡ [] → AllByRecursion (IsOpening us) (map (parameter_local (Here m hidden)) ps)
    parameter_openings none =
        all_map (IsOpening us) (parameter_local (Here m hidden)) ps
        (each_parameter m hidden (λ p. IsOpening us (parameter_local (Here m hidden) p)) (λ p one. opening_of m hidden (parameter_local (Here m hidden) p) (parameter_good m hidden p.mode p.kind one)) ps none)

    formals_known : parameters_breaches (Here m hidden) ps ≡ [] → AllByRecursion IsKnownFormal (signature us m ps r b).formals
    formals_known none =
        all_map IsKnownFormal (formal (Here m hidden)) ps
        (each_parameter m hidden (λ p. IsKnownFormal (formal (Here m hidden) p)) (λ p one. formal_known m hidden p.mode _ (parameter_good m hidden p.mode p.kind one).0) ps none)

    function_fine : (t : TopName) → t.defined.by ≡ m → function_breaches us m ps r b ≡ [] → IsFunction us t ps r b
    function_fine t is none =
        let f = block_fine (owner_of ps (list_any (λ p. is_shared p.mode) ps)) (data_found (Here m hidden)) none in
        let locals = flat_map (locals_of Variable (data_found (Here m hidden))) b.variables in
        subst (λ x. AllByRecursion IsKnownFormal (signature us x ps r b).formals → IsPlain (function_scope us x ps r b) → AllByRecursion (λ l. HoldsData l.role us l.type) (function_scope us x ps r b).locals → IsFunction us t ps r b)
        is (λ formals scope holds. record { formals = formals; scope = scope; holds = holds })
        (formals_known f.parameters)
        (record {
          names = all_append (IsOpening us) (map (parameter_local (Here m hidden)) ps) locals (parameter_openings f.parameters) (data_openings m hidden Variable b.variables f.variables);
          result = result_known m hidden r f.result;
        })
        (all_append (λ l. HoldsData l.role us l.type) (map (parameter_local (Here m hidden)) ps) locals
        (all_map (λ l. HoldsData l.role us l.type) (parameter_local (Here m hidden)) ps
        (each_parameter m hidden (λ p. HoldsData (role_of p.mode) us (type_of (parameter_found (Here m hidden) p.mode p.kind))) (λ p one. parameter_holds m hidden p.mode p.kind one) ps f.parameters))
        (each_local m hidden (λ l. HoldsData l.role us l.type) Variable (data_found (Here m hidden)) b.variables (λ k n one. data_of_kind us linked fine m hidden k one) f.variables))

  process_plain : (m : List ℕ) (ps : List Parameter) (b : Block) → process_breaches us m ps b ≡ [] → IsPlain (process_scope us m ps b)
  process_plain m ps b none =
      let own = hidden m ps None b in
      let f = block_fine m ps None b owner.Process (kind_found (Here m own)) none in
      record {
        names =
            all_append (IsOpening us) (map (parameter_local (Here m own)) ps) (flat_map (locals_of Variable (kind_found (Here m own))) b.variables)
            (parameter_openings m ps None b f.parameters) (kind_openings m own Variable b.variables f.variables);
        result = tt;
      }

  pub all_functions : (i : ℕ) (t : TopName) (ps : List Parameter) (r : Option Kind) (b : Block) → slice_get (top_names us) i ≡ Some t → t.what ≡ top.Function ps r b → IsFunction us t ps r b
  all_functions i t ps r b at what =
      function_fine t.defined.by ps r b t refl (subst (IsFine us t.defined.by t.defined.name) what (all_at (IsFineTop us) (top_names us) i t fine at)).1

  pub all_texts : (i : ℕ) (t : TopName) (ps : List Parameter) (b : Block) → slice_get (process_texts us) i ≡ Some t → t.what ≡ top.Process ps b → IsPlain (process_scope us t.defined.by ps b)
  all_texts i t ps b at what =
      process_plain t.defined.by ps b
      (subst (IsFine us t.defined.by t.defined.name) what (all_at (IsFineTop us) (process_texts us) i t (all_filter (IsFineTop us) (λ x. is_process x.what) (top_names us) fine) at)).1

  -- ---- fields of records

  record_fields_none : (v : View) (d : ℕ → Option Measured) (i : ℕ) (fs : List TypedName) → (record_of d v i fs).breaches ≡ [] → AllByRecursion (λ f. (data_phrase d v f.kind).breaches ≡ []) fs
  record_fields_none v d i [] none = tt
  record_fields_none v d i (f ∷ fs) none =
      let field = data_phrase d v f.kind in
      let rest = record_of d v i fs in
      let all = unless_none (field.breaches ++ rest.breaches) _ none in
      (left_none field.breaches rest.breaches all, record_fields_none v d i fs (right_none field.breaches rest.breaches all))

  known_fields : (t : TopName) (fs : List TypedName) → AllByRecursion (λ f. (data_found (whole_module us t) f.kind).breaches ≡ []) fs → AllByRecursion IsKnown (map (λ f. type_of (data_found (whole_module us t) f.kind)) fs)
  known_fields t [] none = tt
  known_fields t (f ∷ fs) none = (let h = data_of_kind us linked fine t.defined.by [] f.kind none.0 in (h.0, h.1), known_fields t fs none.1)

  pub all_fields : (i place : ℕ) (o : Option DataType) → slice_get (field_types us i) place ≡ Some o → IsKnown o
  all_fields i place o at = all_at IsKnown (field_types us i) place o (by (slice_get (top_names us) i) refl) at
    where
      of_definition : (t : TopName) → slice_get (top_names us) i ≡ Some t → (of : Definition) → t.what ≡ top.TypeName of → AllByRecursion IsKnown (map (λ f. type_of (data_found (whole_module us t) f.kind)) (fields_in of))
      of_definition t is (syn.Record p fs) what =
          let r = record_of (declared_type us) (whole_module us t) i fs in
          let none = no_breach_in us linked fine i (record { named = t; of = syn.Record p fs; at = is; what = what }) in
          let one = left_none (distinct_fields fs r).breaches _ (unless_none _ (distinct_fields fs r).is none) in
          known_fields t fs (record_fields_none (whole_module us t) (declared_type us) i fs (left_none r.breaches _ (unless_none _ r.is one)))
      of_definition t is (syn.Enumeration p ns) what = tt
      of_definition t is (syn.Alias k) what = tt

      of_what : (t : TopName) → slice_get (top_names us) i ≡ Some t → (w : What) → t.what ≡ w → AllByRecursion IsKnown (map (λ f. type_of (data_found (whole_module us t) f.kind)) (fields_of_what w))
      of_what t is (top.TypeName of) what = of_definition t is of what
      of_what t is (top.Constant c) what = tt
      of_what t is (top.Value of number) what = tt
      of_what t is (top.Specified hs) what = tt
      of_what t is (top.Implemented os) what = tt
      of_what t is (top.Function ps r b) what = tt
      of_what t is (top.Process ps b) what = tt

      by : (x : Option TopName) → slice_get (top_names us) i ≡ x → AllByRecursion IsKnown (option_map_or (types_in us) x [])
      by None is = tt
      by (Some t) is = of_what t is t.what refl

  -- ---- object types

  module _ (decls : AllByRecursion (λ x. IsFineDecl us x.by x.decl) (declarations us)) where
    implementation_fine : (m : List ℕ) (n : Name) (fields : List Variables) (os : List Operation) (opening : Option Stmts) → implementation_breaches us m n fields os opening ≡ [] →
        IsFineType us n.text (record { home = m; fields = fields; operations = os; begins = opening })
    implementation_fine m n fields os opening none =
        let opened = opening_breaches (implementation_scope us m (field_locals us m fields) None false) opening in
        let first = asks 11 n.at (is_specified_in m (specification us n.text)) in
        let one = right_none first _ none in
        let two = right_none (are_new (field_names fields ++ map (λ o. o.head.name) os)) _ one in
        let three = right_none (are_free us m [] (field_names fields)) _ two in
        let variables = variables_breaches (data_found (fields_view us m fields)) fields in
        let four = right_none variables _ three in
        let heads = heads_of (specification us n.text) os (heads_match us m fields) in
        let five = right_none heads (flat_map (operation_breaches us m fields) os ++ opened) four in
        record {
          specified = asked 11 n.at (is_specified_in m (specification us n.text)) (left_none first _ none);
          fields = left_none variables _ three;
          heads = left_none heads _ four;
          operations = each_none (operation_breaches us m fields) os (left_none (flat_map (operation_breaches us m fields) os) opened five);
        }

    implements_fine : (name m : List ℕ) (d : Decl) → IsFineDecl us m d → (t : ObjectType) → implements name m d ≡ Some t → IsFineType us name t
    implements_fine name m (syn.Implementation at n fields os opening) fine t is = by (bytes_eq n.text name) refl is
      where
        own : ObjectType
        own = record { home = m; fields = fields; operations = os; begins = opening }

        by : (b : Bool) → bytes_eq n.text name ≡ b → (if b then Some own else None) ≡ Some t → IsFineType us name t
        by true same e =
            subst (IsFineType us name) (same_some own t e)
            (subst (λ x. IsFineType us x own) ((bytes_eq-Decides n.text name).0 same) (implementation_fine m n fields os opening (right_none (no_main n) (implementation_breaches us m n fields os opening) fine.0)))
        by false same e = absurd cc
    implements_fine name m (syn.Constant at n value) fine t is = absurd cc
    implements_fine name m (syn.Declares at n of) fine t is = absurd cc
    implements_fine name m (syn.Specification at n heads) fine t is = absurd cc
    implements_fine name m (syn.Function at n ps r b) fine t is = absurd cc
    implements_fine name m (syn.Process at n ps b) fine t is = absurd cc

    pub type_is_fine : (name : List ℕ) (t : ObjectType) → implementation us name ≡ Some t → IsFineType us name t
    type_is_fine name t is =
        all_at (IsFineType us name) (filter_map (λ x. implements name x.by x.decl) (declarations us)) zero t
        (all_filter_map (IsFineType us name) (λ x. implements name x.by x.decl) (declarations us)
        (all_both (λ x. IsFineDecl us x.by x.decl) (λ x. Unit {0}) (λ x. (y : ObjectType) → implements name x.by x.decl ≡ Some y → IsFineType us name y) (declarations us)
        (λ x f unit y e. implements_fine name x.by x.decl f y e) decls (units (declarations us)))) is

    module _ (name : List ℕ) (t : ObjectType) (f : IsFineType us name t) where
      abbrev fields_hidden : List (List ℕ)
      fields_hidden = texts (field_names t.fields)

      pub fields_data : AllByRecursion (λ l. IsOfData us l.type) (field_locals us t.home t.fields)
      fields_data = data_locals t.home fields_hidden ObjectField t.fields f.fields

      fields_open : AllByRecursion (IsOpening us) (field_locals us t.home t.fields)
      fields_open = data_openings t.home fields_hidden ObjectField t.fields f.fields

      pub begin_plain : IsPlain (begin_scope us t)
      begin_plain = record { names = fields_open; result = tt }

      operation_fine : (o : Operation) → operation_breaches us t.home t.fields o ≡ [] → IsOperationBody us t o
      operation_fine o none =
          let own = texts (operation_names o ++ field_names t.fields) in
          let v = operation_view us t.home t.fields o in
          let one = right_none (are_new (operation_names o)) _ none in
          let two = right_none (are_free us t.home (texts (field_names t.fields)) (operation_names o)) _ one in
          let three = right_none (values_breaches v o.head.parameters) _ two in
          let four = right_none (result_breaches v o.head.result) _ three in
          let parameters = values_data t.home own o.head.parameters (left_none (values_breaches v o.head.parameters) _ two) in
          let variables = left_none (variables_breaches (data_found v) o.variables) _ four in
          record {
            scope = record {
              names =
                  all_append (IsOpening us) (map (value_local v) o.head.parameters) (flat_map (locals_of Variable (data_found v)) o.variables ++ field_locals us t.home t.fields)
                  (all_map (IsOpening us) (value_local v) o.head.parameters
                  (all_both (λ p. IsOfData us (type_of (data_found v p.kind))) (λ p. Unit {0}) (λ p. IsOpening us (value_local v p)) o.head.parameters
                  (λ p h unit. opening_of t.home own (value_local v p) (data_good _ h)) parameters (units o.head.parameters)))
                  (all_append (IsOpening us) (flat_map (locals_of Variable (data_found v)) o.variables) (field_locals us t.home t.fields) (data_openings t.home own Variable o.variables variables) fields_open);
              result = result_known t.home own o.head.result (left_none (result_breaches v o.head.result) _ three);
            };
            parameters = all_map (λ l. IsOfData us l.type) (value_local v) o.head.parameters parameters;
            holds = data_locals t.home own Variable o.variables variables;
          }

      pub operations_fine : (i : ℕ) (o : Operation) → slice_get t.operations i ≡ Some o → IsOperationBody us t o
      operations_fine i o at = operation_fine o (all_at (λ x. operation_breaches us t.home t.fields x ≡ []) t.operations i o f.operations at)
