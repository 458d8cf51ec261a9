-- An operation that is called by its specification has an implementation of its number, whose parameters and result are of the same types.
use Rattle.std.proofs.Common.{◌≤◌, ◌<◌, ◌⊎◌, inl, inr, refl, sym, ap, ◌∙◌, subst, arith, leb-true}
use Rattle.std.specs.Prelude.{◌≡◌, ◌&&◌, nat_le, ℕ, zero, suc, Bool, true, false, cond, if◌then◌else◌, bytes_eq, List, [], ◌∷◌, ◌++◌, length, map, flat_map, filter, filter_map, find, position, take, drop, slice_get, unwrap_or, Option, Some, None, option_map, option_and_then}
use Rattle.std.specs.List.{AllByRecursion, Contains, cons_option, list_all, position_or_len}
use Rattle.std.proofs.lemmas.Bool.{lt-ltb, true≢false}
use Rattle.std.proofs.lemmas.List.Folds.{find_at}
use Rattle.std.proofs.lemmas.Option.{get_or_from_slice_get, slice_get-map, slice_get_within}
use Rattle.std.proofs.lemmas.Slice.Eq.{bytes_eq-Decides}
use Rattle.orca_base.specs.declared.limits.TheConstants.{PARAMETERS}
use Rattle.orca_tree.specs.declared.tree.Name.{Name}
use Rattle.orca_syntax.specs.Syntax as syn
use Rattle.orca_syntax.specs.Syntax.{Kind, TypedName, Variables, Head, Operation, Definition, Decl}
use Rattle.link_rules.specs.Declarations.{Declared, declarations, declarations_of}
use Rattle.link_rules.specs.Linked.{IsLinked, may_share}
use Rattle.link_rules.specs.Rules.{is_role}
use Rattle.link_rules.specs.Units.{Source, Defined, defined, defined_by, definitions, module_name, module_of, values_of}
use Rattle.link_rules.specs.declared.role.Role.{Role}
use Rattle.link_rules.specs.declared.role.Role.TheVariants.{Module, Specification, Implementation, Other}
use Rattle.link_rules.proofs.Declaring.{comes_from}
use Rattle.link_rules.proofs.Elements.{cons_cases, from_map}
use Rattle.link_rules.proofs.Truth.{and_first, and_second}
use Rattle.type_rules.specs.declared.breach.Breach.{Breach}
use Rattle.type_rules.specs.declared.signature.Formal.TheVariants.{ByValue}
use Rattle.type_rules.specs.declared.signature.Signature.{Signature}
use Rattle.type_rules.specs.declared.types.DataType.{DataType}
use Rattle.type_rules.specs.Constants.{View}
use Rattle.type_rules.specs.Rules.{agree, are_new, asks}
use Rattle.type_rules.specs.TopLevel as top
use Rattle.type_rules.specs.TopLevel.{What, TopName, name_in, names_in, number_as, role_in, top_at, top_names, unit_names, what_in}
use Rattle.type_rules.specs.Scopes.{Heads, head_view, heads_in, operation_in, operation_of, operation_signature, specification, specification_at, specification_of, texts, type_of, value_local}
use Rattle.type_rules.specs.TypePhrases.{data_found}
use Rattle.type_rules.specs.Declarations.{are_free, field_names, heads_match, heads_of, is_head_of, is_same_head, lacking, lacks, operation_breaches, operation_count, operation_names, operation_view, operations_at, operations_of, operations_of_what, result_breaches, result_of, same_parameters, same_result, specification_breaches, values_breaches}
use Rattle.type_rules.proofs.Alike.{one_type}
use Rattle.value_core.specs.Datum.{Datum, data_of, list_of, list_of-data_of}
use Rattle.value_core.specs.Fits.{Kinds}
use Rattle.meaning_rules.specs.Fitting.{AreFitting, Fits, FitsArgs, FitsOperation, FitsParameters, FitsReply, FitsReplyOf, FitsResult, FitsResultOf}
use Rattle.meaning_rules.specs.Programs.{ObjectType, implementation, implements, is_specification, kind_of, object_type, op_in, op_of, specified}
use Rattle.meaning_rules.specs.Accepted.{AreTaken, IsKnown, IsOfData, IsOperation, TakesValue}
use Rattle.meaning_rules.proofs.Judged.{all_at, asked, left_none, right_none}
use Rattle.meaning_rules.proofs.Orderly.{each_none}
use Rattle.accepted_law.specs.Limits.{has_few_parameters}
use Rattle.accepted_law.proofs.Bodies.{IsFineType, result_known, type_is_fine, values_data}
use Rattle.accepted_law.proofs.Lists.{Place, kept_place, place_left, place_of, place_right, same_some}
use Rattle.accepted_law.proofs.Names.{defined_tops, is_top, number_is}
use Rattle.accepted_law.proofs.Tops.{HasRole, IsFine, IsFineDecl, IsFineTop, role_of, top_roles}

-- ---- lists

pub filtered_place : {X : Type 0} (p : X → Bool) (xs : List X) (i : ℕ) (x : X) → slice_get xs i ≡ Some x → p x ≡ true → slice_get (filter p xs) (length (filter p (take i xs))) ≡ Some x
filtered_place p [] i x at passes = absurd cc
filtered_place p (y ∷ xs) zero x at passes = ap (λ b. slice_get (cond b (y ∷ filter p xs) (filter p xs)) zero) (ap p (same_some y x at) ∙ passes) ∙ at
filtered_place p (y ∷ xs) (suc i) x at passes = by (p y) (filtered_place p xs i x at passes)
  where
    by : (b : Bool) → slice_get (filter p xs) (length (filter p (take i xs))) ≡ Some x →
        slice_get (cond b (y ∷ filter p xs) (filter p xs)) (length (cond b (y ∷ filter p (take i xs)) (filter p (take i xs)))) ≡ Some x
    by true rest = rest
    by false rest = rest

-- the first that is made of some element
pub record IsMade {X Y : Type 0} (h : X → Option Y) (xs : List X) (y : Y) : Type 0 where
  pub from : X
  pub place : Place xs from
  pub made : h from ≡ Some y

pub made_from : {X Y : Type 0} (h : X → Option Y) (xs : List X) (k : ℕ) (y : Y) → slice_get (filter_map h xs) k ≡ Some y → IsMade h xs y
made_from h [] k y at = absurd cc
made_from h (x ∷ xs) k y at = by (h x) refl k at (λ j e. made_from h xs j y e)
  where
    by : (o : Option _) → h x ≡ o → (j : ℕ) → slice_get (cons_option o (filter_map h xs)) j ≡ Some y →
        ((i : ℕ) → slice_get (filter_map h xs) i ≡ Some y → IsMade h xs y) → IsMade h (x ∷ xs) y
    by None is j e rest = let m = rest j e in record { from = m.from; place = (suc m.place.0, m.place.1); made = m.made }
    by (Some z) is zero e rest = record { from = x; place = (zero, refl); made = is ∙ ap (λ w. Some w) (same_some z y e) }
    by (Some z) is (suc j) e rest = let m = rest j e in record { from = m.from; place = (suc m.place.0, m.place.1); made = m.made }

some_made : {X Y : Type 0} (h : X → Option Y) (xs : List X) (x : X) (y : Y) → Place xs x → h x ≡ Some y → (z : Y) × (slice_get (filter_map h xs) 0 ≡ Some z)
some_made h [] x y place is = absurd (let e = place.1 in cc)
some_made h (w ∷ xs) x y (i, at) is = by (h w) refl i at (λ j e. some_made h xs x y (j, e) is)
  where
    by : (o : Option _) → h w ≡ o → (j : ℕ) → slice_get (w ∷ xs) j ≡ Some x → ((k : ℕ) → slice_get xs k ≡ Some x → (z : _) × (slice_get (filter_map h xs) 0 ≡ Some z)) →
        (z : _) × (slice_get (cons_option o (filter_map h xs)) 0 ≡ Some z)
    by (Some z) e j f rest = (z, refl)
    by None e zero f rest = let none : None ≡ Some y = sym e ∙ (ap h (same_some w x f) ∙ is) in absurd cc
    by None e (suc j) f rest = rest j f

within_some : {X : Type 0} (xs : List X) (k : ℕ) → k < length xs → (x : X) × (slice_get xs k ≡ Some x)
within_some [] k less = absurd (omega (arith, less))
within_some (x ∷ xs) zero less = (x, refl)
within_some (x ∷ xs) (suc k) less = within_some xs k (omega (arith, less))

dropped : {X : Type 0} (xs : List X) (k : ℕ) → slice_get (drop 1 xs) k ≡ slice_get xs (suc k)
dropped [] k = refl
dropped (x ∷ xs) k = refl

drop_none : {X : Type 0} (n : ℕ) (xs : List X) → drop n xs ≡ [] → length xs ≤ n
drop_none zero [] is = omega arith
drop_none zero (x ∷ xs) is = absurd cc
drop_none (suc n) [] is = omega arith
drop_none (suc n) (x ∷ xs) is = let rest = drop_none n xs is in omega (arith, rest)

contains_of : {X : Type 0} (xs : List X) (x : X) → Place xs x → Contains xs x
contains_of xs x place = (place.0, slice_get_within xs place.0 x place.1, get_or_from_slice_get xs place.0 x x place.1)

agreed : (a b : Option DataType) → IsKnown a → IsKnown b → agree a b ≡ true → a ≡ b
agreed None b known more is = absurd (let e = known.1 in cc)
agreed (Some t) None known more is = absurd (let e = more.1 in cc)
agreed (Some t) (Some u) known more is = ap (λ x. Some x) ((one_type t u).0 is)

-- ---- declarations and the names of the top level

-- the name that a declaration declares stands at the top level
abbrev first_name : Declared → TopName
first_name x = top_at x.by x.file (role_in x.decl) (name_in x.decl) (what_in x.decl)

unit_place : (m file : List ℕ) (ds : List Decl) (x : Declared) → Place (map (λ d. record { by = m; file = file; decl = d }) ds) x → Place (flat_map (names_in m file) ds) (first_name x)
unit_place m file [] x place = absurd (let e = place.1 in cc)
unit_place m file (d ∷ ds) x (zero, at) =
    let same : record { by = m; file = file; decl = d } ≡ x = same_some _ x at in
    place_left (names_in m file d) (flat_map (names_in m file) ds) (first_name x) (zero, ap (λ y. Some (first_name y)) same)
unit_place m file (d ∷ ds) x (suc k, at) = place_right (names_in m file d) (flat_map (names_in m file) ds) (first_name x) (unit_place m file ds x (k, at))

split_place : {X : Type 0} (xs ys : List X) (k : ℕ) (x : X) → slice_get (xs ++ ys) k ≡ Some x → Place xs x ⊎ Place ys x
split_place [] ys k x at = inr (k, at)
split_place (y ∷ xs) ys zero x at = inl (zero, at)
split_place (y ∷ xs) ys (suc k) x at = further (split_place xs ys k x at)
  where
    further : Place xs x ⊎ Place ys x → Place (y ∷ xs) x ⊎ Place ys x
    further (inl p) = inl (suc p.0, p.1)
    further (inr p) = inr p

top_place : (us : List Source) (x : Declared) → Place (declarations us) x → Place (top_names us) (first_name x)
top_place [] x place = absurd (let e = place.1 in cc)
top_place (u ∷ us) x place =
    by (split_place (declarations_of u) (declarations us) place.0 x place.1) (λ p. top_place us x p)
  where
    by : Place (declarations_of u) x ⊎ Place (declarations us) x → (Place (declarations us) x → Place (top_names us) (first_name x)) → Place (unit_names u ++ top_names us) (first_name x)
    by (inl p) rest = place_left (unit_names u) (top_names us) (first_name x) (unit_place (module_name u) u.file u.syntax.declarations x p)
    by (inr p) rest = place_right (unit_names u) (top_names us) (first_name x) (rest p)

-- an implementation that is defined is declared
record IsImplementation (us : List Source) (name : List ℕ) : Type 0 where
  from : Declared
  place : Place (declarations us) from
  type : ObjectType
  made : implements name from.by from.decl ≡ Some type

-- what makes an object type of a name is its implementation
record IsMadeOf (x : Declared) (name : List ℕ) (t : ObjectType) : Type 0 where
  role : role_in x.decl ≡ Implementation
  named : (name_in x.decl).text ≡ name
  what : what_in x.decl ≡ top.Implemented t.operations
  home : x.by ≡ t.home

made_of : (m file name : List ℕ) (d : Decl) (t : ObjectType) → implements name m d ≡ Some t → IsMadeOf (record { by = m; file = file; decl = d }) name t
made_of m file name (syn.Implementation at n fields os opening) t is = by (bytes_eq n.text name) refl is
  where
    own : ObjectType
    own = record { home = m; fields = fields; operations = os; begins = opening }

    by : (b : Bool) → bytes_eq n.text name ≡ b → (if b then Some own else None) ≡ Some t → IsMadeOf (record { by = m; file = file; decl = syn.Implementation at n fields os opening }) name t
    by true same e =
        let one : own ≡ t = same_some own t e in
        record { role = refl; named = (bytes_eq-Decides n.text name).0 same; what = ap (λ y. top.Implemented y.operations) one; home = ap (λ y. y.home) one }
    by false same e = absurd cc
made_of m file name (syn.Constant at n value) t is = absurd cc
made_of m file name (syn.Declares at n of) t is = absurd cc
made_of m file name (syn.Specification at n heads) t is = absurd cc
made_of m file name (syn.Function at n ps r b) t is = absurd cc
made_of m file name (syn.Process at n ps b) t is = absurd cc

module _ (us : List Source) (linked : IsLinked us) (fine : AllByRecursion (IsFineTop us) (top_names us)) (decls : AllByRecursion (λ x. IsFineDecl us x.by x.decl) (declarations us))
    (few : list_all (λ t. has_few_parameters t.what) (top_names us) ≡ true) where
  -- ---- each specification has its implementation

  implemented_by : (name : List ℕ) (x : Declared) → Place (declarations us) x → (d : Defined) → Contains (defined_by x.by x.file x.decl) d → d.role ≡ Implementation → d.name.text ≡ name → IsImplementation us name
  implemented_by name x place d in_ role named = by x.decl refl in_
    where
      m : List ℕ
      m = x.by

      alone : (e : Defined) → Contains (e ∷ []) d → e ≡ d
      alone e c = one (cons_cases e [] d c)
        where
          one : (e ≡ d) ⊎ Contains [] d → e ≡ d
          one (inl f) = f
          one (inr f) = let l = f.1 in absurd (omega (arith, l))

      other : (r : Role) → r ≡ Implementation → is_role Implementation r ≡ true
      other r e = ap (is_role Implementation) e

      breaks : (e : Defined) → e ≡ d → is_role Implementation e.role ≡ false → IsImplementation us name
      breaks e same none = absurd (true≢false (sym (other d.role role) ∙ (ap (λ y. is_role Implementation y.role) (sym same) ∙ none)))

      values : (ns : List Name) → Contains (map (defined m x.file Other) ns) d → IsImplementation us name
      values ns c = let v = from_map (defined m x.file Other) ns d c in breaks (defined m x.file Other v.0) v.2 refl

      by : (y : Decl) → x.decl ≡ y → Contains (defined_by m x.file y) d → IsImplementation us name
      by (syn.Implementation at n fields os opening) is c =
          let same = alone (defined m x.file Implementation n) c in
          let text : n.text ≡ name = ap (λ e. e.name.text) same ∙ named in
          record {
            from = x;
            place = place;
            type = record { home = m; fields = fields; operations = os; begins = opening };
            made = ap (implements name m) is ∙ ap (λ b. if b then Some (record { home = m; fields = fields; operations = os; begins = opening }) else None) ((bytes_eq-Decides n.text name).1 text);
          }
      by (syn.Constant at n value) is c = breaks _ (alone _ c) refl
      by (syn.Specification at n heads) is c = breaks _ (alone _ c) refl
      by (syn.Function at n ps r b) is c = breaks _ (alone _ c) refl
      by (syn.Process at n ps b) is c = breaks _ (alone _ c) refl
      by (syn.Declares at n of) is c = either (cons_cases (defined m x.file Other n) (map (defined m x.file Other) (values_of of)) d c)
        where
          either : (defined m x.file Other n ≡ d) ⊎ Contains (map (defined m x.file Other) (values_of of)) d → IsImplementation us name
          either (inl e) = breaks (defined m x.file Other n) e refl
          either (inr e) = values (values_of of) e

  has_implementation : (i : ℕ) (t : TopName) → slice_get (top_names us) i ≡ Some t → t.defined.role ≡ Specification → IsImplementation us t.defined.name.text
  has_implementation i t at role =
      let mapped : slice_get (map (λ y. y.defined) (top_names us)) i ≡ Some t.defined = slice_get-map (λ y. y.defined) (top_names us) i ∙ ap (option_map (λ y. y.defined)) at in
      let kept = kept_place is_top (definitions us) i t.defined (ap (λ ds. slice_get ds i) (sym (defined_tops us)) ∙ mapped) in
      let d = linked.implemented t.defined.name.text (t.defined, contains_of (definitions us) t.defined kept.0, role, refl) in
      by d.0 d.2 d.3 ((comes_from us d.0).0 d.1)
    where
      by : (d : Defined) → d.role ≡ Implementation → d.name.text ≡ t.defined.name.text →
          ((u : Source) × Contains us u × (d ≡ defined (module_name u) u.file Module (module_of u.syntax))) ⊎ ((x : Declared) × Contains (declarations us) x × Contains (defined_by x.by x.file x.decl) d) →
          IsImplementation us t.defined.name.text
      by d is named (inl u) = absurd (true≢false (sym (ap (is_role Implementation) is) ∙ ap (λ e. is_role Implementation e.role) u.2))
      by d is named (inr x) = implemented_by t.defined.name.text x.0 (place_of (declarations us) x.0 x.1) d x.2 is named

  -- ---- a specification, its object type, and how many operations it has

  record IsSpecified (i : ℕ) (t : TopName) (hs : List Head) : Type 0 where
    type : ObjectType
    object : object_type us (kind_of us i) ≡ Some type
    fine_type : IsFineType us t.defined.name.text type
    match : heads_match us type.home type.fields t.defined.by hs type.operations ≡ []
    many : length hs ≤ length type.operations

  module _ (i : ℕ) (t : TopName) (hs : List Head) (at : slice_get (top_names us) i ≡ Some t) (what : t.what ≡ top.Specified hs) where
    abbrev name : List ℕ
    name = t.defined.name.text

    role : t.defined.role ≡ Specification
    role = all_at HasRole (top_names us) i t (top_roles us) at ∙ ap role_of what

    none : specification_breaches us t.defined.by t.defined.name hs ≡ []
    none = (subst (IsFine us t.defined.by t.defined.name) what (all_at (IsFineTop us) (top_names us) i t fine at)).1

    abbrev heads : Heads
    heads = record { home = t.defined.by; heads = hs }

    specification_is : specification_at us (Some i) ≡ Some heads
    specification_is = ap specification_of at ∙ ap (heads_in t) what

    pub named_is : specification us t.defined.name.text ≡ Some (record { home = t.defined.by; heads = hs })
    named_is =
        ap (specification_at us) (ap (λ r. number_as us r name) (sym role) ∙ number_is us linked i t at (ap (λ r. may_share r r) role)) ∙ specification_is

    object_is : (T : ObjectType) → implementation us name ≡ Some T → object_type us (kind_of us i) ≡ Some T
    object_is T is = ap (option_and_then (specified us)) (filtered_place is_specification (top_names us) i t at (ap (is_role Specification) role)) ∙ is

    -- the same implementation by the names of the top level
    counted : (T : ObjectType) → implementation us name ≡ Some T → operation_count us name ≡ Some (length T.operations)
    counted T is =
        let m = made_from (λ x. implements name x.by x.decl) (declarations us) 0 T is in
        let of = made_of m.from.by m.from.file name m.from.decl T m.made in
        let place = top_place us m.from m.place in
        let x = first_name m.from in
        let number : number_as us x.defined.role x.defined.name.text ≡ Some place.0 = number_is us linked place.0 x place.1 (ap (λ r. may_share r r) of.role) in
        let mine : number_as us Implementation name ≡ Some place.0 = ap (λ r. number_as us r name) (sym of.role) ∙ (ap (number_as us x.defined.role) (sym of.named) ∙ number) in
        ap (operations_at us) mine ∙ (ap operations_of place.1 ∙ ap operations_of_what of.what)

    is_specified : IsSpecified i t hs
    is_specified =
        let x = has_implementation i t at role in
        let T = some_made (λ y. implements name y.by y.decl) (declarations us) x.from x.type x.place x.made in
        let f = type_is_fine us linked fine decls name T.0 T.1 in
        let one = right_none (are_new (map (λ h. h.name) hs)) _ none in
        let two = right_none (flat_map (λ h. are_free us t.defined.by [] (map (λ p. p.name) h.parameters)) hs) _ one in
        let three = right_none (flat_map (λ h. values_breaches (head_view us t.defined.by h) h.parameters ++ result_breaches (head_view us t.defined.by h) h.result) hs) (lacking hs (operation_count us name)) two in
        let lacks_none : lacking hs (Some (length T.0.operations)) ≡ [] = subst (λ o. lacking hs o ≡ []) (counted T.0 T.1) three in
        record {
          type = T.0;
          object = object_is T.0 T.1;
          fine_type = f;
          match = subst (λ o. heads_of o T.0.operations (heads_match us T.0.home T.0.fields) ≡ []) named_is f.heads;
          many = drop_none (length T.0.operations) hs (no_lack (drop (length T.0.operations) hs) lacks_none);
        }
      where
        no_lack : (gs : List Head) → lacks gs ≡ [] → gs ≡ []
        no_lack [] e = refl
        no_lack (g ∷ gs) e = absurd cc

    heads_none : (k : ℕ) (h : Head) → slice_get hs k ≡ Some h →
        (values_breaches (head_view us t.defined.by h) h.parameters ≡ []) × (result_breaches (head_view us t.defined.by h) h.result ≡ [])
    heads_none k h is =
        let one = right_none (are_new (map (λ g. g.name) hs)) _ none in
        let two = right_none (flat_map (λ g. are_free us t.defined.by [] (map (λ p. p.name) g.parameters)) hs) _ one in
        let f : Head → List Breach = λ g. values_breaches (head_view us t.defined.by g) g.parameters ++ result_breaches (head_view us t.defined.by g) g.result in
        let all = left_none (flat_map f hs) _ two in
        let own = all_at (λ g. f g ≡ []) hs k h (each_none f hs all) is in
        (left_none (values_breaches (head_view us t.defined.by h) h.parameters) _ own, right_none (values_breaches (head_view us t.defined.by h) h.parameters) _ own)

    few_of_head : (k : ℕ) (h : Head) → slice_get hs k ≡ Some h → length h.parameters ≤ PARAMETERS
    few_of_head k h is =
        leb-true (length h.parameters) PARAMETERS
        (every (λ g. nat_le (length g.parameters) PARAMETERS) hs k h is (ap has_few_parameters (sym what) ∙ every (λ x. has_few_parameters x.what) (top_names us) i t at few))
      where
        every : {X : Type 0} (p : X → Bool) (xs : List X) (k : ℕ) (x : X) → slice_get xs k ≡ Some x → list_all p xs ≡ true → p x ≡ true
        every p [] k x e all = absurd cc
        every p (y ∷ ys) zero x e all = ap p (sym (same_some y x e)) ∙ and_first (p y) (list_all p ys) all
        every p (y ∷ ys) (suc k) x e all = every p ys k x e (and_second (p y) (list_all p ys) all)

    -- ---- heads that match

    matched : (m : List ℕ) (fields : List Variables) (gs : List Head) (os : List Operation) → heads_match us m fields t.defined.by gs os ≡ [] → (k : ℕ) (o : Operation) (h : Head) →
        slice_get os k ≡ Some o → slice_get gs k ≡ Some h → is_same_head (operation_view us m fields o) (head_view us t.defined.by h) o.head h ≡ true
    matched m fields gs [] clean k o h e f = absurd cc
    matched m fields gs (x ∷ os) clean zero o h e f =
        let first = is_head_of us (operation_view us m fields x) t.defined.by x.head (slice_get gs 0) in
        let same : x ≡ o = same_some x o e in
        let holds = asked 12 x.head.at first (left_none (asks 12 x.head.at first) _ clean) in
        ap (λ y. is_same_head (operation_view us m fields y) (head_view us t.defined.by h) y.head h) (sym same)
        ∙ (ap (is_head_of us (operation_view us m fields x) t.defined.by x.head) (sym f) ∙ holds)
    matched m fields gs (x ∷ os) clean (suc k) o h e f =
        matched m fields (drop 1 gs) os (right_none (asks 12 x.head.at (is_head_of us (operation_view us m fields x) t.defined.by x.head (slice_get gs 0))) _ clean) k o h e (dropped gs k ∙ f)

    found_operation : (s : IsSpecified i t hs) (k : ℕ) (h : Head) → slice_get hs k ≡ Some h → (o : Operation) × (slice_get s.type.operations k ≡ Some o)
    found_operation s k h is = let l = slice_get_within hs k h is in let m = s.many in within_some s.type.operations k (omega (arith, l, m))

    module _ (s : IsSpecified i t hs) (k : ℕ) (h : Head) (is : slice_get hs k ≡ Some h) (o : Operation) (own : slice_get s.type.operations k ≡ Some o) where
      abbrev v : View
      v = operation_view us s.type.home s.type.fields o

      abbrev w : View
      w = head_view us t.defined.by h

      own_none : operation_breaches us s.type.home s.type.fields o ≡ []
      own_none = all_at (λ x. operation_breaches us s.type.home s.type.fields x ≡ []) s.type.operations k o s.fine_type.operations own

      own_values : values_breaches v o.head.parameters ≡ []
      own_values =
          left_none (values_breaches v o.head.parameters) _
          (right_none (are_free us s.type.home (texts (field_names s.type.fields)) (operation_names o)) _ (right_none (are_new (operation_names o)) _ own_none))

      own_result : result_breaches v o.head.result ≡ []
      own_result =
          left_none (result_breaches v o.head.result) _
          (right_none (values_breaches v o.head.parameters) _
          (right_none (are_free us s.type.home (texts (field_names s.type.fields)) (operation_names o)) _ (right_none (are_new (operation_names o)) _ own_none)))

      same_head : is_same_head v w o.head h ≡ true
      same_head = matched s.type.home s.type.fields hs s.type.operations s.match k o h own is

      same_rest : (same_parameters v w o.head.parameters h.parameters && same_result v w o.head.result h.result) ≡ true
      same_rest = and_second (bytes_eq o.head.name.text h.name.text) (same_parameters v w o.head.parameters h.parameters && same_result v w o.head.result h.result) same_head

      own_data : AllByRecursion (λ p. IsOfData us (type_of (data_found v p.kind))) o.head.parameters
      own_data = values_data us linked fine s.type.home (texts (operation_names o ++ field_names s.type.fields)) o.head.parameters own_values

      head_data : AllByRecursion (λ p. IsOfData us (type_of (data_found w p.kind))) h.parameters
      head_data = values_data us linked fine t.defined.by (texts (map (λ p. p.name) h.parameters)) h.parameters (heads_none k h is).0

      fitting : (kinds : Kinds) (ps qs : List TypedName) (xs : List Datum) → AllByRecursion (λ p. IsOfData us (type_of (data_found v p.kind))) ps →
          AllByRecursion (λ p. IsOfData us (type_of (data_found w p.kind))) qs → same_parameters v w ps qs ≡ true → AreTaken us kinds xs (map (λ p. ByValue (type_of (data_found w p.kind))) qs) →
          AreFitting us kinds xs (map (value_local v) ps) × (length xs ≡ length qs)
      fitting kinds [] [] [] mine his same taken = (tt, refl)
      fitting kinds [] [] (x ∷ xs) mine his same taken = absurd taken
      fitting kinds [] (q ∷ qs) xs mine his same taken = absurd (true≢false (sym same))
      fitting kinds (p ∷ ps) [] xs mine his same taken = absurd (true≢false (sym same))
      fitting kinds (p ∷ ps) (q ∷ qs) [] mine his same taken = absurd taken
      fitting kinds (p ∷ ps) (q ∷ qs) (x ∷ xs) mine his same taken =
          let a = type_of (data_found v p.kind) in
          let b = type_of (data_found w q.kind) in
          let more = and_second (bytes_eq p.name.text q.name.text) (agree a b && same_parameters v w ps qs) same in
          let one : a ≡ b = agreed a b (mine.0.0, mine.0.1) (his.0.0, his.0.1) (and_first (agree a b) (same_parameters v w ps qs) more) in
          let rest = fitting kinds ps qs xs mine.1 his.1 (and_second (agree a b) (same_parameters v w ps qs) more) taken.1 in
          ((subst (λ y. Fits us kinds x y) (sym one) taken.0, rest.0), ap suc rest.1)

      results : (r q : Option Kind) → same_result v w r q ≡ true → result_breaches v r ≡ [] → result_breaches w q ≡ [] → result_of v r ≡ option_map (λ x. type_of (data_found w x)) q
      results None None same mine his = refl
      results None (Some y) same mine his = absurd (true≢false (sym same))
      results (Some x) None same mine his = absurd (true≢false (sym same))
      results (Some x) (Some y) same mine his =
          let a = result_known us linked fine s.type.home (texts (operation_names o ++ field_names s.type.fields)) (Some x) mine in
          let b = result_known us linked fine t.defined.by (texts (map (λ p. p.name) h.parameters)) (Some y) his in
          ap (λ z. Some z) (agreed (type_of (data_found v x)) (type_of (data_found w y)) (a.0, a.1) (b.0, b.1) same)

      takes_all : (ps : List TypedName) → AllByRecursion (λ p. IsOfData us (type_of (data_found w p.kind))) ps → AllByRecursion TakesValue (map (λ p. ByValue (type_of (data_found w p.kind))) ps)
      takes_all [] all = tt
      takes_all (p ∷ ps) all = ((all.0.0, all.0.1), takes_all ps all.1)

      operation_is : (n : List ℕ) → op_of us i n ≡ record { 0 = k } → IsOperation us i n (operation_signature us t.defined.by h)
      operation_is n number =
          record {
            formals = takes_all h.parameters head_data;
            args = λ kinds xs taken small.
                let f = fitting kinds o.head.parameters h.parameters xs own_data head_data (and_first (same_parameters v w o.head.parameters h.parameters) (same_result v w o.head.result h.result) same_rest) taken in
                let same = list_of-data_of xs in
                let limit = few_of_head k h is in
                let count : length (list_of (data_of xs)) ≤ PARAMETERS = let e = ap (λ ys. length ys) same in let g = f.1 in omega (arith, e, g, limit) in
                let fits : FitsParameters us kinds s.type (data_of xs) (Some o) = (subst (λ ys. AreFitting us kinds ys (map (value_local v) o.head.parameters)) (sym same) f.0, small, count) in
                subst (λ op. FitsArgs us kinds (kind_of us i) op (data_of xs)) (sym number)
                (subst (FitsOperation us kinds (record { 0 = k }) (data_of xs)) (sym s.object) (subst (FitsParameters us kinds s.type (data_of xs)) (sym own) fits));
            reply = λ answer fits.
                let at_number : FitsReply us (kind_of us i) (record { 0 = k }) answer = subst (λ op. FitsReply us (kind_of us i) op answer) number fits in
                let of_type : FitsReplyOf us (record { 0 = k }) answer (Some s.type) = subst (FitsReplyOf us (record { 0 = k }) answer) s.object at_number in
                let of_operation : FitsResultOf us s.type answer (Some o) = subst (FitsResultOf us s.type answer) own of_type in
                subst (λ r. FitsResult us r answer)
                (results o.head.result h.result (and_second (same_parameters v w o.head.parameters h.parameters) (same_result v w o.head.result h.result) same_rest) own_result (heads_none k h is).1)
                of_operation;
          }

    -- ---- an operation by its name

    by_name : (n : List ℕ) (s : Signature) → operation_in us n (Some heads) ≡ Some s → IsOperation us i n s
    by_name n s is = go (find p hs) refl is
      where
        p : Head → Bool
        p h = bytes_eq h.name.text n

        go : (f : Option Head) → find p hs ≡ f → option_map (operation_signature us t.defined.by) f ≡ Some s → IsOperation us i n s
        go None e g = absurd cc
        go (Some h) e g =
            let k : ℕ = position_or_len p hs in
            let there : slice_get hs k ≡ Some h = sym (find_at p hs) ∙ e in
            let first : position p hs ≡ Some k = ap (λ b. cond b (Some k) None) (lt-ltb k (length hs) (slice_get_within hs k h there)) in
            let number : op_of us i n ≡ record { 0 = k } = ap (λ x. record { 0 = unwrap_or (option_and_then (op_in n) x) 0 }) specification_is ∙ ap (λ x. record { 0 = unwrap_or x 0 }) first in
            subst (IsOperation us i n) (same_some (operation_signature us t.defined.by h) s g) (let o = found_operation is_specified k h there in operation_is is_specified k h there o.0 o.1 n number)

  pub all_operations : (i : ℕ) (n : List ℕ) (s : Signature) → operation_of us i n ≡ Some s → IsOperation us i n s
  all_operations i n s is = by (slice_get (top_names us) i) refl is
    where
      what : (t : TopName) → slice_get (top_names us) i ≡ Some t → (w : What) → t.what ≡ w → operation_in us n (heads_in t w) ≡ Some s → IsOperation us i n s
      what t at (top.Specified hs) e f = by_name i t hs at e n s f
      what t at (top.Constant b) e f = absurd cc
      what t at (top.TypeName of) e f = absurd cc
      what t at (top.Value of number) e f = absurd cc
      what t at (top.Implemented os) e f = absurd cc
      what t at (top.Function ps r b) e f = absurd cc
      what t at (top.Process ps b) e f = absurd cc

      by : (o : Option TopName) → slice_get (top_names us) i ≡ o → operation_in us n (specification_of o) ≡ Some s → IsOperation us i n s
      by None e f = absurd cc
      by (Some t) e f = what t e t.what refl f
