-- What a type phrase without a breach is: a type, and where that is no object type, one of data.
use Rattle.std.proofs.Common.{◌≤◌, ◌<◌, ◌+◌, refl, sym, ap, ◌∙◌, subst, arith, leb-true}
use Rattle.std.specs.Prelude.{◌≡◌, ◌≢◌, not, nat_le, ℕ, ℤ, max, Bool, true, false, if◌then◌else◌, List, [], ◌∷◌, ◌++◌, length, map, flat_map, Option, Some, option_map}
use Rattle.std.specs.List.{AllByRecursion}
use Rattle.std.specs.Option.{option_map_or}
use Rattle.orca_base.specs.declared.limits.TheConstants.{VALUE_NESTING, VALUE_SIZE}
use Rattle.orca_base.specs.declared.place.Place.{Place}
use Rattle.orca_tree.specs.declared.tree.Bound.{Bound}
use Rattle.orca_tree.specs.declared.tree.Name.{Name}
use Rattle.orca_syntax.specs.Places.{bound_place, kind_place}
use Rattle.orca_syntax.specs.Sound.{IsSoundDefinition}
use Rattle.orca_syntax.specs.Syntax as syn
use Rattle.orca_syntax.specs.Syntax.{Kind, TypedName, Definition}
use Rattle.link_rules.specs.Linked.{IsLinked}
use Rattle.link_rules.specs.Units.{Source}
use Rattle.type_rules.specs.declared.breach.Breach.{Breach}
use Rattle.type_rules.specs.declared.names.Predeclared.{Predeclared}
use Rattle.type_rules.specs.declared.names.Predeclared.TheVariants as predeclared
use Rattle.type_rules.specs.declared.types.Base.TheVariants as base
use Rattle.type_rules.specs.declared.types.DataType.{DataType}
use Rattle.type_rules.specs.declared.types.Measured.{Measured}
use Rattle.type_rules.specs.Types as types
use Rattle.type_rules.specs.Types.{is_object, plain}
use Rattle.type_rules.specs.TopLevel as top
use Rattle.type_rules.specs.TopLevel.{What, TopName, StandsFor, stands_for, top_names}
use Rattle.type_rules.specs.Rules.{Found, are_new, asks, fits, unless}
use Rattle.type_rules.specs.Constants.{View, Sense, OfBody, OfAll, bound, sense}
use Rattle.type_rules.specs.Scopes.{type_of}
use Rattle.type_rules.specs.TypePhrases.{array_found, array_of, array_phrase, at_most, bag_of, data_found, data_phrase, declared_number, declared_type, definition, distinct_fields, gathering_phrase, graph_of, graph_phrase, is_graph_bound, is_number_one, is_small, kind_found, names_of, names_within, named_type, of_data, phrase, predeclared_type, ranged_phrase, record_of, set_of, single, top_type, whole_module, with_field, within_limits}
use Rattle.meaning_rules.specs.Openings.{field_types, fields_of_what, types_in}
use Rattle.meaning_rules.specs.Statements as named
use Rattle.meaning_rules.specs.Statements.{names_at}
use Rattle.meaning_rules.specs.Accepted.{IsOfData}
use Rattle.meaning_rules.proofs.Judged.{asked, both_left, both_right, left_none, not_true, right_none, unless_is, unless_none}
use Rattle.accepted_law.proofs.Bounds.{bound_known, sense_top}
use Rattle.accepted_law.proofs.Declared.{IsType, declared_is, fine_at, no_breach_in, part_is_type, types_hold}
use Rattle.accepted_law.proofs.Measures.{AreFields, IsMeasured, array_measured, bag_measured, graph_measured, is_data, more_fields, no_fields, record_measured, set_measured, single_measured}
use Rattle.accepted_law.proofs.Phrases.{all_left, all_right, number_in}
use Rattle.accepted_law.proofs.Tops.{IsFineTop}

module _ (us : List Source) (linked : IsLinked us) (fine : AllByRecursion (IsFineTop us) (top_names us)) where
  abbrev D : ℕ → Option Measured
  D = declared_type us

  -- what was found is a type of data; or a type, and of data where that is no object type
  abbrev pub IsDataFound : Found Measured → Type 0
  IsDataFound f = (m : Measured) × (f.is ≡ Some m) × IsMeasured us m

  abbrev pub IsTypeFound : Found Measured → Type 0
  IsTypeFound f = (m : Measured) × (f.is ≡ Some m) × (is_object m.kind ≡ false → IsMeasured us m)

  abbrev Entry : ℕ → Type 0
  Entry j = (m : Measured) × (D j ≡ Some m) × IsMeasured us m

  -- ---- types without parts

  integer_measured : IsMeasured us (single base.Integer)
  integer_measured = single_measured us base.Integer (λ P G h. h) refl (λ kinds k le. (tt, record { sfits = omega arith })) (λ k le. refl)

  boolean_measured : IsMeasured us (single base.Boolean)
  boolean_measured = single_measured us base.Boolean (λ P G h. h) refl (λ kinds k le. tt) (λ k le. refl)

  character_measured : IsMeasured us (single base.Character)
  character_measured = single_measured us base.Character (λ P G h. h) refl (λ kinds k le. (tt, omega arith)) (λ k le. refl)

  string_measured : IsMeasured us (single base.String)
  string_measured = single_measured us base.String (λ P G h. h) refl (λ kinds k le. (tt, λ i d less. absurd (omega (arith, less)))) (λ k le. refl)

  node_name_measured : IsMeasured us (single base.NodeName)
  node_name_measured = single_measured us base.NodeName (λ P G h. h) refl (λ kinds k le. (tt, record { sfits = omega arith })) (λ k le. refl)

  -- ---- names

  what_found : (n : Name) (i : ℕ) (w : What) → ((of : Definition) → w ≡ top.TypeName of → Entry i) → (top_type D n i w).breaches ≡ [] → IsTypeFound (top_type D n i w)
  what_found n i (top.TypeName of) entry none = let e = entry of refl in (e.0, e.1, λ simple. e.2)
  what_found n i (top.Specified hs) entry none = (single (base.Object i), refl, λ simple. absurd cc)
  what_found n i (top.Implemented os) entry none = (single (base.Object i), refl, λ simple. absurd cc)
  what_found n i (top.Constant b) entry none = absurd cc
  what_found n i (top.Value of number) entry none = absurd cc
  what_found n i (top.Function ps r b) entry none = absurd cc
  what_found n i (top.Process ps b) entry none = absurd cc

  predeclared_found : (n : Name) (p : Predeclared) → (predeclared_type n p).breaches ≡ [] → IsTypeFound (predeclared_type n p)
  predeclared_found n predeclared.NodeNameType none = (single base.NodeName, refl, λ simple. node_name_measured)
  predeclared_found n predeclared.GraphBound none = absurd cc
  predeclared_found n predeclared.Nil none = absurd cc
  predeclared_found n predeclared.AddNode none = absurd cc
  predeclared_found n predeclared.DeleteNode none = absurd cc

  -- ---- limits

  small : (m : Measured) → is_small m ≡ true → (m.size ≤ VALUE_SIZE) × (m.nesting ≤ VALUE_NESTING)
  small m is = (
    leb-true m.size VALUE_SIZE (both_left (nat_le m.size VALUE_SIZE) (nat_le m.nesting VALUE_NESTING) is),
    leb-true m.nesting VALUE_NESTING (both_right (nat_le m.size VALUE_SIZE) (nat_le m.nesting VALUE_NESTING) is),
  )

  is_of : {X : Type 0} (bs : List Breach) (x : Option X) → (unless bs x).breaches ≡ [] → (unless bs x).is ≡ x
  is_of bs x none = ap (λ f. f.is) (unless_is bs x (unless_none bs x none))

  within : (at : Place) (f : Found Measured) → (within_limits at f).breaches ≡ [] → (m : Measured) → f.is ≡ Some m → (m.size ≤ VALUE_SIZE) × (m.nesting ≤ VALUE_NESTING)
  within at f none m is =
      let test = asks 10 at (fits is_small f.is) in
      let holds = asked 10 at (fits is_small f.is) (right_none f.breaches test (unless_none (f.breaches ++ test) f.is none)) in
      small m (ap (fits is_small) (sym is) ∙ holds)

  within_found : (at : Place) (f : Found Measured) → (within_limits at f).breaches ≡ [] →
      (f.breaches ≡ [] → (m : Measured) × (f.is ≡ Some m) × ((m.size ≤ VALUE_SIZE) → (m.nesting ≤ VALUE_NESTING) → IsMeasured us m)) → IsDataFound (within_limits at f)
  within_found at f none known =
      let test = asks 10 at (fits is_small f.is) in
      let k = known (left_none f.breaches test (unless_none (f.breaches ++ test) f.is none)) in
      let limits = within at f none k.0 k.1 in
      (k.0, is_of (f.breaches ++ test) f.is none ∙ k.1, k.2 limits.0 limits.1)

  as_data : (at : Place) (f : Found Measured) → (of_data at f).breaches ≡ [] → (f.breaches ≡ [] → IsTypeFound f) → IsDataFound (of_data at f)
  as_data at f none known =
      let test = asks 6 at (fits (λ m. not (is_object m.kind)) f.is) in
      let all = unless_none (f.breaches ++ test) f.is none in
      let k = known (left_none f.breaches test all) in
      let holds = asked 6 at (fits (λ m. not (is_object m.kind)) f.is) (right_none f.breaches test all) in
      (k.0, is_of (f.breaches ++ test) f.is none ∙ k.1, k.2 (not_true (is_object k.0.kind) (ap (fits (λ m. not (is_object m.kind))) (sym k.1) ∙ holds)))

  array_is : (low high : Option ℤ) (element : Option Measured) (l h : ℤ) (m : Measured) → low ≡ Some l → high ≡ Some h → element ≡ Some m → array_found low high element ≡ Some (array_of l h m)
  array_is low high element l h m e f g =
      ap (λ o. array_found o high element) e ∙ (ap (λ o. array_found (Some l) o element) f ∙ ap (array_found (Some l) (Some h)) g)

  -- a type, where its size and nesting are within the limits
  abbrev Limited : Found Measured → Type 0
  Limited f = (m : Measured) × (f.is ≡ Some m) × ((m.size ≤ VALUE_SIZE) → (m.nesting ≤ VALUE_NESTING) → IsMeasured us m)

  module _ (home : List ℕ) (hidden : List (List ℕ)) where
    abbrev Here : View
    Here = record { program = us; home = home; names = hidden }

    abbrev IsThere : Name → Type 0
    IsThere n = (j : ℕ) → number_in (sense Here n) ≡ Some j → Entry j

    sense_found : (n : Name) (s : Sense) → sense Here n ≡ s → IsThere n → (named_type D n s).breaches ≡ [] → IsTypeFound (named_type D n s)
    sense_found n OfBody is there none = absurd cc
    sense_found n (OfAll top.Nothing) is there none = absurd cc
    sense_found n (OfAll (top.Top i t)) is there none =
        what_found n i t.what (λ of e. there i (ap number_in is ∙ ap (λ w. type_number_of w i) e)) none
      where
        type_number_of : What → ℕ → Option ℕ
        type_number_of w j = number_in (OfAll (top.Top j (record { defined = t.defined; what = w })))
    sense_found n (OfAll (top.Everywhere p)) is there none = predeclared_found n p none

    bounded_found : (low high : Bound) (element : Found Measured) → (array_phrase Here low high element).breaches ≡ [] → (element.breaches ≡ [] → IsDataFound element) →
        Limited (array_phrase Here low high element)
    bounded_found low high element none known = by (is_graph_bound Here high) none
      where
        first : Found ℤ
        first = bound Here low

        last : Found ℤ
        last = bound Here high

        graphs : (graph_phrase low first element).breaches ≡ [] → Limited (graph_phrase low first element)
        graphs clean =
            let all = unless_none (first.breaches ++ (asks 9 (bound_place low) (is_number_one low) ++ element.breaches)) (option_map graph_of element.is) clean in
            let m = known (right_none (asks 9 (bound_place low) (is_number_one low)) element.breaches (right_none first.breaches _ all)) in
            (graph_of m.0, is_of _ (option_map graph_of element.is) clean ∙ ap (option_map graph_of) m.1, λ few flat. graph_measured us m.0 m.2 flat)

        ranged : (ranged_phrase low first last element).breaches ≡ [] → Limited (ranged_phrase low first last element)
        ranged clean =
            let test = asks 9 (bound_place low) (at_most first.is last.is) in
            let all = unless_none (first.breaches ++ (last.breaches ++ (test ++ element.breaches))) (array_found first.is last.is element.is) clean in
            let behind = right_none first.breaches _ all in
            let m = known (right_none test element.breaches (right_none last.breaches _ behind)) in
            let l = bound_known us fine home hidden low (left_none first.breaches _ all) in
            let h = bound_known us fine home hidden high (left_none last.breaches _ behind) in (
              array_of l.0 h.0 m.0,
              is_of _ (array_found first.is last.is element.is) clean ∙ array_is first.is last.is element.is l.0 h.0 m.0 l.1 h.1 m.1,
              λ few flat. array_measured us m.0 m.2 l.0 h.0 few flat,
            )

        by : (b : Bool) → (if b then graph_phrase low first element else ranged_phrase low first last element).breaches ≡ [] →
            Limited (if b then graph_phrase low first element else ranged_phrase low first last element)
        by true clean = graphs clean
        by false clean = ranged clean

    gathered : (of : Measured → Measured) (element : Found Measured) → (gathering_phrase of element).breaches ≡ [] → (element.breaches ≡ [] → IsDataFound element) →
        ((m : Measured) → IsMeasured us m → (of m).size ≤ VALUE_SIZE → (of m).nesting ≤ VALUE_NESTING → IsMeasured us (of m)) → Limited (gathering_phrase of element)
    gathered of element none known makes =
        let m = known (unless_none element.breaches (option_map of element.is) none) in
        (of m.0, is_of element.breaches (option_map of element.is) none ∙ ap (option_map of) m.1, makes m.0 m.2)

    as_type : (f : Found Measured) → IsDataFound f → IsTypeFound f
    as_type f h = (h.0, h.1, λ simple. h.2)

    pub phrase_found : (k : Kind) → AllByRecursion IsThere (names_of k) → (phrase D Here k).breaches ≡ [] → IsTypeFound (phrase D Here k)
    phrase_found (syn.Integer at) there none = (single base.Integer, refl, λ simple. integer_measured)
    phrase_found (syn.Boolean at) there none = (single base.Boolean, refl, λ simple. boolean_measured)
    phrase_found (syn.Character at) there none = (single base.Character, refl, λ simple. character_measured)
    phrase_found (syn.String at) there none = (single base.String, refl, λ simple. string_measured)
    phrase_found (syn.Named n) there none = sense_found n (sense Here n) refl there.0 none
    phrase_found (syn.Array at low high k) there none =
        let element = of_data (kind_place k) (phrase D Here k) in
        as_type (within_limits at (array_phrase Here low high element))
        (within_found at (array_phrase Here low high element) none
        (λ one. bounded_found low high element one (λ two. as_data (kind_place k) (phrase D Here k) two (λ three. phrase_found k there three))))
    phrase_found (syn.Set at k) there none =
        let element = of_data (kind_place k) (phrase D Here k) in
        as_type (within_limits at (gathering_phrase set_of element))
        (within_found at (gathering_phrase set_of element) none
        (λ one. gathered set_of element one (λ two. as_data (kind_place k) (phrase D Here k) two (λ three. phrase_found k there three)) (λ m h few flat. set_measured us m h flat)))
    phrase_found (syn.Bag at k) there none =
        let element = of_data (kind_place k) (phrase D Here k) in
        as_type (within_limits at (gathering_phrase bag_of element))
        (within_found at (gathering_phrase bag_of element) none
        (λ one. gathered bag_of element one (λ two. as_data (kind_place k) (phrase D Here k) two (λ three. phrase_found k there three)) (λ m h few flat. bag_measured us m h flat)))

    pub data_phrase_found : (k : Kind) → AllByRecursion IsThere (names_of k) → (data_phrase D Here k).breaches ≡ [] → IsDataFound (data_phrase D Here k)
    data_phrase_found k there none = as_data (kind_place k) (phrase D Here k) none (λ one. phrase_found k there one)

    -- ---- records

    abbrev types_of_fields : List TypedName → List (Option DataType)
    types_of_fields fs = map (λ f. type_of (data_phrase D Here f.kind)) fs

    record AreFound (i : ℕ) (fs : List TypedName) : Type 0 where
      size : ℕ
      depth : ℕ
      is : (record_of D Here i fs).is ≡ Some (record { kind = plain (base.Record i); size = size; nesting = depth })
      fields : AreFields us (types_of_fields fs) size depth

    fields_found : (i : ℕ) (fs : List TypedName) → AllByRecursion IsThere (flat_map (λ f. names_of f.kind) fs) → (record_of D Here i fs).breaches ≡ [] → AreFound i fs
    fields_found i [] there none = record { size = 1; depth = 1; is = refl; fields = no_fields us }
    fields_found i (f ∷ fs) there none =
        let field = data_phrase D Here f.kind in
        let rest = record_of D Here i fs in
        let names = flat_map (λ g. names_of g.kind) fs in
        let all = unless_none (field.breaches ++ rest.breaches) _ none in
        let one = data_phrase_found f.kind (all_left IsThere (names_of f.kind) names there) (left_none field.breaches rest.breaches all) in
        let more = fields_found i fs (all_right IsThere (names_of f.kind) names there) (right_none field.breaches rest.breaches all) in
        let whole : (record_of D Here i (f ∷ fs)).is ≡ with_field field.is rest.is = is_of (field.breaches ++ rest.breaches) (with_field field.is rest.is) none in
        let known = both field.is rest.is one.0 more.size more.depth one.1 more.is in
        record {
          size = one.0.size + more.size;
          depth = max (1 + one.0.nesting) more.depth;
          is = whole ∙ known;
          fields =
              subst (λ o. AreFields us (o ∷ types_of_fields fs) (one.0.size + more.size) (max (1 + one.0.nesting) more.depth)) (sym (ap (option_map (λ m. m.kind)) one.1))
              (more_fields us one.0 one.2 (types_of_fields fs) more.size more.depth more.fields);
        }
      where
        both : (x y : Option Measured) (m : Measured) (size depth : ℕ) → x ≡ Some m → y ≡ Some (record { kind = plain (base.Record i); size = size; nesting = depth }) →
            with_field x y ≡ Some (record { kind = plain (base.Record i); size = m.size + size; nesting = max (1 + m.nesting) depth })
        both x y m size depth e g = ap (λ o. with_field o y) e ∙ ap (with_field (Some m)) g

  -- ---- declared types

  definition_found : (i : ℕ) (t : IsType us linked fine i) → AllByRecursion (IsThere t.named.defined.by []) (names_within t.of) → Entry i
  definition_found i t there = by t.of t.what there (no_breach_in us linked fine i t) (declared_is us linked fine i t) (fine_at us linked fine i t).3
    where
      v : View
      v = whole_module us t.named

      types_are : (at : Place) (fs : List TypedName) → t.named.what ≡ top.TypeName (syn.Record at fs) → types_of_fields t.named.defined.by [] fs ≡ field_types us i
      types_are at fs what =
          sym (ap (λ o. option_map_or (types_in us) o []) t.at ∙ ap (λ w. map (λ f. type_of (data_found v f.kind)) (fields_of_what w)) what)

      names_are : (at : Place) (ns : List Name) → t.named.what ≡ top.TypeName (syn.Enumeration at ns) → names_at us (types.Bare (base.Enumeration i)) ≡ map (λ n. n.text) ns
      names_are at ns what = ap (λ o. option_map_or (λ x. named.names_in x.what) o []) t.at ∙ ap named.names_in what

      some_name : (ns : List Name) → ns ≢ [] → 0 < length (map (λ n. n.text) ns)
      some_name [] some = absurd (some refl)
      some_name (n ∷ ns) some = omega arith

      by : (of : Definition) → t.named.what ≡ top.TypeName of → AllByRecursion (IsThere t.named.defined.by []) (names_within of) → (definition D v i of).breaches ≡ [] →
          D i ≡ (definition D v i of).is → IsSoundDefinition of → Entry i
      by (syn.Record at fs) what there none same sound =
          let r = record_of D v i fs in
          let inner = distinct_fields fs r in
          let found = within_found at inner none (λ one.
          let f = fields_found t.named.defined.by [] i fs there (left_none r.breaches _ (unless_none (r.breaches ++ are_new (map (λ f. f.name) fs)) r.is one)) in (
            record { kind = plain (base.Record i); size = f.size; nesting = f.depth },
            is_of (r.breaches ++ are_new (map (λ f. f.name) fs)) r.is one ∙ f.is,
            λ few flat. record_measured us i f.size f.depth (subst (λ ts. AreFields us ts f.size f.depth) (types_are at fs what) f.fields) few flat,
          )) in
          (found.0, same ∙ found.1, found.2)
      by (syn.Enumeration at ns) what there none same sound = (
        single (base.Enumeration i),
        same,
        single_measured us (base.Enumeration i) (λ P G h. h) refl
            (λ kinds k le. subst (λ xs. 0 < length xs) (sym (names_are at ns what)) (some_name ns sound.1)) (λ k le. refl),
      )
      by (syn.Alias k) what there none same sound =
          let found = data_phrase_found t.named.defined.by [] k there none in
          (found.0, same ∙ found.1, found.2)

  all_entries : (i : ℕ) → IsType us linked fine i → Entry i
  all_entries = types_hold us linked fine Entry (λ i t parts. definition_found i t parts)

  -- ---- phrases of whatever view

  module _ (home : List ℕ) (hidden : List (List ℕ)) where
    entry_of : (n : Name) → IsThere home hidden n
    entry_of n j is = by (sense (Here home hidden) n) refl is
      where
        by : (s : Sense) → sense (Here home hidden) n ≡ s → number_in s ≡ Some j → Entry j
        by OfBody e f = absurd cc
        by (OfAll top.Nothing) e f = absurd cc
        by (OfAll (top.Everywhere p)) e f = absurd cc
        by (OfAll (top.Top i t)) e f = all_entries j (part_is_type us linked fine home n j (ap declared_number (sense_top (Here home hidden) n i t e) ∙ f))

    entries : (ns : List Name) → AllByRecursion (IsThere home hidden) ns
    entries [] = tt
    entries (n ∷ ns) = (entry_of n, entries ns)

    pub kind_is_found : (k : Kind) → (kind_found (Here home hidden) k).breaches ≡ [] → IsTypeFound (kind_found (Here home hidden) k)
    kind_is_found k none = phrase_found home hidden k (entries (names_of k)) none

    pub data_is_found : (k : Kind) → (data_found (Here home hidden) k).breaches ≡ [] → IsDataFound (data_found (Here home hidden) k)
    data_is_found k none = data_phrase_found home hidden k (entries (names_of k)) none

    pub data_of_kind : (k : Kind) → (data_found (Here home hidden) k).breaches ≡ [] → IsOfData us (type_of (data_found (Here home hidden) k))
    data_of_kind k none = let f = data_is_found k none in (f.0.kind, ap (option_map (λ m. m.kind)) f.1, is_data us f.0 f.2)
