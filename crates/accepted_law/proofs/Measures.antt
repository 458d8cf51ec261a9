-- How values of a type open and nest: of a type without parts, of arrays, sets, bags and graphs over another, and of records over their
-- fields.
use native.Mathlib.Nat.{suc-mul}
use Rattle.std.proofs.Common.{◌≤◌, ◌+◌, ◌*◌, refl, sym, ap, ◌∙◌, subst, arith}
use Rattle.std.specs.Prelude.{◌≡◌, ℕ, ℤ, zero, suc, max, ◌-ℤ◌, nat_abs, false, is_some, List, [], ◌∷◌, length, map, replicate, slice_get, Option, Some}
use Rattle.std.specs.List.{AllByRecursion}
use Rattle.std.specs.List.Sorted.{IsSorted, IsStrictlySortedBy}
use Rattle.std.proofs.lemmas.List.{length-replicate}
use Rattle.std.proofs.lemmas.Int.{ints}
use Rattle.std.proofs.lemmas.List.Elements.{All-nil, recursion_from_All}
use Rattle.orca_base.specs.declared.limits.TheConstants.{VALUE_NESTING, VALUE_SIZE}
use Rattle.link_rules.specs.Units.{Source}
use Rattle.type_rules.specs.declared.types.Base.{Base}
use Rattle.type_rules.specs.declared.types.Base.TheVariants as base
use Rattle.type_rules.specs.declared.types.DataType.{DataType}
use Rattle.type_rules.specs.declared.types.Measured.{Measured}
use Rattle.type_rules.specs.Types as types
use Rattle.type_rules.specs.Types.{is_object, object_in, outside_of, inside_of, plain}
use Rattle.type_rules.specs.TypePhrases.{array_of, bag_of, graph_of, set_of, single}
use Rattle.value_core.specs.Datum.{Datum, Data, data_of, list_of, list_of-data_of}
use Rattle.value_core.specs.Datum as datum
use Rattle.value_core.specs.Fits.{Kinds}
use Rattle.value_core.specs.Order.{datum_cmp}
use Rattle.value_core.specs.Size.{size_of, size_of_all}
use Rattle.value_core.specs.Sound.{nesting, nesting_of_all}
use Rattle.value_paths.specs.declared.step.Step.{Step as ValueStep}
use Rattle.value_paths.specs.declared.step.Step.TheVariants.{Field, Index, Node}
use Rattle.graph_values.specs.Graphs.{IsGraph, IsNode, empty_graph}
use Rattle.meaning_rules.specs.Openings.{field_types, layers_opening, opening, record_opening, type_opening}
use Rattle.meaning_rules.specs.Fitting.{IsRecord, IsOf, AllOf, AreOf, NodesOf, ValuesOf, Fits}
use Rattle.meaning_rules.specs.PathsFit.{Leads}
use Rattle.meaning_rules.specs.Accepted.{Holds, Inside, IsData, ToField, TypeStep}

none_rises : IsStrictlySortedBy datum_cmp []
unfolding IsStrictlySortedBy
none_rises = tt

none_sorted : IsSorted datum_cmp []
none_sorted k d low less = absurd (omega (arith, less))

empty_is_graph : IsGraph empty_graph
unfolding IsStrictlySortedBy
empty_is_graph = record { form = refl; named = record { nodes = All-nil IsNode; rising = tt }; given = All-nil _; next = omega (arith, ints) }

sizes : (n : ℕ) (x : Datum) → size_of_all (data_of (replicate n x)) ≡ n * size_of x
sizes zero x = let e : 0 ≡ 0 * size_of x = omega arith in e
sizes (suc n) x = ap (λ s. size_of x + s) (sizes n x) ∙ more n (size_of x)
  where
    more : (k y : ℕ) → y + k * y ≡ suc k * y
    more k y = let e = suc-mul k y in omega (arith, e)

one_more : (a b : ℕ) → a ≡ b → a + 1 ≡ 1 + b
one_more a b e = omega (arith, e)

some_nesting : (v : Datum) → 1 ≤ nesting v
some_nesting (datum.int z) = omega arith
some_nesting (datum.truth t) = omega arith
some_nesting (datum.char c) = omega arith
some_nesting (datum.enumerated n) = omega arith
some_nesting (datum.text s) = omega arith
some_nesting (datum.array w) = omega arith
some_nesting (datum.fields w) = omega arith
some_nesting (datum.set w) = omega arith
some_nesting (datum.bag w) = omega arith
some_nesting (datum.object p n) = omega arith

module _ (us : List Source) where
  abbrev pub opening_within : ℕ → DataType → Datum
  opening_within k t = layers_opening (record_opening us k) t.layers t.base

  abbrev pub OpensWell : DataType → Type 0
  OpensWell t = (kinds : Kinds) → Fits us kinds (opening us (Some t)) (Some t)

  -- a type of data, with the size of its opening value and its nesting
  pub record IsMeasured (m : Measured) : Type 0 where
    pub few : m.size ≤ VALUE_SIZE
    pub flat : m.nesting ≤ VALUE_NESTING
    pub opens : (kinds : Kinds) (k : ℕ) → m.nesting ≤ k → IsOf us kinds (opening_within k m.kind) m.kind
    pub sized : (k : ℕ) → m.nesting ≤ k → size_of (opening_within k m.kind) ≡ m.size
    pub deep : (kinds : Kinds) (v : Datum) → IsOf us kinds v m.kind → nesting v ≤ m.nesting
    pub inside : (path : List ValueStep) (u : DataType) → Leads us path m.kind u → OpensWell u
    pub objectless : (path : List TypeStep) (u : DataType) → Holds us path m.kind u → is_object u ≡ false

  pub is_data : (m : Measured) → IsMeasured m → IsData us m.kind
  is_data m h = record {
    objectless = h.objectless;
    opens = λ path u leads kinds. h.inside path u leads kinds;
    shallow = λ kinds v is. let d = h.deep kinds v is in let f = h.flat in omega (arith, d, f);
  }

  abbrev Opens : Measured → Type 0
  Opens m = (kinds : Kinds) (k : ℕ) → m.nesting ≤ k → IsOf us kinds (opening_within k m.kind) m.kind

  abbrev Sized : Measured → Type 0
  Sized m = (k : ℕ) → m.nesting ≤ k → size_of (opening_within k m.kind) ≡ m.size

  opens_well : (m : Measured) → m.size ≤ VALUE_SIZE → m.nesting ≤ VALUE_NESTING → Opens m → Sized m → OpensWell m.kind
  opens_well m few flat opens sized kinds = (opens kinds VALUE_NESTING flat, let e = sized VALUE_NESTING flat in omega (arith, e, few))

  -- ---- types without parts

  module _ (b : Base) (apart : (P : ℕ → Type 0) (G : Type 0) → IsRecord (types.Bare b) P G → ⊥) where
    flat_value : (kinds : Kinds) (v : Datum) → IsOf us kinds v (plain b) → nesting v ≤ 1
    flat_value kinds (datum.int z) h = omega arith
    flat_value kinds (datum.truth t) h = omega arith
    flat_value kinds (datum.char c) h = omega arith
    flat_value kinds (datum.enumerated n) h = omega arith
    flat_value kinds (datum.text s) h = omega arith
    flat_value kinds (datum.object p n) h = omega arith
    flat_value kinds (datum.array w) h = absurd h
    flat_value kinds (datum.set w) h = absurd h
    flat_value kinds (datum.bag w) h = absurd h
    flat_value kinds (datum.fields w) h = absurd (apart _ _ h)

    no_record : (i : ℕ) → types.Bare b ≡ types.Bare (base.Record i) → ⊥
    no_record i e = apart (λ j. Unit {0}) (Unit {0}) (subst (λ o. IsRecord o (λ j. Unit {0}) (Unit {0})) (sym e) tt)

    single_objectless : is_some (object_in (types.Bare b)) ≡ false → (path : List TypeStep) (u : DataType) → Holds us path (plain b) u → is_object u ≡ false
    single_objectless none [] u holds = subst (λ t. is_object t ≡ false) holds none
    single_objectless none (Inside ∷ path) u holds = single_objectless none path u holds
    single_objectless none (ToField place ∷ path) u holds = absurd (no_record holds.0 holds.2)

    pub single_measured : is_some (object_in (types.Bare b)) ≡ false → Opens (single b) → Sized (single b) → IsMeasured (single b)
    single_measured none opens sized = record {
      few = omega arith;
      flat = omega arith;
      opens = opens;
      sized = sized;
      deep = flat_value;
      inside = leads;
      objectless = single_objectless none;
    }
      where
        own : OpensWell (plain b)
        own = opens_well (single b) (omega arith) (omega arith) opens sized

        leads : (path : List ValueStep) (u : DataType) → Leads us path (plain b) u → OpensWell u
        leads [] u is = subst OpensWell is own
        leads (Index low index ∷ path) u is = absurd (let e = is.1.1 in cc)
        leads (Field place ∷ path) u is = absurd (no_record is.1.0 is.1.1)
        leads (Node name ∷ path) u is = absurd (let e = is.1.0 in cc)

  -- ---- arrays, sets and bags

  all_replicated : (kinds : Kinds) (n : ℕ) (x : Datum) (t : DataType) → IsOf us kinds x t → AllOf us kinds (data_of (replicate n x)) t
  all_replicated kinds zero x t is = tt
  all_replicated kinds (suc n) x t is = (is, all_replicated kinds n x t is)

  module _ (m : Measured) (h : IsMeasured m) where
    all_deep : (kinds : Kinds) (w : Data) → AllOf us kinds w m.kind → nesting_of_all w ≤ m.nesting
    all_deep kinds datum.none all = omega arith
    all_deep kinds (datum.more v w) all = let one = h.deep kinds v all.0 in let rest = all_deep kinds w all.1 in omega (arith, one, rest)

    module _ (low high : ℤ) where
      abbrev A : Measured
      A = array_of low high m

      array_deep : (kinds : Kinds) (v : Datum) → IsOf us kinds v A.kind → nesting v ≤ A.nesting
      array_deep kinds (datum.array w) is = let rest = all_deep kinds w is.1 in omega (arith, rest)
      array_deep kinds (datum.int z) is = absurd is.0
      array_deep kinds (datum.truth t) is = absurd is
      array_deep kinds (datum.char c) is = absurd is.0
      array_deep kinds (datum.enumerated n) is = absurd is
      array_deep kinds (datum.text s) is = absurd is.0
      array_deep kinds (datum.fields w) is = absurd is
      array_deep kinds (datum.set w) is = absurd is
      array_deep kinds (datum.bag w) is = absurd is
      array_deep kinds (datum.object p n) is = absurd is

      pub array_measured : A.size ≤ VALUE_SIZE → A.nesting ≤ VALUE_NESTING → IsMeasured A
      array_measured few flat = record { few = few; flat = flat; opens = opens; sized = sized; deep = array_deep; inside = leads; objectless = holds }
        where
          n : ℕ
          n = nat_abs (high -ℤ low) + 1

          opens : Opens A
          opens kinds k le =
              let x = opening_within k m.kind in (
                ap length (list_of-data_of (replicate n x)) ∙ length-replicate n x,
                all_replicated kinds n x m.kind (h.opens kinds k (omega (arith, le))),
              )

          sized : Sized A
          sized k le =
              let x = opening_within k m.kind in
              one_more (size_of_all (data_of (replicate n x))) (n * m.size) (sizes n x ∙ ap (λ s. n * s) (h.sized k (omega (arith, le))))

          leads : (path : List ValueStep) (u : DataType) → Leads us path A.kind u → OpensWell u
          leads [] u is = subst OpensWell is (opens_well A few flat opens sized)
          leads (Index from index ∷ path) u is = h.inside path u (subst (λ t. Leads us path t u) (sym is.1.2) is.2)
          leads (Field place ∷ path) u is = absurd (let e = is.1.1 in cc)
          leads (Node name ∷ path) u is = absurd (let e = is.1.0 in cc)

          holds : (path : List TypeStep) (u : DataType) → Holds us path A.kind u → is_object u ≡ false
          holds [] u is = subst (λ t. is_object t ≡ false) is refl
          holds (Inside ∷ path) u is = h.objectless path u is
          holds (ToField place ∷ path) u is = absurd (let e = is.2 in cc)

    set_deep : (kinds : Kinds) (v : Datum) → IsOf us kinds v (set_of m).kind → nesting v ≤ (set_of m).nesting
    set_deep kinds (datum.set w) is = let rest = all_deep kinds w is.1 in omega (arith, rest)
    set_deep kinds (datum.int z) is = absurd is.0
    set_deep kinds (datum.truth t) is = absurd is
    set_deep kinds (datum.char c) is = absurd is.0
    set_deep kinds (datum.enumerated n) is = absurd is
    set_deep kinds (datum.text s) is = absurd is.0
    set_deep kinds (datum.fields w) is = absurd is
    set_deep kinds (datum.array w) is = absurd is
    set_deep kinds (datum.bag w) is = absurd is
    set_deep kinds (datum.object p n) is = absurd is

    pub set_measured : (set_of m).nesting ≤ VALUE_NESTING → IsMeasured (set_of m)
    set_measured flat = record { few = omega arith; flat = flat; opens = λ kinds k le. (none_rises, tt); sized = λ k le. refl; deep = set_deep; inside = leads; objectless = holds }
      where
        leads : (path : List ValueStep) (u : DataType) → Leads us path (set_of m).kind u → OpensWell u
        leads [] u is = subst OpensWell is (opens_well (set_of m) (omega arith) flat (λ kinds k le. (none_rises, tt)) (λ k le. refl))
        leads (Index from index ∷ path) u is = absurd (let e = is.1.1 in cc)
        leads (Field place ∷ path) u is = absurd (let e = is.1.1 in cc)
        leads (Node name ∷ path) u is = absurd (let e = is.1.0 in cc)

        holds : (path : List TypeStep) (u : DataType) → Holds us path (set_of m).kind u → is_object u ≡ false
        holds [] u is = subst (λ t. is_object t ≡ false) is refl
        holds (Inside ∷ path) u is = h.objectless path u is
        holds (ToField place ∷ path) u is = absurd (let e = is.2 in cc)

    bag_deep : (kinds : Kinds) (v : Datum) → IsOf us kinds v (bag_of m).kind → nesting v ≤ (bag_of m).nesting
    bag_deep kinds (datum.bag w) is = let rest = all_deep kinds w is.1 in omega (arith, rest)
    bag_deep kinds (datum.int z) is = absurd is.0
    bag_deep kinds (datum.truth t) is = absurd is
    bag_deep kinds (datum.char c) is = absurd is.0
    bag_deep kinds (datum.enumerated n) is = absurd is
    bag_deep kinds (datum.text s) is = absurd is.0
    bag_deep kinds (datum.fields w) is = absurd is
    bag_deep kinds (datum.array w) is = absurd is
    bag_deep kinds (datum.set w) is = absurd is
    bag_deep kinds (datum.object p n) is = absurd is

    pub bag_measured : (bag_of m).nesting ≤ VALUE_NESTING → IsMeasured (bag_of m)
    bag_measured flat = record { few = omega arith; flat = flat; opens = λ kinds k le. (none_sorted, tt); sized = λ k le. refl; deep = bag_deep; inside = leads; objectless = holds }
      where
        leads : (path : List ValueStep) (u : DataType) → Leads us path (bag_of m).kind u → OpensWell u
        leads [] u is = subst OpensWell is (opens_well (bag_of m) (omega arith) flat (λ kinds k le. (none_sorted, tt)) (λ k le. refl))
        leads (Index from index ∷ path) u is = absurd (let e = is.1.1 in cc)
        leads (Field place ∷ path) u is = absurd (let e = is.1.1 in cc)
        leads (Node name ∷ path) u is = absurd (let e = is.1.0 in cc)

        holds : (path : List TypeStep) (u : DataType) → Holds us path (bag_of m).kind u → is_object u ≡ false
        holds [] u is = subst (λ t. is_object t ≡ false) is refl
        holds (Inside ∷ path) u is = h.objectless path u is
        holds (ToField place ∷ path) u is = absurd (let e = is.2 in cc)

    -- ---- graphs

    abbrev first_nests : Datum → ℕ
    first_nests (datum.fields (datum.more x w)) = nesting x
    first_nests _ = 1

    nodes_deep : (kinds : Kinds) (w : Data) → ValuesOf us kinds w m.kind → AllByRecursion IsNode (list_of w) → nesting_of_all w ≤ 1 + m.nesting
    nodes_deep kinds datum.none all nodes = omega arith
    nodes_deep kinds (datum.more (datum.fields (datum.more name (datum.more v datum.none))) w) all nodes =
        let one = h.deep kinds v all.0 in
        let named : nesting name ≡ 1 = ap first_nests nodes.0 in
        let some = some_nesting v in
        let rest = nodes_deep kinds w all.1 nodes.1 in
        omega (arith, one, named, some, rest)
    nodes_deep kinds (datum.more (datum.fields datum.none) w) all nodes = absurd all
    nodes_deep kinds (datum.more (datum.fields (datum.more name datum.none)) w) all nodes = absurd all
    nodes_deep kinds (datum.more (datum.fields (datum.more name (datum.more v (datum.more x y)))) w) all nodes = absurd all
    nodes_deep kinds (datum.more (datum.int z) w) all nodes = absurd all
    nodes_deep kinds (datum.more (datum.truth b) w) all nodes = absurd all
    nodes_deep kinds (datum.more (datum.char c) w) all nodes = absurd all
    nodes_deep kinds (datum.more (datum.enumerated n) w) all nodes = absurd all
    nodes_deep kinds (datum.more (datum.text s) w) all nodes = absurd all
    nodes_deep kinds (datum.more (datum.array u) w) all nodes = absurd all
    nodes_deep kinds (datum.more (datum.set u) w) all nodes = absurd all
    nodes_deep kinds (datum.more (datum.bag u) w) all nodes = absurd all
    nodes_deep kinds (datum.more (datum.object p n) w) all nodes = absurd all

    fields_deep : (kinds : Kinds) (w : Data) → IsGraph (datum.fields w) → NodesOf us kinds w m.kind → nesting (datum.fields w) ≤ 3 + m.nesting
    fields_deep kinds (datum.more next (datum.more (datum.set w) datum.none)) graph all =
        let named : nesting next ≡ 1 = ap first_nests graph.form in
        let rest = nodes_deep kinds w all (recursion_from_All IsNode (list_of w) graph.named.nodes) in
        omega (arith, named, rest)
    fields_deep kinds datum.none graph all = absurd all
    fields_deep kinds (datum.more next datum.none) graph all = absurd all
    fields_deep kinds (datum.more next (datum.more (datum.set w) (datum.more x y))) graph all = absurd all
    fields_deep kinds (datum.more next (datum.more (datum.int z) w)) graph all = absurd all
    fields_deep kinds (datum.more next (datum.more (datum.truth b) w)) graph all = absurd all
    fields_deep kinds (datum.more next (datum.more (datum.char c) w)) graph all = absurd all
    fields_deep kinds (datum.more next (datum.more (datum.enumerated n) w)) graph all = absurd all
    fields_deep kinds (datum.more next (datum.more (datum.text s) w)) graph all = absurd all
    fields_deep kinds (datum.more next (datum.more (datum.array u) w)) graph all = absurd all
    fields_deep kinds (datum.more next (datum.more (datum.fields u) w)) graph all = absurd all
    fields_deep kinds (datum.more next (datum.more (datum.bag u) w)) graph all = absurd all
    fields_deep kinds (datum.more next (datum.more (datum.object p n) w)) graph all = absurd all

    graph_deep : (kinds : Kinds) (v : Datum) → IsOf us kinds v (graph_of m).kind → nesting v ≤ (graph_of m).nesting
    graph_deep kinds (datum.fields w) is = fields_deep kinds w is.0 is.2
    graph_deep kinds (datum.int z) is = absurd is.0
    graph_deep kinds (datum.truth t) is = absurd is
    graph_deep kinds (datum.char c) is = absurd is.0
    graph_deep kinds (datum.enumerated n) is = absurd is
    graph_deep kinds (datum.text s) is = absurd is.0
    graph_deep kinds (datum.array w) is = absurd is
    graph_deep kinds (datum.set w) is = absurd is
    graph_deep kinds (datum.bag w) is = absurd is
    graph_deep kinds (datum.object p n) is = absurd is

    graph_opens : Opens (graph_of m)
    graph_opens kinds k le = (empty_is_graph, record { sfits = omega arith }, tt)

    pub graph_measured : (graph_of m).nesting ≤ VALUE_NESTING → IsMeasured (graph_of m)
    graph_measured flat = record { few = omega arith; flat = flat; opens = graph_opens; sized = λ k le. refl; deep = graph_deep; inside = leads; objectless = holds }
      where
        leads : (path : List ValueStep) (u : DataType) → Leads us path (graph_of m).kind u → OpensWell u
        leads [] u is = subst OpensWell is (opens_well (graph_of m) (omega arith) flat graph_opens (λ k le. refl))
        leads (Index from index ∷ path) u is = absurd (let e = is.1.1 in cc)
        leads (Field place ∷ path) u is = absurd (let e = is.1.1 in cc)
        leads (Node name ∷ path) u is = h.inside path u (subst (λ t. Leads us path t u) (sym is.1.1) is.2)

        holds : (path : List TypeStep) (u : DataType) → Holds us path (graph_of m).kind u → is_object u ≡ false
        holds [] u is = subst (λ t. is_object t ≡ false) is refl
        holds (Inside ∷ path) u is = h.objectless path u is
        holds (ToField place ∷ path) u is = absurd (let e = is.2 in cc)

  -- ---- records

  pub record AreFields (ts : List (Option DataType)) (size depth : ℕ) : Type 0 where
    pub nests : 1 ≤ depth
    pub opens : (kinds : Kinds) (k : ℕ) → depth ≤ suc k → AreOf us kinds (data_of (map (type_opening (record_opening us k)) ts)) ts
    pub sized : (k : ℕ) → depth ≤ suc k → size_of_all (data_of (map (type_opening (record_opening us k)) ts)) + 1 ≡ size
    pub deep : (kinds : Kinds) (w : Data) → AreOf us kinds w ts → nesting_of_all w + 1 ≤ depth
    pub inside : (place : ℕ) (t : DataType) → slice_get ts place ≡ Some (Some t) → (path : List ValueStep) (u : DataType) → Leads us path t u → OpensWell u
    pub objectless : (place : ℕ) (t : DataType) → slice_get ts place ≡ Some (Some t) → (path : List TypeStep) (u : DataType) → Holds us path t u → is_object u ≡ false

  pub no_fields : AreFields [] 1 1
  no_fields = record {
    nests = omega arith;
    opens = λ kinds k le. tt;
    sized = λ k le. refl;
    deep = none_deep;
    inside = λ place t at. absurd cc;
    objectless = λ place t at. absurd cc;
  }
    where
      none_deep : (kinds : Kinds) (w : Data) → AreOf us kinds w [] → nesting_of_all w + 1 ≤ 1
      none_deep kinds datum.none is = omega arith
      none_deep kinds (datum.more v w) is = absurd is

  pub more_fields : (f : Measured) → IsMeasured f → (ts : List (Option DataType)) (size depth : ℕ) → AreFields ts size depth → AreFields (Some f.kind ∷ ts) (f.size + size) (max (1 + f.nesting) depth)
  more_fields f h ts size depth r = record {
    nests = let n = r.nests in omega (arith, n);
    opens = λ kinds k le. (h.opens kinds k (omega (arith, le)), r.opens kinds k (omega (arith, le)));
    sized = λ k le. let one = h.sized k (omega (arith, le)) in let rest = r.sized k (omega (arith, le)) in omega (arith, one, rest);
    deep = more_deep;
    inside = more_inside;
    objectless = more_objectless;
  }
    where
      given : Option (Option DataType) → DataType
      given (Some (Some t)) = t
      given _ = f.kind

      more_deep : (kinds : Kinds) (w : Data) → AreOf us kinds w (Some f.kind ∷ ts) → nesting_of_all w + 1 ≤ max (1 + f.nesting) depth
      more_deep kinds datum.none is = absurd is
      more_deep kinds (datum.more v w) is = let one = h.deep kinds v is.0 in let rest = r.deep kinds w is.1 in omega (arith, one, rest)

      more_inside : (place : ℕ) (t : DataType) → slice_get (Some f.kind ∷ ts) place ≡ Some (Some t) → (path : List ValueStep) (u : DataType) → Leads us path t u → OpensWell u
      more_inside zero t at path u leads = h.inside path u (subst (λ x. Leads us path x u) (sym (ap given at)) leads)
      more_inside (suc place) t at path u leads = r.inside place t at path u leads

      more_objectless : (place : ℕ) (t : DataType) → slice_get (Some f.kind ∷ ts) place ≡ Some (Some t) → (path : List TypeStep) (u : DataType) → Holds us path t u → is_object u ≡ false
      more_objectless zero t at path u holds = h.objectless path u (subst (λ x. Holds us path x u) (sym (ap given at)) holds)
      more_objectless (suc place) t at path u holds = r.objectless place t at path u holds

  module _ (i size depth : ℕ) (r : AreFields (field_types us i) size depth) where
    abbrev R : Measured
    R = record { kind = plain (base.Record i); size = size; nesting = depth }

    record_deep : (kinds : Kinds) (v : Datum) → IsOf us kinds v R.kind → nesting v ≤ depth
    record_deep kinds (datum.fields w) is = r.deep kinds w is
    record_deep kinds (datum.int z) is = absurd is.0
    record_deep kinds (datum.truth t) is = absurd is
    record_deep kinds (datum.char c) is = absurd is.0
    record_deep kinds (datum.enumerated n) is = absurd is
    record_deep kinds (datum.text s) is = absurd is.0
    record_deep kinds (datum.array w) is = absurd is
    record_deep kinds (datum.set w) is = absurd is
    record_deep kinds (datum.bag w) is = absurd is
    record_deep kinds (datum.object p n) is = absurd is

    record_opens : Opens R
    record_opens kinds zero le = absurd (let n = r.nests in omega (arith, le, n))
    record_opens kinds (suc k) le = r.opens kinds k le

    record_sized : Sized R
    record_sized zero le = absurd (let n = r.nests in omega (arith, le, n))
    record_sized (suc k) le = r.sized k le

    number : types.Outside → ℕ
    number (types.Bare (base.Record j)) = j
    number _ = i

    record_holds : (path : List TypeStep) (u : DataType) → Holds us path R.kind u → is_object u ≡ false
    unfolding number
    record_holds [] u is = subst (λ t. is_object t ≡ false) is refl
    record_holds (Inside ∷ path) u is = record_holds path u is
    record_holds (ToField place ∷ path) u is =
        r.objectless place is.1 (subst (λ j. slice_get (field_types us j) place ≡ Some (Some is.1)) (sym (ap number is.2)) is.3) path u is.4

    pub record_measured : size ≤ VALUE_SIZE → depth ≤ VALUE_NESTING → IsMeasured R
    unfolding number
    record_measured few flat = record { few = few; flat = flat; opens = record_opens; sized = record_sized; deep = record_deep; inside = leads; objectless = record_holds }
      where
        leads : (path : List ValueStep) (u : DataType) → Leads us path R.kind u → OpensWell u
        leads [] u is = subst OpensWell is (opens_well R few flat record_opens record_sized)
        leads (Index from index ∷ path) u is = absurd (let e = is.1.1 in cc)
        leads (Field place ∷ path) u is =
            r.inside place is.0 (subst (λ j. slice_get (field_types us j) place ≡ Some (Some is.0)) (sym (ap number is.1.1)) is.1.2) path u is.2
        leads (Node name ∷ path) u is = absurd (let e = is.1.0 in cc)
