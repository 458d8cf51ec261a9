-- Parts of values of a type are of the types of the parts, and stay so when they are replaced.
use Rattle.std.proofs.Common.{refl, ap, sym, ◌∙◌, subst}
use Rattle.std.specs.Prelude.{◌≡◌, Bool, true, false, if◌then◌else◌, ℕ, zero, suc, ℤ, is_some, List, [], ◌∷◌, length, slice_get, slice_set, Option, Some, None, Result, Ok, Err}
use Rattle.std.proofs.lemmas.List.{length-set}
use Rattle.std.specs.List.{All}
use Rattle.std.specs.List.Sorted.{IsSorted, IsStrictlySortedBy}
use Rattle.value_core.specs.Integers.{IsWord}
use Rattle.value_core.specs.Order.{datum_cmp}
use Rattle.value_core.specs.Sound.{IsCode}
use Rattle.graph_values.specs.Graphs.{IsGraph}
use Rattle.orca_base.specs.declared.fault.FaultKind.{FaultKind}
use Rattle.orca_base.specs.declared.fault.FaultKind.TheVariants.{IndexOutside}
use Rattle.link_rules.specs.Units.{Source}
use Rattle.type_rules.specs.declared.types.DataType.{DataType}
use Rattle.type_rules.specs.declared.types.Base.TheVariants as base
use Rattle.type_rules.specs.declared.types.Layer.TheVariants as layer
use Rattle.type_rules.specs.Types as types
use Rattle.type_rules.specs.Types.{Outside, outside_of, inside_of}
use Rattle.value_core.specs.Datum.{Datum, Data, list_of, data_of, list_of-data_of, data_of-list_of}
use Rattle.value_core.specs.Datum as datum
use Rattle.value_core.specs.Fits.{Kinds}
use Rattle.value_ops.specs.Sizes.{place_of}
use Rattle.value_paths.specs.declared.step.Step.TheVariants.{Field, Index, Node}
use Rattle.value_paths.specs.Paths.{at_place, found, part_to, set_place, with_step}
use Rattle.graph_values.specs.Graphs.{assigned, graph_of, is_named, name_in, node_in, node_of, nodes_in, value_at, with_node}
use Rattle.meaning_rules.specs.Openings.{field_types}
use Rattle.meaning_rules.specs.Fitting.{IsIntegral, IsTruth, IsCharacter, IsText, IsNamed, IsObject, IsArray, IsSet, IsBag, IsRecord, IsOf, AllOf, AreOf, NodesOf, ValuesOf}
use Rattle.meaning_rules.specs.PartsFit.{PartsFit}

-- a graph stays one where a node's value is assigned
abbrev pub Assigning : Type 0
Assigning = (name : ℤ) (v g h : Datum) → IsGraph g → assigned name v g ≡ Ok h → IsGraph h × (name_in h ≡ name_in g)

is_assigned : (name : ℤ) (x g p : Datum) → found (node_in name g) ≡ Ok p → assigned name x g ≡ Ok (graph_of (name_in g) (with_node name (node_of name x) (nodes_in g)))
is_assigned name x g p is = by_node (node_in name g) is
  where
    by_node : (o : Option Datum) → found o ≡ Ok p →
        (if is_some o then Ok (graph_of (name_in g) (with_node name (node_of name x) (nodes_in g))) else Err IndexOutside) ≡
        Ok (graph_of (name_in g) (with_node name (node_of name x) (nodes_in g)))
    by_node None e = absurd cc
    by_node (Some v) e = refl

-- the value of a result, and the type in an option
abbrev pub given : Datum → Result Datum FaultKind → Datum
given v (Ok x) = x
given v (Err fault) = v

abbrev named_type : DataType → Option (Option DataType) → DataType
named_type t None = t
named_type t (Some None) = t
named_type t (Some (Some u)) = u

module _ (us : List Source) (kinds : Kinds) where
  -- what a value of a type is, by the type's outside and what is inside
  abbrev pub OfBy : Outside → DataType → Datum → Type 0
  OfBy o t (datum.int z) = IsIntegral o × IsWord z
  OfBy o t (datum.truth b) = IsTruth o
  OfBy o t (datum.char c) = IsCharacter o × IsCode c
  OfBy o t (datum.enumerated n) = IsNamed us o n
  OfBy o t (datum.text s) = IsText o × All IsCode s
  OfBy o t (datum.array w) = IsArray o (length (list_of w)) (AllOf us kinds w t)
  OfBy o t (datum.fields w) = IsRecord o (λ i. AreOf us kinds w (field_types us i)) (IsGraph (datum.fields w) × IsWord (name_in (datum.fields w)) × NodesOf us kinds w t)
  OfBy o t (datum.set w) = IsSet o (IsStrictlySortedBy datum_cmp (list_of w) × AllOf us kinds w t)
  OfBy o t (datum.bag w) = IsBag o (IsSorted datum_cmp (list_of w) × AllOf us kinds w t)
  OfBy o t (datum.object process number) = IsObject us kinds o process number

  -- ---- elements

  all_at : (w : Data) (t : DataType) (k : ℕ) (p : Datum) → AllOf us kinds w t → found (slice_get (list_of w) k) ≡ Ok p → IsOf us kinds p t
  all_at datum.none t k p h is = absurd cc
  all_at (datum.more v w) t zero p h is = subst (λ x. IsOf us kinds x t) (ap (given v) is) h.0
  all_at (datum.more v w) t (suc k) p h is = all_at w t k p h.1 is

  all_set : (w : Data) (t : DataType) (k : ℕ) (x : Datum) → AllOf us kinds w t → IsOf us kinds x t → AllOf us kinds (data_of (slice_set (list_of w) k x)) t
  all_set datum.none t k x h one = tt
  all_set (datum.more v w) t zero x h one = (one, subst (λ u. AllOf us kinds u t) (sym (data_of-list_of w)) h.1)
  all_set (datum.more v w) t (suc k) x h one = (h.0, all_set w t k x h.1 one)

  all_placed : (place : Result ℕ FaultKind) (w : Data) (t : DataType) (x : Datum) → AllOf us kinds w t → IsOf us kinds x t →
      AllOf us kinds (data_of (set_place place (list_of w) x)) t
  all_placed (Ok k) w t x h one = all_set w t k x h one
  all_placed (Err fault) w t x h one = subst (λ u. AllOf us kinds u t) (sym (data_of-list_of w)) h

  placed_length : (place : Result ℕ FaultKind) (xs : List Datum) (x : Datum) → length (set_place place xs x) ≡ length xs
  placed_length (Ok k) xs x = length-set xs k x
  placed_length (Err fault) xs x = refl

  placed_at : (place : Result ℕ FaultKind) (w : Data) (t : DataType) (p : Datum) → AllOf us kinds w t → at_place place (list_of w) ≡ Ok p → IsOf us kinds p t
  placed_at (Ok k) w t p h is = all_at w t k p h is
  placed_at (Err fault) w t p h is = absurd cc

  -- ---- arrays

  module _ (t : DataType) (low high : ℤ) (e : outside_of t ≡ types.Within (layer.Array low high)) where
    element_fits : (v p : Datum) (index : ℤ) → IsOf us kinds v t → part_to (Index low index) v ≡ Ok p → IsOf us kinds p (inside_of t)
    element_fits (datum.array w) p index h is =
        placed_at (place_of (length (list_of w)) low index) w (inside_of t) p
        (subst (λ o. OfBy o (inside_of t) (datum.array w)) e h).1 is
    element_fits (datum.int z) p index h is = absurd (subst (λ o. OfBy o (inside_of t) (datum.int z)) e h).0
    element_fits (datum.truth b) p index h is = absurd (subst (λ o. OfBy o (inside_of t) (datum.truth b)) e h)
    element_fits (datum.char c) p index h is = absurd (subst (λ o. OfBy o (inside_of t) (datum.char c)) e h).0
    element_fits (datum.enumerated n) p index h is = absurd (subst (λ o. OfBy o (inside_of t) (datum.enumerated n)) e h)
    element_fits (datum.text s) p index h is = absurd (subst (λ o. OfBy o (inside_of t) (datum.text s)) e h).0
    element_fits (datum.fields w) p index h is = absurd (subst (λ o. OfBy o (inside_of t) (datum.fields w)) e h)
    element_fits (datum.set w) p index h is = absurd (subst (λ o. OfBy o (inside_of t) (datum.set w)) e h)
    element_fits (datum.bag w) p index h is = absurd (subst (λ o. OfBy o (inside_of t) (datum.bag w)) e h)
    element_fits (datum.object q n) p index h is = absurd (subst (λ o. OfBy o (inside_of t) (datum.object q n)) e h)

    with_element_fits : (v x : Datum) (index : ℤ) → IsOf us kinds v t → IsOf us kinds x (inside_of t) → IsOf us kinds (with_step (Index low index) v x) t
    with_element_fits (datum.array w) x index h one =
        let parts = subst (λ o. OfBy o (inside_of t) (datum.array w)) e h in
        let place = place_of (length (list_of w)) low index in
        let long : length (list_of (data_of (set_place place (list_of w) x))) ≡ length (list_of w) =
        ap length (list_of-data_of (set_place place (list_of w) x)) ∙ placed_length place (list_of w) x in
        subst (λ o. OfBy o (inside_of t) (datum.array (data_of (set_place place (list_of w) x)))) (sym e)
        (long ∙ parts.0, all_placed place w (inside_of t) x parts.1 one)
    with_element_fits (datum.int z) x index h one = absurd (subst (λ o. OfBy o (inside_of t) (datum.int z)) e h).0
    with_element_fits (datum.truth b) x index h one = absurd (subst (λ o. OfBy o (inside_of t) (datum.truth b)) e h)
    with_element_fits (datum.char c) x index h one = absurd (subst (λ o. OfBy o (inside_of t) (datum.char c)) e h).0
    with_element_fits (datum.enumerated n) x index h one = absurd (subst (λ o. OfBy o (inside_of t) (datum.enumerated n)) e h)
    with_element_fits (datum.text s) x index h one = absurd (subst (λ o. OfBy o (inside_of t) (datum.text s)) e h).0
    with_element_fits (datum.fields w) x index h one = absurd (subst (λ o. OfBy o (inside_of t) (datum.fields w)) e h)
    with_element_fits (datum.set w) x index h one = absurd (subst (λ o. OfBy o (inside_of t) (datum.set w)) e h)
    with_element_fits (datum.bag w) x index h one = absurd (subst (λ o. OfBy o (inside_of t) (datum.bag w)) e h)
    with_element_fits (datum.object q n) x index h one = absurd (subst (λ o. OfBy o (inside_of t) (datum.object q n)) e h)

  -- ---- records

  are_at : (w : Data) (ts : List (Option DataType)) (k : ℕ) (t : DataType) (p : Datum) → AreOf us kinds w ts → slice_get ts k ≡ Some (Some t) →
      found (slice_get (list_of w) k) ≡ Ok p → IsOf us kinds p t
  are_at datum.none ts k t p h at is = absurd cc
  are_at (datum.more v w) [] k t p h at is = absurd h
  are_at (datum.more v w) (None ∷ ts) k t p h at is = absurd h
  are_at (datum.more v w) (Some u ∷ ts) zero t p h at is = subst (λ x. IsOf us kinds x t) (ap (given v) is) (subst (λ y. IsOf us kinds v y) (ap (named_type u) at) h.0)
  are_at (datum.more v w) (Some u ∷ ts) (suc k) t p h at is = are_at w ts k t p h.1 at is

  are_set : (w : Data) (ts : List (Option DataType)) (k : ℕ) (t : DataType) (x : Datum) → AreOf us kinds w ts → slice_get ts k ≡ Some (Some t) →
      IsOf us kinds x t → AreOf us kinds (data_of (slice_set (list_of w) k x)) ts
  are_set datum.none ts k t x h at one = h
  are_set (datum.more v w) [] k t x h at one = absurd h
  are_set (datum.more v w) (None ∷ ts) k t x h at one = absurd h
  are_set (datum.more v w) (Some u ∷ ts) zero t x h at one =
      (subst (λ y. IsOf us kinds x y) (ap (named_type t) (sym at)) one, subst (λ d. AreOf us kinds d ts) (sym (data_of-list_of w)) h.1)
  are_set (datum.more v w) (Some u ∷ ts) (suc k) t x h at one = (h.0, are_set w ts k t x h.1 at one)

  module _ (t : DataType) (i : ℕ) (e : outside_of t ≡ types.Bare (base.Record i)) where
    field_fits : (v p : Datum) (k : ℕ) (u : DataType) → slice_get (field_types us i) k ≡ Some (Some u) → IsOf us kinds v t → part_to (Field k) v ≡ Ok p →
        IsOf us kinds p u
    field_fits (datum.fields w) p k u at h is = are_at w (field_types us i) k u p (subst (λ o. OfBy o (inside_of t) (datum.fields w)) e h) at is
    field_fits (datum.int z) p k u at h is = absurd (subst (λ o. OfBy o (inside_of t) (datum.int z)) e h).0
    field_fits (datum.truth b) p k u at h is = absurd (subst (λ o. OfBy o (inside_of t) (datum.truth b)) e h)
    field_fits (datum.char c) p k u at h is = absurd (subst (λ o. OfBy o (inside_of t) (datum.char c)) e h).0
    field_fits (datum.enumerated n) p k u at h is = absurd (subst (λ o. OfBy o (inside_of t) (datum.enumerated n)) e h)
    field_fits (datum.text s) p k u at h is = absurd (subst (λ o. OfBy o (inside_of t) (datum.text s)) e h).0
    field_fits (datum.array w) p k u at h is = absurd (subst (λ o. OfBy o (inside_of t) (datum.array w)) e h)
    field_fits (datum.set w) p k u at h is = absurd (subst (λ o. OfBy o (inside_of t) (datum.set w)) e h)
    field_fits (datum.bag w) p k u at h is = absurd (subst (λ o. OfBy o (inside_of t) (datum.bag w)) e h)
    field_fits (datum.object q n) p k u at h is = absurd (subst (λ o. OfBy o (inside_of t) (datum.object q n)) e h)

    with_field_fits : (v x : Datum) (k : ℕ) (u : DataType) → slice_get (field_types us i) k ≡ Some (Some u) → IsOf us kinds v t → IsOf us kinds x u →
        IsOf us kinds (with_step (Field k) v x) t
    with_field_fits (datum.fields w) x k u at h one =
        subst (λ o. OfBy o (inside_of t) (datum.fields (data_of (slice_set (list_of w) k x)))) (sym e)
        (are_set w (field_types us i) k u x (subst (λ o. OfBy o (inside_of t) (datum.fields w)) e h) at one)
    with_field_fits (datum.int z) x k u at h one = absurd (subst (λ o. OfBy o (inside_of t) (datum.int z)) e h).0
    with_field_fits (datum.truth b) x k u at h one = absurd (subst (λ o. OfBy o (inside_of t) (datum.truth b)) e h)
    with_field_fits (datum.char c) x k u at h one = absurd (subst (λ o. OfBy o (inside_of t) (datum.char c)) e h).0
    with_field_fits (datum.enumerated n) x k u at h one = absurd (subst (λ o. OfBy o (inside_of t) (datum.enumerated n)) e h)
    with_field_fits (datum.text s) x k u at h one = absurd (subst (λ o. OfBy o (inside_of t) (datum.text s)) e h).0
    with_field_fits (datum.array w) x k u at h one = absurd (subst (λ o. OfBy o (inside_of t) (datum.array w)) e h)
    with_field_fits (datum.set w) x k u at h one = absurd (subst (λ o. OfBy o (inside_of t) (datum.set w)) e h)
    with_field_fits (datum.bag w) x k u at h one = absurd (subst (λ o. OfBy o (inside_of t) (datum.bag w)) e h)
    with_field_fits (datum.object q n) x k u at h one = absurd (subst (λ o. OfBy o (inside_of t) (datum.object q n)) e h)

  -- ---- graphs

  value_fits : (w : Data) (t : DataType) (name : ℤ) (p : Datum) → ValuesOf us kinds w t → found (value_at name (list_of w)) ≡ Ok p → IsOf us kinds p t
  value_fits datum.none t name p h is = absurd cc
  value_fits (datum.more (datum.fields datum.none) w) t name p h is = absurd h
  value_fits (datum.more (datum.fields (datum.more m datum.none)) w) t name p h is = absurd h
  value_fits (datum.more (datum.fields (datum.more m (datum.more v (datum.more x y)))) w) t name p h is = absurd h
  value_fits (datum.more (datum.fields (datum.more m (datum.more v datum.none))) w) t name p h is =
      by_name (is_named name (datum.fields (datum.more m (datum.more v datum.none)))) is (λ e. value_fits w t name p h.1 e)
    where
      by_name : (b : Bool) → found (if b then Some v else value_at name (list_of w)) ≡ Ok p → (found (value_at name (list_of w)) ≡ Ok p → IsOf us kinds p t) → IsOf us kinds p t
      by_name true e rest = subst (λ x. IsOf us kinds x t) (ap (given v) e) h.0
      by_name false e rest = rest e
  value_fits (datum.more (datum.int z) w) t name p h is = absurd h
  value_fits (datum.more (datum.truth b) w) t name p h is = absurd h
  value_fits (datum.more (datum.char c) w) t name p h is = absurd h
  value_fits (datum.more (datum.enumerated n) w) t name p h is = absurd h
  value_fits (datum.more (datum.text s) w) t name p h is = absurd h
  value_fits (datum.more (datum.array u) w) t name p h is = absurd h
  value_fits (datum.more (datum.set u) w) t name p h is = absurd h
  value_fits (datum.more (datum.bag u) w) t name p h is = absurd h
  value_fits (datum.more (datum.object q n) w) t name p h is = absurd h

  values_set : (w : Data) (t : DataType) (name : ℤ) (x : Datum) → ValuesOf us kinds w t → IsOf us kinds x t →
      ValuesOf us kinds (data_of (with_node name (node_of name x) (list_of w))) t
  values_set datum.none t name x h one = tt
  values_set (datum.more (datum.fields datum.none) w) t name x h one = absurd h
  values_set (datum.more (datum.fields (datum.more m datum.none)) w) t name x h one = absurd h
  values_set (datum.more (datum.fields (datum.more m (datum.more v (datum.more y z)))) w) t name x h one = absurd h
  values_set (datum.more (datum.fields (datum.more m (datum.more v datum.none))) w) t name x h one =
      by_name (is_named name (datum.fields (datum.more m (datum.more v datum.none)))) (values_set w t name x h.1 one)
    where
      by_name : (b : Bool) → ValuesOf us kinds (data_of (with_node name (node_of name x) (list_of w))) t →
          ValuesOf us kinds (data_of (if b then node_of name x ∷ list_of w else datum.fields (datum.more m (datum.more v datum.none)) ∷ with_node name (node_of name x) (list_of w))) t
      by_name true rest = (one, subst (λ d. ValuesOf us kinds d t) (sym (data_of-list_of w)) h.1)
      by_name false rest = (h.0, rest)
  values_set (datum.more (datum.int z) w) t name x h one = absurd h
  values_set (datum.more (datum.truth b) w) t name x h one = absurd h
  values_set (datum.more (datum.char c) w) t name x h one = absurd h
  values_set (datum.more (datum.enumerated n) w) t name x h one = absurd h
  values_set (datum.more (datum.text s) w) t name x h one = absurd h
  values_set (datum.more (datum.array u) w) t name x h one = absurd h
  values_set (datum.more (datum.set u) w) t name x h one = absurd h
  values_set (datum.more (datum.bag u) w) t name x h one = absurd h
  values_set (datum.more (datum.object p n) w) t name x h one = absurd h

  -- the nodes of a graph, by its fields
  node_found : (w : Data) (t : DataType) (name : ℤ) (p : Datum) → NodesOf us kinds w t → found (node_in name (datum.fields w)) ≡ Ok p → IsOf us kinds p t
  node_found datum.none t name p h is = absurd h
  node_found (datum.more next datum.none) t name p h is = absurd h
  node_found (datum.more next (datum.more (datum.set w) datum.none)) t name p h is = value_fits w t name p h is
  node_found (datum.more next (datum.more (datum.set w) (datum.more x y))) t name p h is = absurd h
  node_found (datum.more next (datum.more (datum.int z) w)) t name p h is = absurd h
  node_found (datum.more next (datum.more (datum.truth b) w)) t name p h is = absurd h
  node_found (datum.more next (datum.more (datum.char c) w)) t name p h is = absurd h
  node_found (datum.more next (datum.more (datum.enumerated n) w)) t name p h is = absurd h
  node_found (datum.more next (datum.more (datum.text s) w)) t name p h is = absurd h
  node_found (datum.more next (datum.more (datum.array u) w)) t name p h is = absurd h
  node_found (datum.more next (datum.more (datum.fields u) w)) t name p h is = absurd h
  node_found (datum.more next (datum.more (datum.bag u) w)) t name p h is = absurd h
  node_found (datum.more next (datum.more (datum.object q n) w)) t name p h is = absurd h

  nodes_set : (w : Data) (t : DataType) (name : ℤ) (x : Datum) → NodesOf us kinds w t → IsOf us kinds x t →
      ValuesOf us kinds (data_of (with_node name (node_of name x) (nodes_in (datum.fields w)))) t
  nodes_set datum.none t name x h one = absurd h
  nodes_set (datum.more next datum.none) t name x h one = absurd h
  nodes_set (datum.more next (datum.more (datum.set w) datum.none)) t name x h one = values_set w t name x h one
  nodes_set (datum.more next (datum.more (datum.set w) (datum.more y z))) t name x h one = absurd h
  nodes_set (datum.more next (datum.more (datum.int z) w)) t name x h one = absurd h
  nodes_set (datum.more next (datum.more (datum.truth b) w)) t name x h one = absurd h
  nodes_set (datum.more next (datum.more (datum.char c) w)) t name x h one = absurd h
  nodes_set (datum.more next (datum.more (datum.enumerated n) w)) t name x h one = absurd h
  nodes_set (datum.more next (datum.more (datum.text s) w)) t name x h one = absurd h
  nodes_set (datum.more next (datum.more (datum.array u) w)) t name x h one = absurd h
  nodes_set (datum.more next (datum.more (datum.fields u) w)) t name x h one = absurd h
  nodes_set (datum.more next (datum.more (datum.bag u) w)) t name x h one = absurd h
  nodes_set (datum.more next (datum.more (datum.object p n) w)) t name x h one = absurd h

  module _ (t : DataType) (e : outside_of t ≡ types.Within layer.Graph) where
    node_fits : (v p : Datum) (name : ℤ) → IsOf us kinds v t → part_to (Node name) v ≡ Ok p → IsOf us kinds p (inside_of t)
    node_fits (datum.fields w) p name h is = node_found w (inside_of t) name p (subst (λ o. OfBy o (inside_of t) (datum.fields w)) e h).2 is
    node_fits (datum.int z) p name h is = absurd (subst (λ o. OfBy o (inside_of t) (datum.int z)) e h).0
    node_fits (datum.truth b) p name h is = absurd (subst (λ o. OfBy o (inside_of t) (datum.truth b)) e h)
    node_fits (datum.char c) p name h is = absurd (subst (λ o. OfBy o (inside_of t) (datum.char c)) e h).0
    node_fits (datum.enumerated n) p name h is = absurd (subst (λ o. OfBy o (inside_of t) (datum.enumerated n)) e h)
    node_fits (datum.text s) p name h is = absurd (subst (λ o. OfBy o (inside_of t) (datum.text s)) e h).0
    node_fits (datum.array w) p name h is = absurd (subst (λ o. OfBy o (inside_of t) (datum.array w)) e h)
    node_fits (datum.set w) p name h is = absurd (subst (λ o. OfBy o (inside_of t) (datum.set w)) e h)
    node_fits (datum.bag w) p name h is = absurd (subst (λ o. OfBy o (inside_of t) (datum.bag w)) e h)
    node_fits (datum.object q n) p name h is = absurd (subst (λ o. OfBy o (inside_of t) (datum.object q n)) e h)

    with_node_fits : Assigning → (v p x : Datum) (name : ℤ) → IsOf us kinds v t → part_to (Node name) v ≡ Ok p → IsOf us kinds x (inside_of t) →
        IsOf us kinds (with_step (Node name) v x) t
    with_node_fits assigning (datum.fields w) p x name h is one =
        let g = subst (λ o. OfBy o (inside_of t) (datum.fields w)) e h in
        subst (λ o. OfBy o (inside_of t) (with_step (Node name) (datum.fields w) x)) (sym e)
        ((assigning name x (datum.fields w) _ g.0 (is_assigned name x (datum.fields w) p is)).0, g.1, nodes_set w (inside_of t) name x g.2 one)
    with_node_fits assigning (datum.int z) p x name h is one = absurd (subst (λ o. OfBy o (inside_of t) (datum.int z)) e h).0
    with_node_fits assigning (datum.truth b) p x name h is one = absurd (subst (λ o. OfBy o (inside_of t) (datum.truth b)) e h)
    with_node_fits assigning (datum.char c) p x name h is one = absurd (subst (λ o. OfBy o (inside_of t) (datum.char c)) e h).0
    with_node_fits assigning (datum.enumerated n) p x name h is one = absurd (subst (λ o. OfBy o (inside_of t) (datum.enumerated n)) e h)
    with_node_fits assigning (datum.text s) p x name h is one = absurd (subst (λ o. OfBy o (inside_of t) (datum.text s)) e h).0
    with_node_fits assigning (datum.array w) p x name h is one = absurd (subst (λ o. OfBy o (inside_of t) (datum.array w)) e h)
    with_node_fits assigning (datum.set w) p x name h is one = absurd (subst (λ o. OfBy o (inside_of t) (datum.set w)) e h)
    with_node_fits assigning (datum.bag w) p x name h is one = absurd (subst (λ o. OfBy o (inside_of t) (datum.bag w)) e h)
    with_node_fits assigning (datum.object q n) p x name h is one = absurd (subst (λ o. OfBy o (inside_of t) (datum.object q n)) e h)

pub parts_fit : Assigning → (us : List Source) → PartsFit us
parts_fit assigning us kinds t v h = record {
  elements = λ low high index e. record {
    part = λ p is. element_fits us kinds t low high e v p index h is;
    put = λ p x is one. with_element_fits us kinds t low high e v x index h one;
  };
  fields = λ i k u e at. record {
    part = λ p is. field_fits us kinds t i e v p k u at h is;
    put = λ p x is one. with_field_fits us kinds t i e v x k u at h one;
  };
  nodes = λ name e. record {
    part = λ p is. node_fits us kinds t e v p name h is;
    put = λ p x is one. with_node_fits us kinds t e assigning v p x name h is one;
  };
}
