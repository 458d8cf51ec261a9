-- A value of a type in which no object is fits whatever objects there are.
use Rattle.std.proofs.Common.{refl, ap, sym, subst}
use Rattle.std.specs.Prelude.{◌≡◌, ℕ, zero, suc, false, is_some, List, [], ◌∷◌, slice_get, Option, Some, None}
use Rattle.link_rules.specs.Units.{Source}
use Rattle.type_rules.specs.declared.types.DataType.{DataType}
use Rattle.type_rules.specs.declared.types.Base.TheVariants as base
use Rattle.type_rules.specs.declared.types.Layer.TheVariants as layer
use Rattle.type_rules.specs.Types as types
use Rattle.type_rules.specs.Types.{Outside, outside_of, inside_of, is_object, object_in}
use Rattle.value_core.specs.Datum.{Datum, Data}
use Rattle.value_core.specs.Datum as datum
use Rattle.value_core.specs.Fits.{Kinds}
use Rattle.meaning_rules.specs.Openings.{field_types}
use Rattle.meaning_rules.specs.Fitting.{IsRecord, IsObject, IsOf, AllOf, AreOf, NodesOf, ValuesOf, Fits}
use Rattle.meaning_rules.specs.Accepted.{TypeStep, Inside, ToField, Holds, IsOfData}
use Rattle.meaning_rules.proofs.StaysFit.{array_more, set_more, bag_more}

-- nothing within is of an object type
abbrev pub Objectless : List Source → DataType → Type 0
Objectless us t = (path : List TypeStep) (u : DataType) → Holds us path t u → is_object u ≡ false

pub inside_objectless : (us : List Source) (t : DataType) → Objectless us t → Objectless us (inside_of t)
inside_objectless us t h path u holds = h (Inside ∷ path) u holds

pub field_objectless : (us : List Source) (t u : DataType) (i place : ℕ) → outside_of t ≡ types.Bare (base.Record i) → slice_get (field_types us i) place ≡ Some (Some u) →
    Objectless us t → Objectless us u
field_objectless us t u i place e at h path w holds = h (ToField place ∷ path) w (i, u, e, at, holds)

module _ (us : List Source) (kinds more : Kinds) where
  object_without : (o : Outside) (process number : ℕ) → is_some (object_in o) ≡ false → IsObject us kinds o process number → IsObject us more o process number
  object_without (types.Bare (base.Object j)) process number none h = absurd cc
  object_without (types.Bare base.Integer) process number none h = absurd h
  object_without (types.Bare base.Boolean) process number none h = absurd h
  object_without (types.Bare base.Character) process number none h = absurd h
  object_without (types.Bare base.String) process number none h = absurd h
  object_without (types.Bare base.NodeName) process number none h = absurd h
  object_without (types.Bare (base.Enumeration j)) process number none h = absurd h
  object_without (types.Bare (base.Record j)) process number none h = absurd h
  object_without (types.Within (layer.Array low high)) process number none h = absurd h
  object_without (types.Within layer.Set) process number none h = absurd h
  object_without (types.Within layer.Bag) process number none h = absurd h
  object_without (types.Within layer.Graph) process number none h = absurd h

  record_without : (o : Outside) (P Q : ℕ → Type 0) (G H : Type 0) → ((i : ℕ) → o ≡ types.Bare (base.Record i) → P i → Q i) → (G → H) → IsRecord o P G → IsRecord o Q H
  record_without (types.Bare (base.Record j)) P Q G H f g h = f j refl h
  record_without (types.Within layer.Graph) P Q G H f g h = g h
  record_without (types.Bare base.Integer) P Q G H f g h = absurd h
  record_without (types.Bare base.Boolean) P Q G H f g h = absurd h
  record_without (types.Bare base.Character) P Q G H f g h = absurd h
  record_without (types.Bare base.String) P Q G H f g h = absurd h
  record_without (types.Bare base.NodeName) P Q G H f g h = absurd h
  record_without (types.Bare (base.Enumeration j)) P Q G H f g h = absurd h
  record_without (types.Bare (base.Object j)) P Q G H f g h = absurd h
  record_without (types.Within (layer.Array low high)) P Q G H f g h = absurd h
  record_without (types.Within layer.Set) P Q G H f g h = absurd h
  record_without (types.Within layer.Bag) P Q G H f g h = absurd h

  mutual
    of_without : (v : Datum) (t : DataType) → Objectless us t → IsOf us kinds v t → IsOf us more v t
    of_without (datum.int z) t none h = h
    of_without (datum.truth b) t none h = h
    of_without (datum.char c) t none h = h
    of_without (datum.enumerated n) t none h = h
    of_without (datum.text s) t none h = h
    of_without (datum.array w) t none h = array_more (outside_of t) _ _ _ (all_without w (inside_of t) (inside_objectless us t none)) h
    of_without (datum.fields w) t none h =
        record_without (outside_of t) _ _ _ _ (λ i e. are_without w (field_types us i) (λ place u at. field_objectless us t u i place e at none))
        (λ g. (g.0, g.1, nodes_without w (inside_of t) (inside_objectless us t none) g.2)) h
    of_without (datum.set w) t none h = set_more (outside_of t) _ _ (λ x. (x.0, all_without w (inside_of t) (inside_objectless us t none) x.1)) h
    of_without (datum.bag w) t none h = bag_more (outside_of t) _ _ (λ x. (x.0, all_without w (inside_of t) (inside_objectless us t none) x.1)) h
    of_without (datum.object process number) t none h = object_without (outside_of t) process number (none [] t refl) h

    all_without : (w : Data) (t : DataType) → Objectless us t → AllOf us kinds w t → AllOf us more w t
    all_without datum.none t none h = tt
    all_without (datum.more v w) t none h = (of_without v t none h.0, all_without w t none h.1)

    are_without : (w : Data) (ts : List (Option DataType)) → ((place : ℕ) (u : DataType) → slice_get ts place ≡ Some (Some u) → Objectless us u) → AreOf us kinds w ts → AreOf us more w ts
    are_without datum.none [] none h = tt
    are_without datum.none (t ∷ ts) none h = absurd h
    are_without (datum.more v w) [] none h = absurd h
    are_without (datum.more v w) (None ∷ ts) none h = absurd h
    are_without (datum.more v w) (Some t ∷ ts) none h =
        (of_without v t (none zero t refl) h.0, are_without w ts (λ place u at. none (suc place) u at) h.1)

    nodes_without : (w : Data) (t : DataType) → Objectless us t → NodesOf us kinds w t → NodesOf us more w t
    nodes_without datum.none t none h = absurd h
    nodes_without (datum.more next datum.none) t none h = absurd h
    nodes_without (datum.more next (datum.more (datum.set w) datum.none)) t none h = values_without w t none h
    nodes_without (datum.more next (datum.more (datum.set w) (datum.more x y))) t none h = absurd h
    nodes_without (datum.more next (datum.more (datum.int z) w)) t none h = absurd h
    nodes_without (datum.more next (datum.more (datum.truth b) w)) t none h = absurd h
    nodes_without (datum.more next (datum.more (datum.char c) w)) t none h = absurd h
    nodes_without (datum.more next (datum.more (datum.enumerated n) w)) t none h = absurd h
    nodes_without (datum.more next (datum.more (datum.text s) w)) t none h = absurd h
    nodes_without (datum.more next (datum.more (datum.array u) w)) t none h = absurd h
    nodes_without (datum.more next (datum.more (datum.fields u) w)) t none h = absurd h
    nodes_without (datum.more next (datum.more (datum.bag u) w)) t none h = absurd h
    nodes_without (datum.more next (datum.more (datum.object p n) w)) t none h = absurd h

    values_without : (w : Data) (t : DataType) → Objectless us t → ValuesOf us kinds w t → ValuesOf us more w t
    values_without datum.none t none h = tt
    values_without (datum.more (datum.fields datum.none) w) t none h = absurd h
    values_without (datum.more (datum.fields (datum.more name datum.none)) w) t none h = absurd h
    values_without (datum.more (datum.fields (datum.more name (datum.more v datum.none))) w) t none h = (of_without v t none h.0, values_without w t none h.1)
    values_without (datum.more (datum.fields (datum.more name (datum.more v (datum.more x y)))) w) t none h = absurd h
    values_without (datum.more (datum.int z) w) t none h = absurd h
    values_without (datum.more (datum.truth b) w) t none h = absurd h
    values_without (datum.more (datum.char c) w) t none h = absurd h
    values_without (datum.more (datum.enumerated n) w) t none h = absurd h
    values_without (datum.more (datum.text s) w) t none h = absurd h
    values_without (datum.more (datum.array u) w) t none h = absurd h
    values_without (datum.more (datum.set u) w) t none h = absurd h
    values_without (datum.more (datum.bag u) w) t none h = absurd h
    values_without (datum.more (datum.object p n) w) t none h = absurd h

  pub fits_without : (v : Datum) (o : Option DataType) → IsOfData us o → Fits us kinds v o → Fits us more v o
  fits_without v None data_type h = absurd h
  fits_without v (Some t) data_type h =
      let same = data_type.1 in
      (of_without v t (subst (Objectless us) (ap (given t) (sym same)) data_type.2.objectless) h.0, h.1)
    where
      given : DataType → Option DataType → DataType
      given t None = t
      given t (Some u) = u
