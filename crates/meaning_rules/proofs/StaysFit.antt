-- What fits goes on fitting as more objects come to be.
use Rattle.std.specs.Prelude.{ℕ, zero, suc, List, [], ◌∷◌, slice_get, Option, Some, None}
use Rattle.orca_base.specs.declared.ids.KindNo.{KindNo}
use Rattle.orca_base.specs.declared.ids.OpNo.{OpNo}
use Rattle.orca_base.specs.declared.ids.TextNo.{TextNo}
use Rattle.orca_syntax.specs.Syntax.{Operation}
use Rattle.link_rules.specs.Units.{Source}
use Rattle.type_rules.specs.declared.types.DataType.{DataType}
use Rattle.type_rules.specs.declared.types.Base.TheVariants as base
use Rattle.type_rules.specs.declared.types.Layer.TheVariants as layer
use Rattle.type_rules.specs.Types as types
use Rattle.type_rules.specs.Types.{Outside, outside_of, inside_of}
use Rattle.type_rules.specs.TopLevel as top
use Rattle.type_rules.specs.TopLevel.{What, TopName}
use Rattle.type_rules.specs.Scopes.{Local}
use Rattle.value_core.specs.Datum.{Datum, Data, list_of}
use Rattle.value_core.specs.Datum as datum
use Rattle.value_core.specs.Fits.{Kinds, ExtendsKinds}
use Rattle.meaning_rules.specs.Openings.{field_types}
use Rattle.meaning_rules.specs.Programs.{ObjectType, object_type, process_texts}
use Rattle.meaning_rules.specs.Fitting.{IsArray, IsSet, IsBag, IsRecord, IsObject, IsOf, AllOf, AreOf, NodesOf, ValuesOf, Fits, AreFitting, AreArguments, FitsType, FitsState, FitsParameters, FitsOperation, FitsArgsOf, FitsArgs, FitsWhat, FitsTop, FitsText}

pub array_more : (o : Outside) (count : ℕ) (P Q : Type 0) → (P → Q) → IsArray o count P → IsArray o count Q
array_more (types.Bare base.Integer) count P Q f h = absurd h
array_more (types.Bare base.Boolean) count P Q f h = absurd h
array_more (types.Bare base.Character) count P Q f h = absurd h
array_more (types.Bare base.String) count P Q f h = absurd h
array_more (types.Bare base.NodeName) count P Q f h = absurd h
array_more (types.Bare (base.Enumeration j)) count P Q f h = absurd h
array_more (types.Bare (base.Record j)) count P Q f h = absurd h
array_more (types.Bare (base.Object j)) count P Q f h = absurd h
array_more (types.Within (layer.Array low high)) count P Q f h = (h.0, f h.1)
array_more (types.Within layer.Set) count P Q f h = absurd h
array_more (types.Within layer.Bag) count P Q f h = absurd h
array_more (types.Within layer.Graph) count P Q f h = absurd h

pub set_more : (o : Outside) (P Q : Type 0) → (P → Q) → IsSet o P → IsSet o Q
set_more (types.Bare base.Integer) P Q f h = absurd h
set_more (types.Bare base.Boolean) P Q f h = absurd h
set_more (types.Bare base.Character) P Q f h = absurd h
set_more (types.Bare base.String) P Q f h = absurd h
set_more (types.Bare base.NodeName) P Q f h = absurd h
set_more (types.Bare (base.Enumeration j)) P Q f h = absurd h
set_more (types.Bare (base.Record j)) P Q f h = absurd h
set_more (types.Bare (base.Object j)) P Q f h = absurd h
set_more (types.Within (layer.Array low high)) P Q f h = absurd h
set_more (types.Within layer.Set) P Q f h = f h
set_more (types.Within layer.Bag) P Q f h = absurd h
set_more (types.Within layer.Graph) P Q f h = absurd h

pub bag_more : (o : Outside) (P Q : Type 0) → (P → Q) → IsBag o P → IsBag o Q
bag_more (types.Bare base.Integer) P Q f h = absurd h
bag_more (types.Bare base.Boolean) P Q f h = absurd h
bag_more (types.Bare base.Character) P Q f h = absurd h
bag_more (types.Bare base.String) P Q f h = absurd h
bag_more (types.Bare base.NodeName) P Q f h = absurd h
bag_more (types.Bare (base.Enumeration j)) P Q f h = absurd h
bag_more (types.Bare (base.Record j)) P Q f h = absurd h
bag_more (types.Bare (base.Object j)) P Q f h = absurd h
bag_more (types.Within (layer.Array low high)) P Q f h = absurd h
bag_more (types.Within layer.Set) P Q f h = absurd h
bag_more (types.Within layer.Bag) P Q f h = f h
bag_more (types.Within layer.Graph) P Q f h = absurd h

record_more : (o : Outside) (P Q : ℕ → Type 0) (G H : Type 0) → ((i : ℕ) → P i → Q i) → (G → H) → IsRecord o P G → IsRecord o Q H
record_more (types.Bare base.Integer) P Q G H f g h = absurd h
record_more (types.Bare base.Boolean) P Q G H f g h = absurd h
record_more (types.Bare base.Character) P Q G H f g h = absurd h
record_more (types.Bare base.String) P Q G H f g h = absurd h
record_more (types.Bare base.NodeName) P Q G H f g h = absurd h
record_more (types.Bare (base.Enumeration j)) P Q G H f g h = absurd h
record_more (types.Bare (base.Record j)) P Q G H f g h = f j h
record_more (types.Bare (base.Object j)) P Q G H f g h = absurd h
record_more (types.Within (layer.Array low high)) P Q G H f g h = absurd h
record_more (types.Within layer.Set) P Q G H f g h = absurd h
record_more (types.Within layer.Bag) P Q G H f g h = absurd h
record_more (types.Within layer.Graph) P Q G H f g h = g h

module _ (us : List Source) (kinds more : Kinds) (extends : ExtendsKinds kinds more) where
  object_more : (o : Outside) (process number : ℕ) → IsObject us kinds o process number → IsObject us more o process number
  object_more (types.Bare base.Integer) process number h = absurd h
  object_more (types.Bare base.Boolean) process number h = absurd h
  object_more (types.Bare base.Character) process number h = absurd h
  object_more (types.Bare base.String) process number h = absurd h
  object_more (types.Bare base.NodeName) process number h = absurd h
  object_more (types.Bare (base.Enumeration j)) process number h = absurd h
  object_more (types.Bare (base.Record j)) process number h = absurd h
  object_more (types.Bare (base.Object j)) process number h = extends _ h
  object_more (types.Within (layer.Array low high)) process number h = absurd h
  object_more (types.Within layer.Set) process number h = absurd h
  object_more (types.Within layer.Bag) process number h = absurd h
  object_more (types.Within layer.Graph) process number h = absurd h

  mutual
    of_more : (v : Datum) (t : DataType) → IsOf us kinds v t → IsOf us more v t
    of_more (datum.int z) t h = h
    of_more (datum.truth b) t h = h
    of_more (datum.char c) t h = h
    of_more (datum.enumerated n) t h = h
    of_more (datum.text s) t h = h
    of_more (datum.array w) t h = array_more (outside_of t) _ _ _ (all_more w (inside_of t)) h
    of_more (datum.fields w) t h =
        record_more (outside_of t) _ _ _ _ (λ i. are_more w (field_types us i)) (λ g. (g.0, g.1, nodes_more w (inside_of t) g.2)) h
    of_more (datum.set w) t h = set_more (outside_of t) _ _ (λ x. (x.0, all_more w (inside_of t) x.1)) h
    of_more (datum.bag w) t h = bag_more (outside_of t) _ _ (λ x. (x.0, all_more w (inside_of t) x.1)) h
    of_more (datum.object process number) t h = object_more (outside_of t) process number h

    all_more : (w : Data) (t : DataType) → AllOf us kinds w t → AllOf us more w t
    all_more datum.none t h = tt
    all_more (datum.more v w) t h = (of_more v t h.0, all_more w t h.1)

    are_more : (w : Data) (ts : List (Option DataType)) → AreOf us kinds w ts → AreOf us more w ts
    are_more datum.none [] h = tt
    are_more datum.none (t ∷ ts) h = absurd h
    are_more (datum.more v w) [] h = absurd h
    are_more (datum.more v w) (None ∷ ts) h = absurd h
    are_more (datum.more v w) (Some t ∷ ts) h = (of_more v t h.0, are_more w ts h.1)

    nodes_more : (w : Data) (t : DataType) → NodesOf us kinds w t → NodesOf us more w t
    nodes_more datum.none t h = absurd h
    nodes_more (datum.more next datum.none) t h = absurd h
    nodes_more (datum.more next (datum.more (datum.set w) datum.none)) t h = values_more w t h
    nodes_more (datum.more next (datum.more (datum.set w) (datum.more x y))) t h = absurd h
    nodes_more (datum.more next (datum.more (datum.int z) w)) t h = absurd h
    nodes_more (datum.more next (datum.more (datum.truth b) w)) t h = absurd h
    nodes_more (datum.more next (datum.more (datum.char c) w)) t h = absurd h
    nodes_more (datum.more next (datum.more (datum.enumerated n) w)) t h = absurd h
    nodes_more (datum.more next (datum.more (datum.text s) w)) t h = absurd h
    nodes_more (datum.more next (datum.more (datum.array u) w)) t h = absurd h
    nodes_more (datum.more next (datum.more (datum.fields u) w)) t h = absurd h
    nodes_more (datum.more next (datum.more (datum.bag u) w)) t h = absurd h
    nodes_more (datum.more next (datum.more (datum.object p n) w)) t h = absurd h

    values_more : (w : Data) (t : DataType) → ValuesOf us kinds w t → ValuesOf us more w t
    values_more datum.none t h = tt
    values_more (datum.more (datum.fields datum.none) w) t h = absurd h
    values_more (datum.more (datum.fields (datum.more name datum.none)) w) t h = absurd h
    values_more (datum.more (datum.fields (datum.more name (datum.more v datum.none))) w) t h = (of_more v t h.0, values_more w t h.1)
    values_more (datum.more (datum.fields (datum.more name (datum.more v (datum.more x y)))) w) t h = absurd h
    values_more (datum.more (datum.int z) w) t h = absurd h
    values_more (datum.more (datum.truth b) w) t h = absurd h
    values_more (datum.more (datum.char c) w) t h = absurd h
    values_more (datum.more (datum.enumerated n) w) t h = absurd h
    values_more (datum.more (datum.text s) w) t h = absurd h
    values_more (datum.more (datum.array u) w) t h = absurd h
    values_more (datum.more (datum.set u) w) t h = absurd h
    values_more (datum.more (datum.bag u) w) t h = absurd h
    values_more (datum.more (datum.object p n) w) t h = absurd h

  pub fits_more : (v : Datum) (t : Option DataType) → Fits us kinds v t → Fits us more v t
  fits_more v None h = absurd h
  fits_more v (Some t) h = (of_more v t h.0, h.1)

  pub fitting_more : (vs : List Datum) (ls : List Local) → AreFitting us kinds vs ls → AreFitting us more vs ls
  fitting_more [] [] h = tt
  fitting_more [] (l ∷ ls) h = absurd h
  fitting_more (v ∷ vs) [] h = absurd h
  fitting_more (v ∷ vs) (l ∷ ls) h = (fits_more v l.type h.0, fitting_more vs ls h.1)

  arguments_more : (args : Data) (ls : List Local) → AreArguments us kinds args ls → AreArguments us more args ls
  arguments_more args ls h = (fitting_more (list_of args) ls h.0, h.1, h.2)

  type_more : (state : Data) (t : Option ObjectType) → FitsType us kinds state t → FitsType us more state t
  type_more state None h = h
  type_more state (Some t) h = fitting_more (list_of state) _ h

  pub state_more : (kind : KindNo) (state : Data) → FitsState us kinds kind state → FitsState us more kind state
  state_more kind state h = type_more state (object_type us kind) h

  parameters_more : (t : ObjectType) (args : Data) (o : Option Operation) → FitsParameters us kinds t args o → FitsParameters us more t args o
  parameters_more t args None h = absurd h
  parameters_more t args (Some o) h = arguments_more args _ h

  operation_more : (op : OpNo) (args : Data) (t : Option ObjectType) → FitsOperation us kinds op args t → FitsOperation us more op args t
  operation_more op args None h = absurd h
  operation_more op args (Some t) h = parameters_more t args (slice_get t.operations op.0) h

  args_of_more : (k : ℕ) (kind : KindNo) (op : OpNo) (args : Data) → FitsArgsOf us kinds k kind op args → FitsArgsOf us more k kind op args
  args_of_more zero kind op args h = h
  args_of_more (suc k) kind op args h = operation_more op args (object_type us kind) h

  pub args_more : (kind : KindNo) (op : OpNo) (args : Data) → FitsArgs us kinds kind op args → FitsArgs us more kind op args
  args_more kind op args h = args_of_more kind.0 kind op args h

  what_more : (args : Data) (t : TopName) (what : What) → FitsWhat us kinds args t what → FitsWhat us more args t what
  what_more args t (top.Process ps b) h = arguments_more args _ h
  what_more args t (top.Constant b) h = absurd h
  what_more args t (top.TypeName of) h = absurd h
  what_more args t (top.Value of number) h = absurd h
  what_more args t (top.Specified heads) h = absurd h
  what_more args t (top.Implemented os) h = absurd h
  what_more args t (top.Function ps r b) h = absurd h

  top_more : (args : Data) (o : Option TopName) → FitsTop us kinds args o → FitsTop us more args o
  top_more args None h = absurd h
  top_more args (Some t) h = what_more args t t.what h

  pub text_more : (text : TextNo) (args : Data) → FitsText us kinds text args → FitsText us more text args
  text_more text args h = top_more args (slice_get (process_texts us) text.0) h
