-- A value that fits a type of data is sound.
use Rattle.std.proofs.Common.{refl, ap, sym, subst, arith}
use Rattle.std.specs.Prelude.{◌≡◌, ◌≤◌, ◌+◌, ℕ, zero, suc, true, false, is_some, List, [], ◌∷◌, length, slice_get, Option, Some, None}
use Rattle.std.specs.List.{All, AllByRecursion}
use Rattle.std.proofs.lemmas.List.Elements.{All-from_recursion}
use Rattle.orca_base.specs.declared.ids.KindNo.{KindNo}
use Rattle.orca_base.specs.declared.ids.OpNo.{OpNo}
use Rattle.orca_base.specs.declared.ids.TextNo.{TextNo}
use Rattle.orca_base.specs.declared.limits.TheConstants.{VALUE_NESTING, VALUE_SIZE}
use Rattle.orca_syntax.specs.Syntax.{Operation}
use Rattle.link_rules.specs.Units.{Source}
use Rattle.type_rules.specs.declared.types.DataType.{DataType}
use Rattle.type_rules.specs.declared.types.Base.TheVariants as base
use Rattle.type_rules.specs.declared.types.Layer.TheVariants as layer
use Rattle.type_rules.specs.Types as types
use Rattle.type_rules.specs.Types.{Outside, outside_of, inside_of, is_object, object_in}
use Rattle.type_rules.specs.TopLevel as top
use Rattle.type_rules.specs.TopLevel.{What, TopName}
use Rattle.type_rules.specs.Scopes.{Local}
use Rattle.type_rules.specs.Declarations.{field_locals}
use Rattle.value_core.specs.Datum.{Datum, Data, list_of, data_of}
use Rattle.value_core.specs.Datum as datum
use Rattle.value_core.specs.Fits.{AreNumbered, Kinds}
use Rattle.value_core.specs.Integers.{IsWord}
use Rattle.value_core.specs.Size.{size_of, size_of_all}
use Rattle.value_core.specs.Sound.{AreSound, AreSoundArguments, AreWellFormed, IsCode, IsShort, IsSound, IsSoundReply, IsWellFormed, nesting, nesting_of_all}
use Rattle.value_core.specs.View.{datum_of}
use Rattle.value_core.specs.declared.action.Reply.{Reply}
use Rattle.value_core.specs.declared.action.Reply.TheVariants as reply
use Rattle.graph_values.specs.Graphs.{IsGraph, name_in, nodes_in}
use Rattle.graph_values.specs.SoundNodes.{IsSoundNode}
use Rattle.meaning_rules.specs.Openings.{field_types}
use Rattle.meaning_rules.specs.Programs.{ObjectType, object_type, process_scope, process_texts, result_in}
use Rattle.meaning_rules.specs.Fitting.{IsArray, IsSet, IsBag, IsRecord, IsObject, IsOf, AllOf, AreOf, NodesOf, ValuesOf, Fits, AreFitting, AreArguments, FitsState, FitsType, FitsArgs, FitsArgsOf, FitsOperation, FitsParameters, FitsText, FitsTop, FitsWhat, FitsReply, FitsReplyOf, FitsResultOf, FitsResult}
use Rattle.meaning_rules.specs.Accepted.{IsData, IsOfData, IsKnownResult, IsOpening, IsAccepted}
use Rattle.meaning_rules.specs.FitsSound.{FitsSound}
use Rattle.meaning_rules.proofs.Objectless.{Objectless, inside_objectless, field_objectless}
use Rattle.meaning_rules.proofs.FittingBodies.{fitting_length}
use Rattle.meaning_rules.proofs.FittingProcesses.{all_take, is_object_outside, object_of_type}
use Rattle.meaning_rules.proofs.PartSizes.{length_size}
use Rattle.meaning_rules.proofs.Valued.{named_less}

-- ---- what the outside of a type says

array_parts : (o : Outside) (n : ℕ) (P : Type 0) → IsArray o n P → P
array_parts (types.Within (layer.Array low high)) n P h = h.1
array_parts (types.Within layer.Set) n P h = absurd h
array_parts (types.Within layer.Bag) n P h = absurd h
array_parts (types.Within layer.Graph) n P h = absurd h
array_parts (types.Bare base.Integer) n P h = absurd h
array_parts (types.Bare base.Boolean) n P h = absurd h
array_parts (types.Bare base.Character) n P h = absurd h
array_parts (types.Bare base.String) n P h = absurd h
array_parts (types.Bare base.NodeName) n P h = absurd h
array_parts (types.Bare (base.Enumeration j)) n P h = absurd h
array_parts (types.Bare (base.Record j)) n P h = absurd h
array_parts (types.Bare (base.Object j)) n P h = absurd h

set_parts : (o : Outside) (P : Type 0) → IsSet o P → P
set_parts (types.Within layer.Set) P h = h
set_parts (types.Within (layer.Array low high)) P h = absurd h
set_parts (types.Within layer.Bag) P h = absurd h
set_parts (types.Within layer.Graph) P h = absurd h
set_parts (types.Bare base.Integer) P h = absurd h
set_parts (types.Bare base.Boolean) P h = absurd h
set_parts (types.Bare base.Character) P h = absurd h
set_parts (types.Bare base.String) P h = absurd h
set_parts (types.Bare base.NodeName) P h = absurd h
set_parts (types.Bare (base.Enumeration j)) P h = absurd h
set_parts (types.Bare (base.Record j)) P h = absurd h
set_parts (types.Bare (base.Object j)) P h = absurd h

bag_parts : (o : Outside) (P : Type 0) → IsBag o P → P
bag_parts (types.Within layer.Bag) P h = h
bag_parts (types.Within (layer.Array low high)) P h = absurd h
bag_parts (types.Within layer.Set) P h = absurd h
bag_parts (types.Within layer.Graph) P h = absurd h
bag_parts (types.Bare base.Integer) P h = absurd h
bag_parts (types.Bare base.Boolean) P h = absurd h
bag_parts (types.Bare base.Character) P h = absurd h
bag_parts (types.Bare base.String) P h = absurd h
bag_parts (types.Bare base.NodeName) P h = absurd h
bag_parts (types.Bare (base.Enumeration j)) P h = absurd h
bag_parts (types.Bare (base.Record j)) P h = absurd h
bag_parts (types.Bare (base.Object j)) P h = absurd h

record_parts : (o : Outside) (P : ℕ → Type 0) (G Q : Type 0) → IsRecord o P G → ((i : ℕ) → o ≡ types.Bare (base.Record i) → P i → Q) → (G → Q) → Q
record_parts (types.Bare (base.Record i)) P G Q h f g = f i refl h
record_parts (types.Within layer.Graph) P G Q h f g = g h
record_parts (types.Within (layer.Array low high)) P G Q h f g = absurd h
record_parts (types.Within layer.Set) P G Q h f g = absurd h
record_parts (types.Within layer.Bag) P G Q h f g = absurd h
record_parts (types.Bare base.Integer) P G Q h f g = absurd h
record_parts (types.Bare base.Boolean) P G Q h f g = absurd h
record_parts (types.Bare base.Character) P G Q h f g = absurd h
record_parts (types.Bare base.String) P G Q h f g = absurd h
record_parts (types.Bare base.NodeName) P G Q h f g = absurd h
record_parts (types.Bare (base.Enumeration j)) P G Q h f g = absurd h
record_parts (types.Bare (base.Object j)) P G Q h f g = absurd h

object_parts : (us : List Source) (kinds : Kinds) (o : Outside) (p n : ℕ) → IsObject us kinds o p n → is_some (object_in o) ≡ false → ⊥
object_parts us kinds (types.Bare (base.Object i)) p n h none = absurd cc
object_parts us kinds (types.Within (layer.Array low high)) p n h none = h
object_parts us kinds (types.Within layer.Set) p n h none = h
object_parts us kinds (types.Within layer.Bag) p n h none = h
object_parts us kinds (types.Within layer.Graph) p n h none = h
object_parts us kinds (types.Bare base.Integer) p n h none = h
object_parts us kinds (types.Bare base.Boolean) p n h none = h
object_parts us kinds (types.Bare base.Character) p n h none = h
object_parts us kinds (types.Bare base.String) p n h none = h
object_parts us kinds (types.Bare base.NodeName) p n h none = h
object_parts us kinds (types.Bare (base.Enumeration j)) p n h none = h
object_parts us kinds (types.Bare (base.Record j)) p n h none = h

-- a graph is sound where its values are
pub record SoundGraphs : Type 0 where
  pub sound : (g : Datum) → IsGraph g → IsWord (name_in g) → All IsSoundNode (nodes_in g) → IsShort (nodes_in g) → IsSound g

short_of : (w : Data) → size_of_all w ≤ VALUE_SIZE → IsShort (list_of w)
short_of w less = let few = length_size w in omega (arith, few, less)

module _ (us : List Source) (kinds : Kinds) (facts : IsAccepted us) (graphs : SoundGraphs) where
  mutual
    formed : (v : Datum) (t : DataType) → Objectless us t → IsOf us kinds v t → size_of v ≤ VALUE_SIZE → nesting v ≤ VALUE_NESTING → IsWellFormed v
    formed (datum.int z) t none h small shallow = h.1
    formed (datum.truth b) t none h small shallow = tt
    formed (datum.char c) t none h small shallow = h.1
    formed (datum.enumerated n) t none h small shallow =
        let less = named_less us (outside_of t) n h in
        let few = facts.few (outside_of t) in
        omega (arith, less, few)
    formed (datum.text s) t none h small shallow = (h.1, omega (arith, small))
    formed (datum.array w) t none h small shallow = (
      all_formed w (inside_of t) (inside_objectless us t none) (array_parts (outside_of t) _ _ h) (omega (arith, small)) (omega (arith, shallow)),
      short_of w (omega (arith, small)),
    )
    formed (datum.fields w) t none h small shallow =
        record_parts (outside_of t) _ _ (IsWellFormed (datum.fields w)) h
        (λ i e are. (
          are_formed w (field_types us i) (λ place u at. field_objectless us t u i place e at none) are (omega (arith, small)) (omega (arith, shallow)),
          short_of w (omega (arith, small)),
        ))
        (λ g. graph_formed w (inside_of t) (inside_objectless us t none) g.0 g.1 g.2 (omega (arith, small)) (omega (arith, shallow)))
    formed (datum.set w) t none h small shallow =
        let own = set_parts (outside_of t) _ h in
        (all_formed w (inside_of t) (inside_objectless us t none) own.1 (omega (arith, small)) (omega (arith, shallow)), short_of w (omega (arith, small)), own.0)
    formed (datum.bag w) t none h small shallow =
        let own = bag_parts (outside_of t) _ h in
        (all_formed w (inside_of t) (inside_objectless us t none) own.1 (omega (arith, small)) (omega (arith, shallow)), short_of w (omega (arith, small)), own.0)
    formed (datum.object p n) t none h small shallow = absurd (object_parts us kinds (outside_of t) p n h (none [] t refl))

    all_formed : (w : Data) (t : DataType) → Objectless us t → AllOf us kinds w t → size_of_all w + 1 ≤ VALUE_SIZE → nesting_of_all w + 1 ≤ VALUE_NESTING → AreWellFormed w
    all_formed datum.none t none h small shallow = tt
    all_formed (datum.more v w) t none h small shallow =
        (formed v t none h.0 (omega (arith, small)) (omega (arith, shallow)), all_formed w t none h.1 (omega (arith, small)) (omega (arith, shallow)))

    are_formed : (w : Data) (ts : List (Option DataType)) → ((place : ℕ) (u : DataType) → slice_get ts place ≡ Some (Some u) → Objectless us u) → AreOf us kinds w ts →
        size_of_all w + 1 ≤ VALUE_SIZE → nesting_of_all w + 1 ≤ VALUE_NESTING → AreWellFormed w
    are_formed datum.none ts none h small shallow = tt
    are_formed (datum.more v w) [] none h small shallow = absurd h
    are_formed (datum.more v w) (None ∷ ts) none h small shallow = absurd h
    are_formed (datum.more v w) (Some t ∷ ts) none h small shallow = (
      formed v t (none zero t refl) h.0 (omega (arith, small)) (omega (arith, shallow)),
      are_formed w ts (λ place u at. none (suc place) u at) h.1 (omega (arith, small)) (omega (arith, shallow)),
    )

    graph_formed : (w : Data) (t : DataType) → Objectless us t → IsGraph (datum.fields w) → IsWord (name_in (datum.fields w)) → NodesOf us kinds w t →
        size_of_all w + 1 ≤ VALUE_SIZE → nesting_of_all w + 1 ≤ VALUE_NESTING → IsWellFormed (datum.fields w)
    graph_formed datum.none t none graph word h small shallow = absurd h
    graph_formed (datum.more next datum.none) t none graph word h small shallow = absurd h
    graph_formed (datum.more next (datum.more (datum.set w) datum.none)) t none graph word h small shallow =
        (graphs.sound (datum.fields (datum.more next (datum.more (datum.set w) datum.none))) graph word
        (All-from_recursion IsSoundNode (list_of w) (nodes_formed w t none h (omega (arith, small)) (omega (arith, shallow)))) (short_of w (omega (arith, small)))).well_formed
    graph_formed (datum.more next (datum.more (datum.set w) (datum.more x y))) t none graph word h small shallow = absurd h
    graph_formed (datum.more next (datum.more (datum.int z) w)) t none graph word h small shallow = absurd h
    graph_formed (datum.more next (datum.more (datum.truth b) w)) t none graph word h small shallow = absurd h
    graph_formed (datum.more next (datum.more (datum.char c) w)) t none graph word h small shallow = absurd h
    graph_formed (datum.more next (datum.more (datum.enumerated n) w)) t none graph word h small shallow = absurd h
    graph_formed (datum.more next (datum.more (datum.text s) w)) t none graph word h small shallow = absurd h
    graph_formed (datum.more next (datum.more (datum.array u) w)) t none graph word h small shallow = absurd h
    graph_formed (datum.more next (datum.more (datum.fields u) w)) t none graph word h small shallow = absurd h
    graph_formed (datum.more next (datum.more (datum.bag u) w)) t none graph word h small shallow = absurd h
    graph_formed (datum.more next (datum.more (datum.object p n) w)) t none graph word h small shallow = absurd h

    nodes_formed : (w : Data) (t : DataType) → Objectless us t → ValuesOf us kinds w t → size_of_all w + 2 ≤ VALUE_SIZE → nesting_of_all w + 2 ≤ VALUE_NESTING →
        AllByRecursion IsSoundNode (list_of w)
    nodes_formed datum.none t none h small shallow = tt
    nodes_formed (datum.more (datum.fields datum.none) w) t none h small shallow = absurd h
    nodes_formed (datum.more (datum.fields (datum.more name datum.none)) w) t none h small shallow = absurd h
    nodes_formed (datum.more (datum.fields (datum.more name (datum.more v datum.none))) w) t none h small shallow = (
      record {
        sound = record { well_formed = formed v t none h.0 (omega (arith, small)) (omega (arith, shallow)); shallow = omega (arith, shallow) };
        shallow = omega (arith, shallow);
      },
      nodes_formed w t none h.1 (omega (arith, small)) (omega (arith, shallow)),
    )
    nodes_formed (datum.more (datum.fields (datum.more name (datum.more v (datum.more x y)))) w) t none h small shallow = absurd h
    nodes_formed (datum.more (datum.int z) w) t none h small shallow = absurd h
    nodes_formed (datum.more (datum.truth b) w) t none h small shallow = absurd h
    nodes_formed (datum.more (datum.char c) w) t none h small shallow = absurd h
    nodes_formed (datum.more (datum.enumerated n) w) t none h small shallow = absurd h
    nodes_formed (datum.more (datum.text s) w) t none h small shallow = absurd h
    nodes_formed (datum.more (datum.array u) w) t none h small shallow = absurd h
    nodes_formed (datum.more (datum.set u) w) t none h small shallow = absurd h
    nodes_formed (datum.more (datum.bag u) w) t none h small shallow = absurd h
    nodes_formed (datum.more (datum.object p n) w) t none h small shallow = absurd h

  -- a value of data that fits
  value_sound : (v : Datum) (o : Option DataType) → IsOfData us o → Fits us kinds v o → IsSound v
  value_sound v None data_type h = absurd h
  value_sound v (Some t) data_type h =
      let same = subst (IsData us) (ap (given t) (sym data_type.1)) data_type.2 in
      record { well_formed = formed v t same.objectless h.0 h.1 (same.shallow kinds v h.0); shallow = same.shallow kinds v h.0 }
    where
      given : DataType → Option DataType → DataType
      given t None = t
      given t (Some u) = u

  values_formed : (vs : Data) (ls : List Local) → AllByRecursion (λ l. IsOfData us l.type) ls → AreFitting us kinds (list_of vs) ls → AreWellFormed vs × (nesting_of_all vs ≤ VALUE_NESTING)
  values_formed datum.none [] all fits = (tt, omega arith)
  values_formed datum.none (l ∷ ls) all fits = absurd fits
  values_formed (datum.more v vs) [] all fits = absurd fits
  values_formed (datum.more v vs) (l ∷ ls) all fits =
      let one = value_sound v l.type all.0 fits.0 in
      let rest = values_formed vs ls all.1 fits.1 in
      let shallow_one = one.shallow in
      let shallow_rest = rest.1 in
      ((one.well_formed, rest.0), omega (arith, shallow_one, shallow_rest))

-- ---- states, arguments and replies

module _ (us : List Source) (facts : IsAccepted us) (graphs : SoundGraphs) where
  state_sound : (kinds : Kinds) (kind : KindNo) (state : Data) → FitsState us kinds kind state → AreSound state
  state_sound kinds kind state fits = by (object_type us kind) refl fits
    where
      by : (ot : Option ObjectType) → object_type us kind ≡ ot → FitsType us kinds state ot → AreSound state
      by None is h = subst AreSound (sym h) (record { well_formed = tt; shallow = omega arith; short = omega arith })
      by (Some t) is h =
          let type = facts.object_types kind t is in
          let all = values_formed us kinds facts graphs state (field_locals us t.home t.fields) type.holds h in
          let long = fitting_length us kinds (list_of state) (field_locals us t.home t.fields) h in
          let few = type.few in
          record { well_formed = all.0; shallow = all.1; short = omega (arith, long, few) }

  sound_arguments : (kinds : Kinds) (args : Data) (ls : List Local) → AreWellFormed args × (nesting_of_all args ≤ VALUE_NESTING) → AreArguments us kinds args ls → AreSoundArguments args
  sound_arguments kinds args ls all h = record { values = record { well_formed = all.0; shallow = all.1; short = short_of args h.1 }; few = h.2 }

  line_sound : (args : Data) (text : List ℕ) → All IsCode text → size_of (datum.text text) ≤ VALUE_SIZE → args ≡ datum.more (datum.text text) datum.none → AreSoundArguments args
  line_sound args text codes small is =
      subst AreSoundArguments (sym is) (record {
        values = record { well_formed = ((codes, omega (arith, small)), tt); shallow = omega arith; short = omega arith };
        few = omega arith;
      })

  args_sound : (kinds : Kinds) (kind : KindNo) (op : OpNo) (args : Data) → FitsArgs us kinds kind op args → AreSoundArguments args
  args_sound kinds kind op args fits = by kind.0 fits
    where
      by_operation : (t : ObjectType) → object_type us kind ≡ Some t → (o : Option Operation) → slice_get t.operations op.0 ≡ o → FitsParameters us kinds t args o → AreSoundArguments args
      by_operation t is None at h = absurd h
      by_operation t is (Some o) at h =
          let body = (facts.object_types kind t is).operations op.0 o at in
          sound_arguments kinds args _ (values_formed us kinds facts graphs args _ body.parameters h.0) h

      by_type : (ot : Option ObjectType) → object_type us kind ≡ ot → FitsOperation us kinds op args ot → AreSoundArguments args
      by_type None is h = absurd h
      by_type (Some t) is h = by_operation t is (slice_get t.operations op.0) refl h

      by : (n : ℕ) → FitsArgsOf us kinds n kind op args → AreSoundArguments args
      by zero h = line_sound args h.1.0 h.1.1 h.1.2 h.1.3
      by (suc k) h = by_type (object_type us kind) refl h

  -- an object that exists, or data
  argument_sound : (kinds : Kinds) → AreNumbered kinds → (v : Datum) (l : Local) → IsOpening us l → Fits us kinds v l.type → IsSound v
  argument_sound kinds numbered v l opening_l h = by (is_object opening_l.known.0) refl (subst (λ o. Fits us kinds v o) opening_l.known.1 h)
    where
      by : (b : _) → is_object opening_l.known.0 ≡ b → Fits us kinds v (Some opening_l.known.0) → IsSound v
      by true is k =
          let object = is_object_outside opening_l.known.0 is in
          let it = object_of_type us kinds opening_l.known.0 object.0 object.1 v k.0 in
          subst IsSound (sym it.1) (record { well_formed = numbered (it.0, _) it.2; shallow = omega arith })
      by false is k =
          value_sound us kinds facts graphs v (Some opening_l.known.0) (opening_l.known.0, refl, opening_l.data_type opening_l.known.0 opening_l.known.1 is) k

  arguments_formed : (kinds : Kinds) → AreNumbered kinds → (vs : Data) (ls : List Local) → AllByRecursion (IsOpening us) ls → AreFitting us kinds (list_of vs) ls →
      AreWellFormed vs × (nesting_of_all vs ≤ VALUE_NESTING)
  arguments_formed kinds numbered datum.none [] all fits = (tt, omega arith)
  arguments_formed kinds numbered datum.none (l ∷ ls) all fits = absurd fits
  arguments_formed kinds numbered (datum.more v vs) [] all fits = absurd fits
  arguments_formed kinds numbered (datum.more v vs) (l ∷ ls) all fits =
      let one = argument_sound kinds numbered v l all.0 fits.0 in
      let rest = arguments_formed kinds numbered vs ls all.1 fits.1 in
      let shallow_one = one.shallow in
      let shallow_rest = rest.1 in
      ((one.well_formed, rest.0), omega (arith, shallow_one, shallow_rest))

  text_sound : (kinds : Kinds) (text : TextNo) (args : Data) → AreNumbered kinds → FitsText us kinds text args → AreSoundArguments args
  text_sound kinds text args numbered fits = by (slice_get (process_texts us) text.0) refl fits
    where
      by_what : (t : TopName) → slice_get (process_texts us) text.0 ≡ Some t → (w : What) → t.what ≡ w → FitsWhat us kinds args t w → AreSoundArguments args
      by_what t at (top.Process ps b) what h =
          let scope = facts.texts text.0 t ps b at what in
          sound_arguments kinds args _
          (arguments_formed kinds numbered args _ (all_take (IsOpening us) (length ps) (process_scope us t.defined.by ps b).locals scope.names) h.0) h
      by_what t at (top.Constant b) what h = absurd h
      by_what t at (top.TypeName of) what h = absurd h
      by_what t at (top.Value of n) what h = absurd h
      by_what t at (top.Specified heads) what h = absurd h
      by_what t at (top.Implemented os) what h = absurd h
      by_what t at (top.Function ps r b) what h = absurd h

      by : (o : Option TopName) → slice_get (process_texts us) text.0 ≡ o → FitsTop us kinds args o → AreSoundArguments args
      by None at h = absurd h
      by (Some t) at h = by_what t at t.what refl h

  result_sound : (r : Option (Option DataType)) (answer : Reply) → IsKnownResult us r → FitsResult us r answer → IsSoundReply answer
  result_sound r (reply.Broke fault) known h = tt
  result_sound None reply.Done known h = tt
  result_sound None (reply.Gave value) known h = absurd h
  result_sound (Some t) reply.Done known h = absurd h
  result_sound (Some t) (reply.Gave value) known h = value_sound us [] facts graphs (datum_of value) t known h

  answer_sound : (kind : KindNo) (op : OpNo) (answer : Reply) → FitsReply us kind op answer → IsSoundReply answer
  answer_sound kind op answer fits = by (object_type us kind) refl fits
    where
      by_operation : (t : ObjectType) → object_type us kind ≡ Some t → (o : Option Operation) → slice_get t.operations op.0 ≡ o → FitsResultOf us t answer o → IsSoundReply answer
      by_operation t is None at h = absurd h
      by_operation t is (Some o) at h = result_sound (result_in us t o) answer ((facts.object_types kind t is).operations op.0 o at).scope.result h

      by : (ot : Option ObjectType) → object_type us kind ≡ ot → FitsReplyOf us op answer ot → IsSoundReply answer
      by None is h = result_sound None answer tt h
      by (Some t) is h = by_operation t is (slice_get t.operations op.0) refl h

  pub fits_sound : FitsSound us
  fits_sound = record { states = state_sound; arguments = args_sound; texts = text_sound; replies = answer_sound }
