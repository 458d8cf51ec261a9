-- What fits (docs/LANGUAGE.md, What fits): values of a type, what a variable holds, states, arguments, and replies, over the types of the
-- objects that exist.
use Rattle.std.specs.Prelude.{◌≡◌, ◌<◌, ◌≤◌, ℕ, zero, suc, ◌+◌, ◌-ℤ◌, nat_abs, List, [], ◌∷◌, length, map, take, slice_get, Option, Some, None}
use Rattle.std.specs.List.{All, Contains}
use Rattle.std.specs.List.Sorted.{IsSorted, IsStrictlySortedBy}
use Rattle.orca_base.specs.declared.ids.KindNo.{KindNo}
use Rattle.orca_base.specs.declared.ids.OpNo.{OpNo}
use Rattle.orca_base.specs.declared.ids.TextNo.{TextNo}
use Rattle.orca_base.specs.declared.limits.TheConstants.{PARAMETERS, VALUE_SIZE}
use Rattle.orca_syntax.specs.Syntax.{Operation}
use Rattle.link_rules.specs.Units.{Source}
use Rattle.type_rules.specs.declared.types.DataType.{DataType}
use Rattle.type_rules.specs.declared.types.Base.TheVariants as base
use Rattle.type_rules.specs.declared.types.Layer.TheVariants as layer
use Rattle.type_rules.specs.Types as types
use Rattle.type_rules.specs.Types.{Outside, outside_of, inside_of}
use Rattle.type_rules.specs.TopLevel as top
use Rattle.type_rules.specs.TopLevel.{What, TopName}
use Rattle.type_rules.specs.Scopes.{Local}
use Rattle.type_rules.specs.Scopes.{value_local}
use Rattle.type_rules.specs.Declarations.{field_locals, operation_view}
use Rattle.value_core.specs.Datum.{Datum, Data, list_of}
use Rattle.value_core.specs.Datum as datum
use Rattle.value_core.specs.Fits.{Kinds}
use Rattle.value_core.specs.Integers.{IsWord}
use Rattle.value_core.specs.Order.{datum_cmp}
use Rattle.value_core.specs.Size.{size_of, size_of_all}
use Rattle.value_core.specs.Sound.{IsCode}
use Rattle.value_core.specs.View.{datum_of}
use Rattle.value_core.specs.declared.action.Reply.{Reply}
use Rattle.value_core.specs.declared.action.Reply.TheVariants as reply
use Rattle.graph_values.specs.Graphs.{IsGraph, name_in}
use Rattle.meaning_rules.specs.Openings.{field_types}
use Rattle.meaning_rules.specs.Programs.{ObjectType, kind_of, object_type, process_texts, process_scope, result_in}
use Rattle.meaning_rules.specs.Statements.{names_at}

-- ---- values of a type, by what the type is on the outside

abbrev pub IsIntegral : Outside → Type 0
IsIntegral (types.Bare base.Integer) = Unit {0}
IsIntegral (types.Bare base.NodeName) = Unit {0}
IsIntegral _ = ⊥

abbrev pub IsTruth : Outside → Type 0
IsTruth (types.Bare base.Boolean) = Unit {0}
IsTruth _ = ⊥

abbrev pub IsCharacter : Outside → Type 0
IsCharacter (types.Bare base.Character) = Unit {0}
IsCharacter _ = ⊥

abbrev pub IsText : Outside → Type 0
IsText (types.Bare base.String) = Unit {0}
IsText _ = ⊥

-- one of an enumeration's names, by its number
abbrev pub IsNamed : List Source → Outside → ℕ → Type 0
IsNamed us (types.Bare (base.Enumeration i)) n = n < length (names_at us (types.Bare (base.Enumeration i)))
IsNamed us _ n = ⊥

-- an object that exists, by its type
abbrev pub IsObject : List Source → Kinds → Outside → ℕ → ℕ → Type 0
IsObject us kinds (types.Bare (base.Object i)) process number = Contains kinds (record { process = process; number = number }, kind_of us i)
IsObject us kinds _ process number = ⊥

-- so many parts, of which this holds
abbrev pub IsArray : Outside → ℕ → Type 0 → Type 0
IsArray (types.Within (layer.Array low high)) count parts = (count ≡ nat_abs (high -ℤ low) + 1) × parts
IsArray _ count parts = ⊥

abbrev pub IsSet : Outside → Type 0 → Type 0
IsSet (types.Within layer.Set) elements = elements
IsSet _ elements = ⊥

abbrev pub IsBag : Outside → Type 0 → Type 0
IsBag (types.Within layer.Bag) elements = elements
IsBag _ elements = ⊥

-- a record of this type, or a graph
abbrev pub IsRecord : Outside → (ℕ → Type 0) → Type 0 → Type 0
IsRecord (types.Bare (base.Record i)) fields graph = fields i
IsRecord (types.Within layer.Graph) fields graph = graph
IsRecord _ fields graph = ⊥

module _ (us : List Source) (kinds : Kinds) where
  abbrev mutual
    -- a value is of a type, by recursion on the value
    pub IsOf : Datum → DataType → Type 0
    IsOf (datum.int z) t = IsIntegral (outside_of t) × IsWord z
    IsOf (datum.truth b) t = IsTruth (outside_of t)
    IsOf (datum.char c) t = IsCharacter (outside_of t) × IsCode c
    IsOf (datum.enumerated n) t = IsNamed us (outside_of t) n
    IsOf (datum.text s) t = IsText (outside_of t) × All IsCode s
    IsOf (datum.array w) t = IsArray (outside_of t) (length (list_of w)) (AllOf w (inside_of t))
    IsOf (datum.fields w) t = IsRecord (outside_of t) (λ i. AreOf w (field_types us i)) (IsGraph (datum.fields w)
        × IsWord (name_in (datum.fields w)) × NodesOf w (inside_of t))
    IsOf (datum.set w) t = IsSet (outside_of t) (IsStrictlySortedBy datum_cmp (list_of w) × AllOf w (inside_of t))
    IsOf (datum.bag w) t = IsBag (outside_of t) (IsSorted datum_cmp (list_of w) × AllOf w (inside_of t))
    IsOf (datum.object process number) t = IsObject us kinds (outside_of t) process number

    -- all are of one type
    pub AllOf : Data → DataType → Type 0
    AllOf datum.none t = Unit {0}
    AllOf (datum.more v w) t = IsOf v t × AllOf w t

    -- each is of its own
    pub AreOf : Data → List (Option DataType) → Type 0
    AreOf datum.none [] = Unit {0}
    AreOf (datum.more v w) (Some t ∷ ts) = IsOf v t × AreOf w ts
    AreOf _ _ = ⊥

    -- the values of a graph's nodes are of one type
    pub NodesOf : Data → DataType → Type 0
    NodesOf (datum.more next (datum.more (datum.set w) datum.none)) t = ValuesOf w t
    NodesOf _ t = ⊥

    pub ValuesOf : Data → DataType → Type 0
    ValuesOf datum.none t = Unit {0}
    ValuesOf (datum.more (datum.fields (datum.more name (datum.more v datum.none))) w) t = IsOf v t × ValuesOf w t
    ValuesOf _ t = ⊥

  -- ---- what a variable holds

  abbrev pub Fits : Datum → Option DataType → Type 0
  Fits v None = ⊥
  Fits v (Some t) = IsOf v t × (size_of v ≤ VALUE_SIZE)

  -- a value for each name
  abbrev pub AreFitting : List Datum → List Local → Type 0
  AreFitting [] [] = Unit {0}
  AreFitting (v ∷ vs) (l ∷ ls) = Fits v l.type × AreFitting vs ls
  AreFitting _ _ = ⊥

  -- arguments of one call or fork
  abbrev pub AreArguments : Data → List Local → Type 0
  AreArguments args ls = AreFitting (list_of args) ls × (size_of_all args ≤ VALUE_SIZE) × (length (list_of args) ≤ PARAMETERS)

  -- ---- states, arguments and replies

  abbrev pub FitsType : Data → Option ObjectType → Type 0
  FitsType state None = state ≡ datum.none
  FitsType state (Some t) = AreFitting (list_of state) (field_locals us t.home t.fields)

  abbrev pub FitsState : KindNo → Data → Type 0
  FitsState kind state = FitsType state (object_type us kind)

  -- one string that is no longer than a string may be, for `WriteLine`
  abbrev pub FitsWriting : OpNo → Data → Type 0
  FitsWriting op args = (op.0 ≡ 0) × ((text : List ℕ) × All IsCode text × (size_of (datum.text text) ≤ VALUE_SIZE)
      × (args ≡ datum.more (datum.text text) datum.none))

  abbrev pub FitsParameters : ObjectType → Data → Option Operation → Type 0
  FitsParameters t args None = ⊥
  FitsParameters t args (Some o) = AreArguments args (map (value_local (operation_view us t.home t.fields o)) o.head.parameters)

  abbrev pub FitsOperation : OpNo → Data → Option ObjectType → Type 0
  FitsOperation op args None = ⊥
  FitsOperation op args (Some t) = FitsParameters t args (slice_get t.operations op.0)

  abbrev pub FitsArgsOf : ℕ → KindNo → OpNo → Data → Type 0
  FitsArgsOf zero kind op args = FitsWriting op args
  FitsArgsOf (suc k) kind op args = FitsOperation op args (object_type us kind)

  abbrev pub FitsArgs : KindNo → OpNo → Data → Type 0
  FitsArgs kind op args = FitsArgsOf kind.0 kind op args

  abbrev pub FitsWhat : Data → TopName → What → Type 0
  FitsWhat args t (top.Process ps b) = AreArguments args (take (length ps) (process_scope us t.defined.by ps b).locals)
  FitsWhat args t _ = ⊥

  abbrev pub FitsTop : Data → Option TopName → Type 0
  FitsTop args None = ⊥
  FitsTop args (Some t) = FitsWhat args t t.what

  abbrev pub FitsText : TextNo → Data → Type 0
  FitsText text args = FitsTop args (slice_get (process_texts us) text.0)

-- ---- replies: no operation gives an object, so what fits doesn't depend on those that exist

module _ (us : List Source) where
  -- of an operation with a result a value that fits it, of one without none, and of any a fault
  abbrev pub FitsResult : Option (Option DataType) → Reply → Type 0
  FitsResult None reply.Done = Unit {0}
  FitsResult None (reply.Gave value) = ⊥
  FitsResult (Some t) reply.Done = ⊥
  FitsResult (Some t) (reply.Gave value) = Fits us [] (datum_of value) t
  FitsResult r (reply.Broke fault) = Unit {0}

  abbrev pub FitsResultOf : ObjectType → Reply → Option Operation → Type 0
  FitsResultOf t answer None = ⊥
  FitsResultOf t answer (Some o) = FitsResult (result_in us t o) answer

  abbrev pub FitsReplyOf : OpNo → Reply → Option ObjectType → Type 0
  FitsReplyOf op answer None = FitsResult None answer
  FitsReplyOf op answer (Some t) = FitsResultOf t answer (slice_get t.operations op.0)

  abbrev pub FitsReply : KindNo → OpNo → Reply → Type 0
  FitsReply kind op answer = FitsReplyOf op answer (object_type us kind)
