-- What preservation takes of a program that links, breaks no rule and is a text's: that types are known, that what opens fits, that
-- constants, enumerations and names are within the language's limits, and that calls, operations and processes are what their signatures
-- say.
use Rattle.std.specs.Prelude.{◌≡◌, ◌<◌, ◌≤◌, ◌^◌, ℕ, ℤ, false, List, [], ◌∷◌, length, map, slice_get, Option, Some, None, IfSome}
use Rattle.std.specs.List.{All, AllByRecursion}
use Rattle.orca_base.specs.declared.limits.TheConstants.{VALUE_NESTING, VALUE_SIZE}
use Rattle.orca_base.specs.declared.ids.KindNo.{KindNo}
use Rattle.orca_syntax.specs.Syntax as syn
use Rattle.orca_syntax.specs.Syntax.{Kind, Stmts, Parameter, Operation, Body, Block}
use Rattle.orca_syntax.specs.Sound.{AreSoundStmts, IsSoundSyntax}
use Rattle.link_rules.specs.Units.{Source}
use Rattle.type_rules.specs.declared.types.DataType.{DataType}
use Rattle.type_rules.specs.declared.types.Base.TheVariants as base
use Rattle.type_rules.specs.Types as types
use Rattle.type_rules.specs.Types.{Outside, outside_of, inside_of, is_object}
use Rattle.type_rules.specs.TopLevel as top
use Rattle.type_rules.specs.TopLevel.{TopName, top_names, number_of, stands_for}
use Rattle.type_rules.specs.declared.names.Chain.TheVariants.{EndsAt}
use Rattle.type_rules.specs.Constants.{chain_from}
use Rattle.type_rules.specs.declared.signature.Formal.{Formal}
use Rattle.type_rules.specs.declared.signature.Formal.TheVariants.{ByValue, Shared, Out, SomeGraph, NodeOf}
use Rattle.type_rules.specs.declared.signature.Signature.{Signature}
use Rattle.type_rules.specs.declared.names.LocalRole.{LocalRole}
use Rattle.type_rules.specs.declared.names.LocalRole.TheVariants.{SharedParameter}
use Rattle.type_rules.specs.Declarations.{field_locals, operation_view}
use Rattle.type_rules.specs.Scopes.{Local, Scope, value_local, signature, operation_of}
use Rattle.type_rules.specs.Statements.{stmts_breaches}
use Rattle.type_rules.specs.Breaches.{IsWellTyped}
use Rattle.value_core.specs.Datum.{Datum, data_of}
use Rattle.value_core.specs.Fits.{Kinds}
use Rattle.value_core.specs.Integers.{IsWord}
use Rattle.value_core.specs.Size.{size_of_all}
use Rattle.value_core.specs.Sound.{IsCode, IsShort, nesting}
use Rattle.value_core.specs.declared.action.Reply.{Reply}
use Rattle.value_paths.specs.declared.step.Step.{Step as ValueStep}
use Rattle.meaning_rules.specs.Openings.{field_types, opening}
use Rattle.meaning_rules.specs.Programs.{ObjectType, object_type, kind_of, op_of, text_of, main_text, process_texts, function_scope, process_scope, operation_scope, operation_variables, begin_scope}
use Rattle.meaning_rules.specs.Statements.{names_at}
use Rattle.meaning_rules.specs.Fitting.{IsOf, Fits, FitsArgs, FitsText, FitsReply, FitsResult}
use Rattle.meaning_rules.specs.PathsFit.{Leads}

-- ---- types

abbrev pub IsKnown : Option DataType → Type 0
IsKnown o = (t : DataType) × (o ≡ Some t)

-- steps through types: to what a layer is of, and to a record's field
pub data TypeStep : Type 0 where
  Inside : TypeStep
  ToField : ℕ → TypeStep

abbrev pub Holds : List Source → List TypeStep → DataType → DataType → Type 0
Holds us [] t u = t ≡ u
Holds us (Inside ∷ path) t u = Holds us path (inside_of t) u
Holds us (ToField place ∷ path) t u =
    (i : ℕ) × (w : DataType) × (outside_of t ≡ types.Bare (base.Record i)) × (slice_get (field_types us i) place ≡ Some (Some w))
    × Holds us path w u

-- the type of data: nothing within is of an object type, its values nest no deeper than values may, and a variable of the type, or of what
-- steps through its values lead to, opens with a value that fits
pub record IsData (us : List Source) (t : DataType) : Type 0 where
  pub objectless : (path : List TypeStep) (u : DataType) → Holds us path t u → is_object u ≡ false
  pub opens : (path : List ValueStep) (u : DataType) → Leads us path t u → (kinds : Kinds) → Fits us kinds (opening us (Some u)) (Some u)
  pub shallow : (kinds : Kinds) (v : Datum) → IsOf us kinds v t → nesting v ≤ VALUE_NESTING

abbrev pub IsOfData : List Source → Option DataType → Type 0
IsOfData us o = (t : DataType) × (o ≡ Some t) × IsData us t

-- a name has a type; data, where that is no object type
pub record IsOpening (us : List Source) (l : Local) : Type 0 where
  pub known : IsKnown l.type
  pub data_type : (t : DataType) → l.type ≡ Some t → is_object t ≡ false → IsData us t

-- all names but `shared` parameters are of data
abbrev pub HoldsData : LocalRole → List Source → Option DataType → Type 0
HoldsData SharedParameter us t = Unit {0}
HoldsData _ us t = IsOfData us t

abbrev pub IsKnownResult : List Source → Option (Option DataType) → Type 0
IsKnownResult us None = Unit {0}
IsKnownResult us (Some t) = IsOfData us t

abbrev pub IsKnownFormal : Formal → Type 0
IsKnownFormal (ByValue t) = IsKnown t
IsKnownFormal (Shared t) = IsKnown t
IsKnownFormal (Out t) = IsKnown t
IsKnownFormal SomeGraph = Unit {0}
IsKnownFormal NodeOf = Unit {0}

-- a parameter that takes a value
abbrev pub TakesValue : Formal → Type 0
TakesValue (ByValue t) = IsKnown t
TakesValue (Shared t) = IsKnown t
TakesValue (Out t) = IsKnown t
TakesValue SomeGraph = ⊥
TakesValue NodeOf = ⊥

-- ---- bodies

-- where a phrase stands, each name has a type, and so has the result
pub record IsPlain (v : Scope) : Type 0 where
  pub names : AllByRecursion (IsOpening v.program) v.locals
  pub result : IsKnownResult v.program v.result

-- a function: its names, parameters and result have types
pub record IsFunction (us : List Source) (t : TopName) (ps : List Parameter) (r : Option Kind) (b : Block) : Type 0 where
  pub formals : AllByRecursion IsKnownFormal (signature us t.defined.by ps r b).formals
  pub scope : IsPlain (function_scope us t.defined.by ps r b)
  pub holds : AllByRecursion (λ l. HoldsData l.role us l.type) (function_scope us t.defined.by ps r b).locals

-- statements whose words are such as a text may have, and that break no rule
abbrev pub AreInOrder : Scope → Stmts → Type 0
AreInOrder v ss = AreSoundStmts ss × (stmts_breaches v ss ≡ [])

abbrev pub BodyInOrder : Scope → Body → Type 0
BodyInOrder v (syn.Guarded first others) = AllByRecursion (λ g. AreInOrder v g.body) (first ∷ others)
BodyInOrder v (syn.Plain ss) = AreInOrder v ss

pub record IsOperationBody (us : List Source) (t : ObjectType) (o : Operation) : Type 0 where
  pub scope : IsPlain (operation_scope us t o false)
  pub parameters : AllByRecursion (λ l. IsOfData us l.type) (map (value_local (operation_view us t.home t.fields o)) o.head.parameters)
  pub holds : AllByRecursion (λ l. IsOfData us l.type) (operation_variables us t o)

-- an object type: its fields are of data, and the names of its operations have types
pub record IsObjectType (us : List Source) (t : ObjectType) : Type 0 where
  pub scope : IsPlain (begin_scope us t)
  pub holds : AllByRecursion (λ l. IsOfData us l.type) (field_locals us t.home t.fields)
  pub few : IsShort (field_locals us t.home t.fields)
  pub operations : (i : ℕ) (o : Operation) → slice_get t.operations i ≡ Some o → IsOperationBody us t o

-- all bodies, and what else a text whose words are sound and that breaks no rule gives: constants are numbers of 64 bits, and the names of
-- enumerations' values have the codes of chars
pub record IsOrderly (us : List Source) : Type 0 where
  pub functions : (i : ℕ) (t : TopName) (ps : List Parameter) (r : Option Kind) (b : Block) → slice_get (top_names us) i ≡ Some t →
      t.what ≡ top.Function ps r b → AreInOrder (function_scope us t.defined.by ps r b) b.statements
  pub processes : (i : ℕ) (t : TopName) (ps : List Parameter) (b : Block) → slice_get (process_texts us) i ≡ Some t →
      t.what ≡ top.Process ps b →
      AreInOrder (process_scope us t.defined.by ps b) b.statements
  pub begins : (kind : KindNo) (t : ObjectType) → object_type us kind ≡ Some t → IfSome t.begins (AreInOrder (begin_scope us t))
  pub operations : (kind : KindNo) (t : ObjectType) → object_type us kind ≡ Some t → (i : ℕ) (o : Operation) →
      slice_get t.operations i ≡ Some o →
      BodyInOrder (operation_scope us t o false) o.body
  pub constants : (i : ℕ) (z : ℤ) → chain_from us i ≡ EndsAt z → IsWord z
  pub names : (o : Outside) → All (All IsCode) (names_at us o)

-- the words of a program's texts are such as a text may have
abbrev pub AreTexts : List Source → Type 0
AreTexts us = AllByRecursion (λ u. IsSoundSyntax u.syntax) us

abbrev pub GivesOrder : List Source → Type 0
GivesOrder us = IsWellTyped us → AreTexts us → IsOrderly us

-- ---- what calls and forks hand on

-- values for the parameters
abbrev pub AreTaken : List Source → Kinds → List Datum → List Formal → Type 0
AreTaken us kinds [] [] = Unit {0}
AreTaken us kinds (x ∷ xs) (ByValue t ∷ fs) = Fits us kinds x t × AreTaken us kinds xs fs
AreTaken us kinds (x ∷ xs) (Shared t ∷ fs) = Fits us kinds x t × AreTaken us kinds xs fs
AreTaken us kinds (x ∷ xs) (Out t ∷ fs) = Fits us kinds x t × AreTaken us kinds xs fs
AreTaken us kinds _ _ = ⊥

-- an operation by its signature in the specification: values for its parameters are arguments that fit, and what fits as a reply is a
-- value of its result
pub record IsOperation (us : List Source) (i : ℕ) (name : List ℕ) (s : Signature) : Type 0 where
  pub formals : AllByRecursion TakesValue s.formals
  pub args : (kinds : Kinds) (xs : List Datum) → AreTaken us kinds xs s.formals → size_of_all (data_of xs) ≤ VALUE_SIZE →
      FitsArgs us kinds (kind_of us i) (op_of us i name) (data_of xs)
  pub reply : (answer : Reply) → FitsReply us (kind_of us i) (op_of us i name) answer → FitsResult us s.result answer

-- a process by its signature: values for its parameters are arguments that fit
pub record IsProcess (us : List Source) (name : List ℕ) (s : Signature) : Type 0 where
  pub formals : AllByRecursion TakesValue s.formals
  pub args : (kinds : Kinds) (xs : List Datum) → AreTaken us kinds xs s.formals → size_of_all (data_of xs) ≤ VALUE_SIZE →
      FitsText us kinds (text_of us name) (data_of xs)

-- ---- programs

pub record IsAccepted (us : List Source) : Type 0 where
  pub fields : (i place : ℕ) (t : Option DataType) → slice_get (field_types us i) place ≡ Some t → IsKnown t
  pub orderly : IsOrderly us
  pub values : (i : ℕ) (t : TopName) (of : List ℕ) (number : ℕ) → slice_get (top_names us) i ≡ Some t → t.what ≡ top.Value of number →
      (j : ℕ) × (number_of us of ≡ Some j) × (number < length (names_at us (types.Bare (base.Enumeration j))))
  pub few : (o : Outside) → length (names_at us o) ≤ 2 ^ 16
  pub functions : (i : ℕ) (t : TopName) (ps : List Parameter) (r : Option Kind) (b : Block) → slice_get (top_names us) i ≡ Some t →
      t.what ≡ top.Function ps r b → IsFunction us t ps r b
  pub object_types : (kind : KindNo) (t : ObjectType) → object_type us kind ≡ Some t → IsObjectType us t
  pub texts : (i : ℕ) (t : TopName) (ps : List Parameter) (b : Block) → slice_get (process_texts us) i ≡ Some t →
      t.what ≡ top.Process ps b →
      IsPlain (process_scope us t.defined.by ps b)
  pub operations : (i : ℕ) (name : List ℕ) (s : Signature) → operation_of us i name ≡ Some s → IsOperation us i name s
  pub processes : (home name : List ℕ) (i : ℕ) (t : TopName) (ps : List Parameter) (b : Block) → stands_for us home name ≡ top.Top i t →
      t.what ≡ top.Process ps b → IsProcess us name (signature us t.defined.by ps None b)
  pub main : (t : TopName) × (b : Block) × (slice_get (process_texts us) (main_text us).0 ≡ Some t) × (t.what ≡ top.Process [] b)
