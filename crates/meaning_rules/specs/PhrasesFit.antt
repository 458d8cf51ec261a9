-- Preservation: a phrase without a breach, evaluated in variables that fit its scope, gives what is of its type and leaves such variables,
-- as long as replies are such as its actions can get; and an action to which it comes is of objects and arguments that fit.
use Rattle.std.specs.Prelude.{◌≡◌, ◌≤◌, ℕ, List, [], ◌∷◌, ◌++◌, slice_get, Option, Some, None}
use Rattle.std.specs.List.{Contains}
use Rattle.orca_base.specs.declared.ids.KindNo.{KindNo}
use Rattle.orca_base.specs.declared.ids.ObjectId.{ObjectId}
use Rattle.orca_base.specs.declared.limits.TheConstants.{VALUE_SIZE}
use Rattle.orca_syntax.specs.Syntax.{Kind, Parameter, Block}
use Rattle.link_rules.specs.Units.{Source}
use Rattle.type_rules.specs.declared.signature.Formal.{Formal}
use Rattle.type_rules.specs.declared.signature.Formal.TheVariants.{ByValue, Shared, Out as ByOut}
use Rattle.type_rules.specs.TopLevel as top
use Rattle.type_rules.specs.TopLevel.{TopName, top_names}
use Rattle.type_rules.specs.declared.types.DataType.{DataType}
use Rattle.type_rules.specs.Scopes.{Local, signature}
use Rattle.value_core.specs.Datum.{Datum, data_of}
use Rattle.value_core.specs.Size.{size_of_all}
use Rattle.value_core.specs.Fits.{Kinds}
use Rattle.value_core.specs.History.{output_kind, output_object}
use Rattle.value_core.specs.Lawful.{FitsAction}
use Rattle.value_core.specs.declared.action.Action.{Action}
use Rattle.value_core.specs.declared.action.Action.TheVariants as action
use Rattle.value_core.specs.declared.action.Reply.{Reply}
use Rattle.value_core.specs.declared.meaning.Doing.TheVariants as doing
use Rattle.meaning_rules.specs.States.{State, Out, Goes, Stops, Needs, Faults, Busy}
use Rattle.meaning_rules.specs.Loops.{Flow, On, Back}
use Rattle.meaning_rules.specs.Replies.{with_replies}
use Rattle.meaning_rules.specs.Variables.{Target}
use Rattle.meaning_rules.specs.Calls.{Calls, Passed, Given, Lent, values_in}
use Rattle.meaning_rules.specs.PathsFit.{Leads}
use Rattle.meaning_rules.specs.Fitting.{Fits, AreFitting, FitsArgs, FitsText, FitsReply}

-- each reply is one that the action can get to which an evaluation comes with the replies in front of it
abbrev pub AreAnswers : {A : Type 0} → List Source → (State → Out A) → State → Type 0
AreAnswers us f s =
    (before rest : List Reply) (answer : Reply) (act : Action) → s.replies ≡ before ++ answer ∷ rest →
    f (with_replies before s) ≡ Stops (Needs act) → FitsAction (FitsReply us) (doing.At act) answer

-- the output object, or one that exists, by its type
abbrev pub IsThere : Kinds → ObjectId → KindNo → Type 0
IsThere kinds object kind = Contains ((output_object, output_kind) ∷ kinds) (object, kind)

module _ (us : List Source) (kinds : Kinds) where
  -- an action is a call of an object that is there, or a fork, and hands on arguments that fit
  abbrev pub FitsNeed : Action → Type 0
  FitsNeed (action.Call kind op object args) = IsThere kinds object kind × FitsArgs us kinds kind op args
  FitsNeed (action.Fork process args place_on) = FitsText us kinds process args
  FitsNeed _ = ⊥

  -- an evaluation leaves variables that fit, and what it goes on with is such
  abbrev pub Leaves : {A : Type 0} → List Local → (A → Type 0) → Out A → Type 0
  Leaves ls P (Goes x s) = AreFitting us kinds s.frame ls × P x
  Leaves ls P (Stops (Needs act)) = FitsNeed act
  Leaves ls P (Stops (Faults fault)) = Unit {0}
  Leaves ls P (Stops Busy) = Unit {0}

  pub record Preserves (ls : List Local) (A : Type 0) (P : A → Type 0) (f : State → Out A) : Type 0 where
    pub preserves : (s : State) → AreFitting us kinds s.frame ls → AreAnswers us f s → Leaves ls P (f s)

  -- a variable, and a path in it to what is of this type
  abbrev pub IsTarget : List Local → Target → DataType → Type 0
  IsTarget ls to t =
      (l : Local) × (whole : DataType) × (slice_get ls to.slot ≡ Some l) × (l.type ≡ Some whole) × Leads us to.path whole t

  -- what a body returns: a value of the result's type, where there is a result, and else none
  abbrev pub IsResult : Option (Option DataType) → Option Datum → Type 0
  IsResult None None = Unit {0}
  IsResult None (Some x) = ⊥
  IsResult (Some t) None = ⊥
  IsResult (Some t) (Some x) = Fits us kinds x t

  abbrev pub Returns : Option (Option DataType) → Flow → Type 0
  Returns result On = Unit {0}
  Returns result (Back x) = IsResult result x

  -- ---- functions

  -- what is passed for the parameters of a function, by a caller with these variables
  abbrev pub AreGiven : List Local → List Passed → List Formal → Type 0
  AreGiven ls [] [] = Unit {0}
  AreGiven ls (Given x ∷ ps) (ByValue t ∷ fs) = Fits us kinds x t × AreGiven ls ps fs
  AreGiven ls (Given x ∷ ps) (Shared t ∷ fs) = Fits us kinds x t × AreGiven ls ps fs
  AreGiven ls (Lent to ∷ ps) (ByOut t ∷ fs) = ((u : DataType) × (t ≡ Some u) × IsTarget ls to u) × AreGiven ls ps fs
  AreGiven ls _ _ = ⊥

  -- calls of functions, with what is passed for their parameters, leave the caller's variables fitting, and give their results
  abbrev pub CallsFit : Calls → Type 0
  CallsFit call =
      (ls : List Local) (i : ℕ) (t : TopName) (ps : List Parameter) (r : Option Kind) (b : Block) → slice_get (top_names us) i ≡ Some t →
      t.what ≡ top.Function ps r b → (given : List Passed) → AreGiven ls given (signature us t.defined.by ps r b).formals →
      size_of_all (data_of (values_in given)) ≤ VALUE_SIZE →
      Preserves ls (Option Datum) (IsResult (signature us t.defined.by ps r b).result) (call i given)
