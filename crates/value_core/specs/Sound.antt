-- Sound values: those that a program has, and that bytes spell (docs/LANGUAGE.md, Values). Numbers fit their types: an
-- integer 64 bits with a sign, an enumeration's value 16, and an object's process and number 16 and 32.
use Rattle.std.specs.Prelude.{◌≡◌, ℕ, ◌+◌, ◌<◌, ◌≤◌, ◌^◌, List, All, length, max, FitsSigned, IsTrue}
use Rattle.std.specs.List.Sorted.{IsSorted, IsStrictlySortedBy}
use Rattle.std.proofs.Common.{w64}
use Rattle.orca_base.specs.declared.limits.TheConstants.{PARAMETERS, VALUE_NESTING}
use Rattle.value_core.specs.Datum.{Datum, Data, list_of}
use Rattle.value_core.specs.Datum as datum
use Rattle.value_core.specs.Order.{datum_cmp}
use Rattle.value_core.specs.Performable.{is_performable}
use Rattle.value_core.specs.View.{datum_of}
use Rattle.value_core.specs.declared.action.Action.{Action}
use Rattle.value_core.specs.declared.action.Action.TheVariants as action
use Rattle.value_core.specs.declared.action.Reply.{Reply}
use Rattle.value_core.specs.declared.action.Reply.TheVariants as answer
use Rattle.value_core.specs.declared.action.Line.{Line}
use Rattle.value_core.specs.declared.message.Message.{Message}

-- how deep a value nests: one deep where it has no parts, and else one deeper than its parts
abbrev mutual
  pub nesting : Datum → ℕ
  nesting (datum.int z) = 1
  nesting (datum.truth b) = 1
  nesting (datum.char c) = 1
  nesting (datum.enumerated n) = 1
  nesting (datum.text t) = 1
  nesting (datum.array w) = nesting_of_all w + 1
  nesting (datum.fields w) = nesting_of_all w + 1
  nesting (datum.set w) = nesting_of_all w + 1
  nesting (datum.bag w) = nesting_of_all w + 1
  nesting (datum.object p n) = 1

  pub nesting_of_all : Data → ℕ
  nesting_of_all datum.none = 0
  nesting_of_all (datum.more v w) = max (nesting v) (nesting_of_all w)

-- a list whose length fits 32 bits
abbrev pub IsShort : {X : Type 0} → List X → Type 0
IsShort xs = length xs < 2 ^ 32

-- a char's code
abbrev pub IsCode : ℕ → Type 0
IsCode c = c ≤ 127

-- numbers that fit, chars and strings of codes up to 127, sets that rise, bags that never fall, and lists whose length fits 32 bits
abbrev mutual
  pub IsWellFormed : Datum → Type 0
  IsWellFormed (datum.int z) = FitsSigned w64 z
  IsWellFormed (datum.truth b) = Unit {0}
  IsWellFormed (datum.char c) = IsCode c
  IsWellFormed (datum.enumerated n) = n < 2 ^ 16
  IsWellFormed (datum.text t) = All IsCode t × IsShort t
  IsWellFormed (datum.array w) = AreWellFormed w × IsShort (list_of w)
  IsWellFormed (datum.fields w) = AreWellFormed w × IsShort (list_of w)
  IsWellFormed (datum.set w) = AreWellFormed w × IsShort (list_of w) × IsStrictlySortedBy datum_cmp (list_of w)
  IsWellFormed (datum.bag w) = AreWellFormed w × IsShort (list_of w) × IsSorted datum_cmp (list_of w)
  IsWellFormed (datum.object p n) = (p < 2 ^ 16) × (n < 2 ^ 32)

  pub AreWellFormed : Data → Type 0
  AreWellFormed datum.none = Unit {0}
  AreWellFormed (datum.more v w) = IsWellFormed v × AreWellFormed w

-- a well formed value that nests at most so deep as values may
pub record IsSound (v : Datum) : Type 0 where
  pub well_formed : IsWellFormed v
  pub shallow : nesting v ≤ VALUE_NESTING

-- a list of sound values
pub record AreSound (vs : Data) : Type 0 where
  pub well_formed : AreWellFormed vs
  pub shallow : nesting_of_all vs ≤ VALUE_NESTING
  pub short : IsShort (list_of vs)

-- sound values, as many as one call may have as arguments
pub record AreSoundArguments (args : Data) : Type 0 where
  pub values : AreSound args
  pub few : length (list_of args) ≤ PARAMETERS

-- an action whose arguments are sound
abbrev pub IsSoundAction : Action → Type 0
IsSoundAction (action.Make kind object) = Unit {0}
IsSoundAction (action.Call kind op object args) = AreSoundArguments args
IsSoundAction (action.Fork process args place_on) = AreSoundArguments args
IsSoundAction action.Ended = Unit {0}
IsSoundAction (action.Faulted fault) = Unit {0}

abbrev pub IsSoundReply : Reply → Type 0
IsSoundReply answer.Done = Unit {0}
IsSoundReply (answer.Gave value) = IsSound (datum_of value)
IsSoundReply (answer.Broke fault) = Unit {0}

-- the guard of an action: a call's, and else 0
abbrev pub IsGuardOf : Action → ℕ → Type 0
IsGuardOf (action.Call kind op object args) guard = Unit {0}
IsGuardOf (action.Make kind object) guard = guard ≡ 0
IsGuardOf (action.Fork process args place_on) guard = guard ≡ 0
IsGuardOf action.Ended guard = guard ≡ 0
IsGuardOf (action.Faulted fault) guard = guard ≡ 0

pub record IsSoundMessage (message : Message) : Type 0 where
  pub action : IsSoundAction message.action
  pub performable : IsTrue (is_performable message.action)

pub record IsSoundLine (line : Line) : Type 0 where
  pub action : IsSoundAction line.action
  pub performable : IsTrue (is_performable line.action)
  pub guard : IsGuardOf line.action line.guard
  pub reply : IsSoundReply line.reply
