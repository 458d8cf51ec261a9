-- What fits, over the types of the objects that exist.
use Rattle.std.specs.Prelude.{◌<◌, ◌^◌, List}
use Rattle.std.specs.List.{Contains}
use Rattle.orca_base.specs.declared.ids.KindNo.{KindNo}
use Rattle.orca_base.specs.declared.ids.ObjectId.{ObjectId}
use Rattle.value_core.specs.Datum.{Data}
use Rattle.value_core.specs.declared.action.Reply.{Reply}
use Rattle.value_core.specs.declared.action.Reply.TheVariants as answer
use Rattle.value_core.specs.declared.meaning.Making.{Making}
use Rattle.value_core.specs.declared.meaning.Making.TheVariants as making
use Rattle.value_core.specs.declared.meaning.Tried.{Tried}
use Rattle.value_core.specs.declared.meaning.Tried.TheVariants as tried

-- objects with their types
abbrev pub Kinds : Type 0
Kinds = List (ObjectId × KindNo)

-- more objects, and each of the old ones with its type
abbrev pub ExtendsKinds : Kinds → Kinds → Type 0
ExtendsKinds kinds more = (entry : ObjectId × KindNo) → Contains kinds entry → Contains more entry

-- the ids of the objects that exist have numbers that fit
abbrev pub AreNumbered : Kinds → Type 0
AreNumbered kinds = (entry : ObjectId × KindNo) → Contains kinds entry → (entry.0.process < 2 ^ 16) × (entry.0.number < 2 ^ 32)

-- the state that a making gives, where it gives one
abbrev pub IfMade : Making → (Data → Type 0) → Type 0
IfMade (making.Made state) P = P state
IfMade (making.Broke fault) P = Unit {0}

-- the state that a try leaves, where it did something
abbrev pub KeepsState : Tried → (Data → Type 0) → Type 0
KeepsState tried.Blocked P = Unit {0}
KeepsState (tried.Did guard state reply) P = P state
KeepsState (tried.Broke guard fault) P = Unit {0}

-- the reply that a try gives, where it isn't blocked
abbrev pub RepliesWell : Tried → (Reply → Type 0) → Type 0
RepliesWell tried.Blocked P = Unit {0}
RepliesWell (tried.Did guard state reply) P = P reply
RepliesWell (tried.Broke guard fault) P = P (answer.Broke fault)
