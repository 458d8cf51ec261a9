-- What makes and calls of single objects do. A single object is kept by one member, its owner, with the calls that are suspended
-- on it; every member counts it, by its type (docs/RUNTIME.md, One member's copies).
use Rattle.std.specs.Prelude.{◌≡◌, ◌+◌, Bool, List, [], ◌∷◌, ◌++◌, Some, if◌then◌else◌}
use Rattle.std.specs.List.{Any, Contains}
use Rattle.orca_base.specs.declared.ids.KindNo.{KindNo}
use Rattle.orca_base.specs.declared.ids.ObjectId.{ObjectId}
use Rattle.value_core.specs.declared.action.Instance.{Instance}
use Rattle.value_core.specs.declared.action.Line.{Line}
use Rattle.value_core.specs.declared.action.Action.{Action}
use Rattle.value_core.specs.declared.action.Action.TheVariants as action
use Rattle.value_core.specs.declared.message.Message.{Message}
use Rattle.value_core.specs.declared.meaning.Making.{Making}
use Rattle.value_core.specs.declared.meaning.Making.TheVariants as making
use Rattle.value_core.specs.Fits.{Kinds}
use Rattle.value_core.specs.Meaning.{Performs}
use Rattle.value_core.specs.History.{Objects, after_making, object_at}
use Rattle.guard_queue.specs.Fitting.{kinds_of}
use Rattle.guard_queue.specs.Shown.{or_else}
use Rattle.object_manager.specs.After.{Copied, after, lines_after}

-- the types of all objects, single ones too
abbrev pub kinds_at : Copied → Kinds
kinds_at c = kinds_of c.objects ++ c.singles

-- the object was counted as single
abbrev pub IsCounted : Kinds → ObjectId → Type 0
IsCounted singles object = Any (λ (one : ObjectId × KindNo). one.0 ≡ object) singles

-- each object that is kept here was counted, by its type
abbrev pub AreCounted : Objects → Kinds → Type 0
AreCounted own singles = (object : ObjectId) (kept : Instance) → object_at own object ≡ Some kept → Contains singles (object, kept.kind)

-- both kinds of objects as one
abbrev pub IsBoth : Objects → Objects → Objects → Type 0
IsBoth both objects own = (object : ObjectId) → object_at both object ≡ or_else (object_at objects object) (object_at own object)

-- what is kept here, as copies
abbrev pub side : Copied → Copied
side c = record c { objects = c.own; queue = c.waits }

-- a single object that is made is counted; where the making faults there is none
abbrev pub counted_by : Making → KindNo → ObjectId → Kinds → Kinds
counted_by (making.Made state) kind object singles = singles ++ (object, kind) ∷ []
counted_by (making.Broke fault) kind object singles = singles

-- what is kept here after that, where it is kept here
abbrev pub kept_by : Bool → Making → KindNo → ObjectId → Objects → Objects
kept_by keeps made kind object own = if keeps then after_making own kind object made else own

-- the single objects counted after an action: a make counts one
abbrev pub singles_after : Performs → Kinds → Action → Kinds
singles_after p singles (action.Make kind object) = counted_by (p.made kind) kind object singles
singles_after p singles (action.Call kind op object args) = singles
singles_after p singles (action.Fork process args place_on) = singles
singles_after p singles action.Ended = singles
singles_after p singles (action.Faulted fault) = singles

-- what is kept here after that
abbrev pub own_after : Performs → Bool → Objects → Action → Objects
own_after p keeps own (action.Make kind object) = kept_by keeps (p.made kind) kind object own
own_after p keeps own (action.Call kind op object args) = own
own_after p keeps own (action.Fork process args place_on) = own
own_after p keeps own action.Ended = own
own_after p keeps own (action.Faulted fault) = own

-- the copies after an entry that makes a single object: the replicated objects and the calls on them stay
abbrev pub after_passed : Performs → Bool → Copied → Message → Copied
after_passed p keeps c message = record c {
  singles = singles_after p c.singles message.action;
  own = own_after p keeps c.own message.action;
  applied = c.applied + 1;
}

-- the copies after a call on a single object, which is no entry: what is kept here changes as by an entry
abbrev pub after_single : Performs → Copied → Message → Copied
after_single p c message = record c { own = (after p (side c) message).objects; waits = (after p (side c) message).queue }

-- the lines of such a call, in the order in which they ran
abbrev pub lines_single : Performs → Copied → Message → List Line
lines_single p c message = lines_after p (side c) message

-- the action makes an object
abbrev pub IsMake : Action → Type 0
IsMake (action.Make kind object) = Unit {0}
IsMake (action.Call kind op object args) = ⊥
IsMake (action.Fork process args place_on) = ⊥
IsMake action.Ended = ⊥
IsMake (action.Faulted fault) = ⊥
