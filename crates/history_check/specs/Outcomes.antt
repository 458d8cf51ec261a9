-- What an action does to objects, as code has it.
use Rattle.std.specs.Prelude.{◌≡◌, Option, None, Some, Result, Ok, Err}
use Rattle.orca_base.specs.declared.ids.KindNo.{KindNo}
use Rattle.orca_base.specs.declared.ids.ObjectId.{ObjectId}
use Rattle.value_core.specs.declared.action.Action.{Action}
use Rattle.value_core.specs.declared.action.Action.TheVariants as action
use Rattle.value_core.specs.declared.action.Instance.{Instance}
use Rattle.value_core.specs.declared.action.Line.{Line}
use Rattle.value_core.specs.declared.action.Reply.TheVariants as answer
use Rattle.value_core.specs.declared.meaning.Making.{Making}
use Rattle.value_core.specs.declared.meaning.Making.TheVariants as making
use Rattle.value_core.specs.declared.meaning.Tried.{Tried}
use Rattle.value_core.specs.declared.meaning.Tried.TheVariants as tried
use Rattle.value_core.specs.Meaning.{Performs}
use Rattle.value_core.specs.History.{Objects, with_object}
use Rattle.guard_queue.specs.Settles.{tried_on}
use Rattle.object_manager.specs.Viewed.{ReadFits}
use Rattle.book_law.specs.Fitness.{ArgsFit, StateFits}
use Rattle.history_check.specs.declared.outcome.Outcome.{Outcome}
use Rattle.history_check.specs.declared.verdict.BreachRule.{BreachRule}
use Rattle.history_check.specs.declared.verdict.BreachRule.TheVariants as part

-- a call may be tried on these objects
abbrev pub MayTry : StateFits → ArgsFit → Objects → Action → Type 0
MayTry fits_state fits_args objects (action.Call kind op object args) = ReadFits fits_state fits_args objects kind op object args
MayTry fits_state fits_args objects (action.Make kind object) = Unit {0}
MayTry fits_state fits_args objects (action.Fork text args place_on) = Unit {0}
MayTry fits_state fits_args objects action.Ended = Unit {0}
MayTry fits_state fits_args objects (action.Faulted fault) = Unit {0}

abbrev pub making_outcome : KindNo → Making → Outcome
making_outcome kind (making.Made state) = record { guard = 0; reply = answer.Done; kept = Some (record { kind = kind; state = state }) }
making_outcome kind (making.Broke fault) = record { guard = 0; reply = answer.Broke fault; kept = None }

abbrev pub tried_outcome : KindNo → Tried → Option Outcome
tried_outcome kind tried.Blocked = None
tried_outcome kind (tried.Did guard state reply) =
    Some (record { guard = guard; reply = reply; kept = Some (record { kind = kind; state = state }) })
tried_outcome kind (tried.Broke guard fault) = Some (record { guard = guard; reply = answer.Broke fault; kept = None })

-- the guard, the reply, and the object that is made or changed; or none where the action can't be performed
abbrev pub outcome_of : Performs → Objects → Action → Option Outcome
outcome_of p objects (action.Make kind object) = Some (making_outcome kind (p.made kind))
outcome_of p objects (action.Call kind op object args) = tried_outcome kind (tried_on p objects kind op object args)
outcome_of p objects (action.Fork text args place_on) = Some (record { guard = 0; reply = answer.Done; kept = None })
outcome_of p objects action.Ended = None
outcome_of p objects (action.Faulted fault) = None

-- the objects with this one put in, where there is one
abbrev pub with_kept : Objects → ObjectId → Option Instance → Objects
with_kept objects object None = objects
with_kept objects object (Some kept) = with_object objects object kept

abbrev pub kept_at : Objects → Action → Option Instance → Objects
kept_at objects (action.Make kind object) kept = with_kept objects object kept
kept_at objects (action.Call kind op object args) kept = with_kept objects object kept
kept_at objects (action.Fork text args place_on) kept = objects
kept_at objects action.Ended kept = objects
kept_at objects (action.Faulted fault) kept = objects

-- an outcome has the line's guard and reply, or one of them differs first
abbrev pub IsJudged : Option Outcome → Line → Result Outcome BreachRule → Type 0
IsJudged outcome line (Ok o) = (outcome ≡ Some o) × (o.guard ≡ line.guard) × (o.reply ≡ line.reply)
IsJudged outcome line (Err part.Guard) = (o : Outcome) → outcome ≡ Some o → o.guard ≡ line.guard → ⊥
IsJudged outcome line (Err part.Reply) =
    (o : Outcome) × (outcome ≡ Some o) × (o.guard ≡ line.guard) × (o.reply ≡ line.reply → ⊥)
IsJudged outcome line (Err part.Process) = ⊥
IsJudged outcome line (Err part.Call) = ⊥
IsJudged outcome line (Err part.Action) = ⊥
