-- How suspended calls settle: repeatedly the oldest one whose try isn't blocked is performed or faults and leaves the queue,
-- until each is blocked (Bal, Kaashoek, Tanenbaum 1992, section 3; docs/LANGUAGE.md, Operations and makings).
use Rattle.std.specs.Prelude.{◌≡◌, ℕ, Bool, true, false, not, List, [], ◌∷◌, ◌++◌, length, map, Option, None, Some, slice_get, remove, zero, suc, IfSome, Vec}
use Rattle.std.specs.declared.alloc.Global.{Global}
use Rattle.std.specs.List.{All, position_from}
use Rattle.orca_base.specs.declared.ids.KindNo.{KindNo}
use Rattle.orca_base.specs.declared.ids.OpNo.{OpNo}
use Rattle.orca_base.specs.declared.ids.ObjectId.{ObjectId}
use Rattle.value_core.specs.Datum.{Data}
use Rattle.value_core.specs.declared.action.Instance.{Instance}
use Rattle.value_core.specs.declared.action.Line.{Line}
use Rattle.value_core.specs.declared.action.Reply.{Reply}
use Rattle.value_core.specs.declared.action.Action.TheVariants as action
use Rattle.value_core.specs.declared.action.Reply.TheVariants as answer
use Rattle.value_core.specs.declared.meaning.Tried.{Tried}
use Rattle.value_core.specs.declared.meaning.Tried.TheVariants as tried
use Rattle.value_core.specs.Meaning.{Performs}
use Rattle.value_core.specs.History.{Objects, object_at, with_object, after_try}
use Rattle.guard_queue.specs.declared.queue.Suspended.{Suspended}
use Rattle.guard_queue.specs.declared.settling.Answered.{Answered}

abbrev pub tried_by : Performs → KindNo → OpNo → Data → Option Instance → Tried
tried_by p kind op args None = tried.Blocked
tried_by p kind op args (Some kept) = p.tries kind op kept.state args

-- what a try of an operation gives on these objects
abbrev pub tried_on : Performs → Objects → KindNo → OpNo → ObjectId → Data → Tried
tried_on p objects kind op object args = tried_by p kind op args (object_at objects object)

abbrev pub tried_at : Performs → Suspended → Option Instance → Tried
tried_at p call kept = tried_by p call.kind call.op call.args kept

-- what a try of a suspended call gives on these objects
abbrev pub tried_in : Performs → Objects → Suspended → Tried
tried_in p objects call = tried_on p objects call.kind call.op call.object call.args

-- each of the calls is blocked
abbrev pub AllBlocked : Performs → Objects → List Suspended → Type 0
AllBlocked p objects queue = All (λ call. tried_in p objects call ≡ tried.Blocked) queue

abbrev pub is_blocked : Tried → Bool
is_blocked tried.Blocked = true
is_blocked (tried.Did guard state reply) = false
is_blocked (tried.Broke guard fault) = false

-- the call isn't blocked
abbrev pub is_ready : Performs → Objects → Suspended → Bool
is_ready p objects call = not (is_blocked (tried_in p objects call))

-- the place of the oldest call that isn't blocked
abbrev pub next_ready : Performs → Objects → List Suspended → Option ℕ
next_ready p objects queue = position_from (is_ready p objects) 0 queue

-- what was found: where a call is ready, the call at its place, with what its try gives
abbrev pub IsFound : Performs → Objects → List Suspended → Option (ℕ × Tried) → Type 0
IsFound p objects queue found = IfSome found (λ x. (call : Suspended) × (slice_get queue x.0 ≡ Some call) × (x.1 ≡ tried_in p objects call))

-- the objects, the queue, and the lines of the calls that were performed so far
pub record Settling : Type 0 where
  pub objects : Objects
  pub queue : List Suspended
  pub lines : List Line

abbrev pub guard_of : Tried → ℕ
guard_of tried.Blocked = 0
guard_of (tried.Did guard state reply) = guard
guard_of (tried.Broke guard fault) = guard

abbrev pub reply_of : Tried → Reply
reply_of tried.Blocked = answer.Done
reply_of (tried.Did guard state reply) = reply
reply_of (tried.Broke guard fault) = answer.Broke fault

-- the line of a call, by what its try gave
abbrev pub answered : Suspended → Tried → Line
answered call t = record {
  process = call.process;
  call = call.call;
  action = action.Call call.kind call.op call.object call.args;
  guard = guard_of t;
  reply = reply_of t;
}

abbrev pub objects_if : Objects → Suspended → Tried → Option Instance → Objects
objects_if objects call t None = objects
objects_if objects call t (Some kept) = after_try objects call.object kept t

-- the objects after a call, by what its try gave
abbrev pub objects_with : Objects → Suspended → Tried → Objects
objects_with objects call t = objects_if objects call t (object_at objects call.object)

-- the objects with this state put in, where there is one
abbrev pub with_state : Objects → ObjectId → Option Instance → Objects
with_state objects object None = objects
with_state objects object (Some kept) = with_object objects object kept

-- the call at this place, whose try gave t, is performed or faults, and leaves the queue
abbrev pub taken : Settling → ℕ → Tried → Option Suspended → Settling
taken s at t None = s
taken s at t (Some call) = record {
  objects = objects_with s.objects call t;
  queue = remove s.queue at;
  lines = s.lines ++ answered call t ∷ [];
}

abbrev pub performed : Performs → Settling → ℕ → Option Suspended → Settling
performed p s at None = s
performed p s at (Some call) = taken s at (tried_in p s.objects call) (Some call)

-- the oldest ready call is performed or faults, if there is one
abbrev pub stepped : Performs → Settling → Option ℕ → Settling
stepped p s None = s
stepped p s (Some at) = performed p s at (slice_get s.queue at)

-- so many times
abbrev pub settle_up_to : Performs → ℕ → Settling → Settling
settle_up_to p zero s = s
settle_up_to p (suc n) s = settle_up_to p n (stepped p s (next_ready p s.objects s.queue))

-- repeatedly: each time a call leaves the queue, so there are no more times than calls
abbrev pub settled_from : Performs → Settling → Settling
settled_from p s = settle_up_to p (length s.queue) s

abbrev pub settled : Performs → Objects → List Suspended → Settling
settled p objects queue = settled_from p (record { objects = objects; queue = queue; lines = [] })

abbrev pub lines_of : List Answered → List Line
lines_of all = map (λ (a : Answered). a.line) all

-- lines that were there before stay in front
abbrev pub behind : List Line → Settling → Settling
behind lines s = record { objects = s.objects; queue = s.queue; lines = lines ++ s.lines }

-- the objects and the queue as they stand, with the lines so far
abbrev pub stands : Objects → List Suspended → Vec Answered Global → Settling
stands objects queue lines = record { objects = objects; queue = queue; lines = lines_of lines.items }
