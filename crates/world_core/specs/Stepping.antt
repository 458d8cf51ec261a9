-- What the calls say that do an event, hand out a task or take one back.
use Rattle.std.specs.Prelude.{◌≡◌, ◌≤◌, ◌+◌, ◌++◌, ◌∷◌, [], ◌==◌, ◌&&◌, ◌||◌, if◌then◌else◌, ℕ, Bool, true, false, List, length, Option, None, Some, map}
use Rattle.std.specs.List.{AllByRecursion as Each}
use Rattle.net_rules.specs.declared.asked.Asked.{Asked}
use Rattle.net_rules.specs.declared.asked.Asked.TheVariants.{Packet}
use Rattle.object_manager.specs.Viewed.{Viewed}
use Rattle.orca_base.specs.declared.ids.ProcessNo.{ProcessNo}
use Rattle.world_rules.specs.Bursts.{last_turn}
use Rattle.world_rules.specs.declared.event.Event.{Event}
use Rattle.world_rules.specs.declared.event.Event.TheVariants as event
use Rattle.world_rules.specs.declared.event.Step.{Step}
use Rattle.world_rules.specs.declared.standing.Standing.{Standing}
use Rattle.world_rules.specs.declared.standing.Standing.TheVariants as row
use Rattle.world_rules.specs.declared.standing.Standing.TheVariants.{Going}
use Rattle.world_rules.specs.Frame.{Frame}
use Rattle.world_rules.specs.Played.{Played}
use Rattle.world_rules.specs.Played.Stage.{Computing}
use Rattle.world_rules.specs.Standings.{standing}
use Rattle.world_rules.specs.Steps.{Next, objects_after}
use Rattle.world_rules.specs.Worlds.{Told, World, home_of, played_in}
use Rattle.world_calls.specs.Law.{view_of}
use Rattle.world_facts.specs.Possible.{MayStep}
use Rattle.node_core.specs.Tasks.{Computed, Tasked}
use Rattle.world_parts.specs.Seen.{Of, Out, Seen, out_at}

-- ---- events

-- a question about a packet, with its fate, as a wire tells it
abbrev pub told_so : Told → Asked
told_so one = Packet one.question one.fate

-- the step leads from the world of these steps to another, and a wire was asked of the packets that it sent, and nothing else: they are
-- told of the wire in use
pub record Leads (f : Frame) (w : World) (step : Step) (before after : List Asked) : Type 0 where
  pub world : World
  pub next : Next f w step world
  pub more : List Told
  pub told : world.told ≡ w.told ++ more
  pub asked : after ≡ before ++ map told_so more
  pub wire : Each (λ (one : Told). one.wire ≡ world.swaps) more

-- the event was done, which is the last step now
pub record Stepped {S : Type 0} (f : Frame) (event : Event) (old new : Seen S) (before after : List Asked) : Type 0 where
  pub step : Step
  pub event_is : step.event ≡ event
  pub steps : new.steps ≡ old.steps ++ step ∷ []
  pub leads : Of f old (λ w. Leads f w step before after)

-- the event isn't possible
abbrev pub IsRefused : {S : Type 0} → Frame → Event → Seen S → Type 0
IsRefused f event s = Of f s (λ w. MayStep f w event → ⊥)

-- no task is out that wasn't
abbrev pub OutBefore : {S : Type 0} → Seen S → Seen S → Type 0
OutBefore {S} old new = (m i : ℕ) (task : Out S) → out_at new m i ≡ Some task → out_at old m i ≡ Some task

-- the event is a burst of process i at its member m
abbrev pub is_burst_of : Frame → World → Event → ℕ → ℕ → Bool
is_burst_of f w (event.Burst process place turns) m i = (m == home_of f w process.0) && (i == process.0)
is_burst_of f w (event.Act process) m i = false
is_burst_of f w (event.Deliver packet copy) m i = false
is_burst_of f w event.Tick m i = false
is_burst_of f w (event.Crash node) m i = false
is_burst_of f w (event.Suspect node) m i = false
is_burst_of f w event.Swap m i = false

-- it crashes member m
abbrev pub is_crash_of : Event → ℕ → Bool
is_crash_of (event.Crash node) m = m == node
is_crash_of (event.Burst process place turns) m = false
is_crash_of (event.Act process) m = false
is_crash_of (event.Deliver packet copy) m = false
is_crash_of event.Tick m = false
is_crash_of (event.Suspect node) m = false
is_crash_of event.Swap m = false

-- of each process at each member the task that is out is as it was: but a burst ends that of its process, and a crash those of its member
abbrev pub KeepsOut : {S : Type 0} → Frame → Event → Seen S → Seen S → Type 0
KeepsOut f event old new =
    Of f old (λ w. (m i : ℕ) → out_at new m i ≡ (if is_burst_of f w event m i || is_crash_of event m then None else out_at old m i))

-- the run is going
abbrev pub is_going : Standing → Bool
is_going row.Going = true
is_going (row.Limit what number) = false
is_going row.OutOfTurns = false
is_going row.OutOfEvents = false
is_going row.NoGroup = false
is_going row.Faulted = false
is_going row.Blocked = false
is_going row.Finished = false

-- ---- tasks

abbrev pub out_as : {S : Type 0} → S → ℕ → Viewed → Out S
out_as start calls view = record { start = start; calls = calls; view = view }

-- the task of process i that is out at member m, which lives: the process computes, and the task is over a view of the member's objects at
-- a place that it applied, which isn't before the process's
pub record IsOutAt {S : Type 0} (f : Frame) (w : World) (m i : ℕ) (task : Out S) : Type 0 where
  pub home : home_of f w i ≡ m
  pub lives : w.lives m ≡ true
  pub played : Played
  pub here : played_in f w i ≡ Some played
  pub computing : played.stage ≡ Computing
  pub calls : task.calls ≡ length played.replies
  pub after : played.place ≤ task.view.place
  pub before : task.view.place ≤ (w.nodes m).member.applied
  pub objects : task.view.objects ≡ objects_after f (w.nodes m) task.view.place

-- each that is out is so
abbrev pub AreOut : {S : Type 0} → Frame → Seen S → Type 0
AreOut {S} f s = Of f s (λ w. (m i : ℕ) (task : Out S) → out_at s m i ≡ Some task → IsOutAt f w m i task)

-- of process i at its member the task that is out is this one, or none, and all others are as they were
abbrev pub PutsOut : {S : Type 0} → Frame → ProcessNo → Option (Out S) → Seen S → Seen S → Type 0
PutsOut f i task old new =
    Of f old (λ w. (m j : ℕ) → out_at new m j ≡ (if (m == home_of f w i.0) && (j == i.0) then task else out_at old m j))

-- the task is of this process, over its member's view, for the turns that it has left, up to a burst's; and it is out now
pub record HandsOutOf {S : Type 0} (f : Frame) (process : ProcessNo) (task : Tasked S) (old new : Seen S) : Type 0 where
  pub process_is : task.process ≡ process
  pub view : Of f old (λ w. task.view ≡ view_of (w.nodes (home_of f w process.0)))
  pub budget : Of f old (λ w. (r : Played) → played_in f w process.0 ≡ Some r → r.turns + task.budget ≡ last_turn f r)
  pub out : PutsOut f process (Some (out_as task.start task.calls task.view)) old new

-- the task that is out of its process is the one from which this was computed
abbrev pub IsFor : {S : Type 0} → Frame → Computed S → Seen S → World → Type 0
IsFor f done s w = out_at s (home_of f w done.process.0) done.process.0 ≡ Some (out_as done.start done.calls done.view)

-- the burst was done that was computed from the task of its process that was out, which sends nothing: the last step now
pub record ChecksIn {S : Type 0} (f : Frame) (done : Computed S) (old new : Seen S) : Type 0 where
  pub turns : ℕ
  pub was : Of f old (IsFor f done old)
  pub steps : new.steps ≡ old.steps ++ record { event = event.Burst done.process done.view.place turns; fates = [] } ∷ []
  pub leads :
      Of f old (λ w. (v : World) × Next f w (record { event = event.Burst done.process done.view.place turns; fates = [] }) v × (v.told ≡ w.told))
  pub took : Of f old (λ w. (r : Played) → played_in f w done.process.0 ≡ Some r → r.turns + turns ≡ done.turns)
  pub out : PutsOut f done.process None old new

-- the process computed on its member's copies as they are, which is a burst of it and sends nothing: the last step now
pub record HasComputed {S : Type 0} (f : Frame) (process : ProcessNo) (old new : Seen S) : Type 0 where
  pub place : ℕ
  pub turns : ℕ
  pub now : Of f old (λ w. place ≡ (w.nodes (home_of f w process.0)).copies.applied)
  pub steps : new.steps ≡ old.steps ++ record { event = event.Burst process place turns; fates = [] } ∷ []
  pub leads :
      Of f old (λ w. (v : World) × Next f w (record { event = event.Burst process place turns; fates = [] }) v × (v.told ≡ w.told))

-- the run isn't going, or the task that is out of its process is another, or none is: it is handed back
pub record IsAstray {S : Type 0} (f : Frame) (done back : Computed S) (old : Seen S) : Type 0 where
  pub given : back ≡ done
  pub other : Of f old (λ w. standing f w ≡ Going → IsFor f done old w → ⊥)
