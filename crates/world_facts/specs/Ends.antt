-- Where members and processes stand at the end of a run: what is kept of them.
use Rattle.std.specs.Prelude.{◌≡◌, ◌<◌, ◌≤◌, ◌++◌, ℕ, zero, suc, not, if◌then◌else◌, Bool, true, false, List, [], ◌∷◌, length, Option, None, Some, slice_get}
use Rattle.orca_base.specs.declared.fault.FaultKind.{FaultKind}
use Rattle.orca_base.specs.declared.ids.ProcessNo.{ProcessNo}
use Rattle.value_core.specs.History.{Objects, most_turns}
use Rattle.value_core.specs.Lawful.{next_of}
use Rattle.value_core.specs.Meaning.{Computes}
use Rattle.value_core.specs.declared.action.Action.{Action}
use Rattle.value_core.specs.declared.action.Action.TheVariants as action
use Rattle.value_core.specs.declared.action.Reply.{Reply}
use Rattle.value_core.specs.declared.meaning.Doing.{Doing}
use Rattle.value_core.specs.declared.meaning.Doing.TheVariants as doing
use Rattle.world_rules.specs.declared.event.Step.{Step}
use Rattle.world_rules.specs.declared.standing.Standing.TheVariants as row
use Rattle.world_rules.specs.Frame.{Frame}
use Rattle.world_rules.specs.Played.{Played, Stage}
use Rattle.world_rules.specs.Played.Stage.{Computing, Acting, Submitted, Reading, Asking, Over}
use Rattle.world_rules.specs.Standings.{process_count, standing}
use Rattle.world_rules.specs.Steps.{Replays}
use Rattle.world_rules.specs.Worlds.{World, home_of, played_in}
use Rattle.world_facts.specs.Processes.{is_last}

-- ---- processes

-- it ended; it ended by this fault; it is at this action, to which it has no reply; it computes, or hasn't begun; or its member crashed
-- before it ended
pub data Stand : Type 0 where
  Ended : Stand
  Faulted : (fault : FaultKind) → Stand
  Waits : (act : Action) → Stand
  Busy : Stand
  Crashed : Stand

abbrev pub end_over : Action → Stand
end_over action.Ended = Stand.Ended
end_over (action.Faulted fault) = Stand.Faulted fault
end_over (action.Make kind object) = Stand.Waits (action.Make kind object)
end_over (action.Call kind op object args) = Stand.Waits (action.Call kind op object args)
end_over (action.Fork text args place_on) = Stand.Waits (action.Fork text args place_on)

-- by its stage, where its member lives
abbrev pub end_living : Stage → Stand
end_living Computing = Stand.Busy
end_living (Acting act) = Stand.Waits act
end_living (Submitted act) = Stand.Waits act
end_living (Reading act) = Stand.Waits act
end_living (Asking act) = Stand.Waits act
end_living (Over act) = end_over act

-- on a crashed member it has ended or faulted if it had before
abbrev pub end_crashed : Stage → Stand
end_crashed Computing = Stand.Crashed
end_crashed (Acting act) = Stand.Crashed
end_crashed (Submitted act) = Stand.Crashed
end_crashed (Reading act) = Stand.Crashed
end_crashed (Asking act) = Stand.Crashed
end_crashed (Over act) = end_over act

abbrev pub end_at : Bool → Stage → Stand
end_at lives stage = if lives then end_living stage else end_crashed stage

-- whether its member lives, and what it knows of it
abbrev pub end_of : Bool → Option Played → Stand
end_of lives None = if lives then Stand.Busy else Stand.Crashed
end_of lives (Some r) = end_at lives r.stage

-- its member, its replies, the turns that it took, and where it stands
pub record ProcessEnd : Type 0 where
  pub node : ℕ
  pub replies : List Reply
  pub turns : ℕ
  pub stand : Stand

abbrev pub replies_in : Option Played → List Reply
replies_in None = []
replies_in (Some r) = r.replies

abbrev pub turns_in : Option Played → ℕ
turns_in None = 0
turns_in (Some r) = r.turns

abbrev pub process_end : Frame → World → ℕ → ProcessEnd
process_end f w i = record {
  node = home_of f w i;
  replies = replies_in (played_in f w i);
  turns = turns_in (played_in f w i);
  stand = end_of (w.lives (home_of f w i)) (played_in f w i);
}

-- ---- members

-- how many entries it applied, the incarnation that it installed last, whether it crashed, whether it is outside, its replicated objects,
-- and the single ones that it keeps
pub record NodeEnd : Type 0 where
  pub applied : ℕ
  pub incarnation : ℕ
  pub crashed : Bool
  pub outside : Bool
  pub copies : Objects
  pub own : Objects

abbrev pub node_end : World → ℕ → NodeEnd
node_end w m = record {
  applied = (w.nodes m).member.applied;
  incarnation = (w.nodes m).member.installed;
  crashed = not (w.lives m);
  outside = (w.nodes m).member.outside;
  copies = (w.nodes m).copies.objects;
  own = (w.nodes m).copies.own;
}

-- ---- all of them, by their numbers

abbrev pub listed : {A : Type 0} → ℕ → (ℕ → A) → List A
listed zero each = []
listed (suc n) each = listed n each ++ each n ∷ []

abbrev pub process_ends : Frame → World → List ProcessEnd
process_ends f w = listed (process_count f w) (process_end f w)

abbrev pub node_ends : Frame → World → List NodeEnd
node_ends f w = listed f.settings.nodes (node_end w)

-- ---- what they say

-- a process that exists, on a living member
abbrev pub Lives : Frame → World → ℕ → Type 0
Lives f w i = (i < process_count f w) × (w.lives (home_of f w i) ≡ true)

-- `busy`, only of a living member; `crashed`, only of a crashed one. Where the run stands at Faulted some process has faulted, and where it
-- is Blocked some process of a living member waits
pub record EndsStand (f : Frame) (w : World) : Type 0 where
  pub nodes : length (node_ends f w) ≡ f.settings.nodes
  pub node : (m : ℕ) → m < f.settings.nodes → slice_get (node_ends f w) m ≡ Some (node_end w m)
  pub processes : length (process_ends f w) ≡ process_count f w
  pub process : (i : ℕ) → i < process_count f w → slice_get (process_ends f w) i ≡ Some (process_end f w i)
  pub busy : (i : ℕ) → (process_end f w i).stand ≡ Stand.Busy → w.lives (home_of f w i) ≡ true
  pub crashed : (i : ℕ) → (process_end f w i).stand ≡ Stand.Crashed → w.lives (home_of f w i) ≡ false
  pub faulted :
      standing f w ≡ row.Faulted →
      (i : ℕ) × (i < process_count f w) × ((fault : FaultKind) × ((process_end f w i).stand ≡ Stand.Faulted fault))
  pub blocked : standing f w ≡ row.Blocked → (i : ℕ) × Lives f w i × ((act : Action) × ((process_end f w i).stand ≡ Stand.Waits act))

-- and at the end of a run that has finished each process of a living member has ended
abbrev pub FinishedEnds : Frame → World → Type 0
FinishedEnds f w = standing f w ≡ row.Finished → (i : ℕ) → Lives f w i → (process_end f w i).stand ≡ Stand.Ended

abbrev pub AllEndsStand : Type 0
AllEndsStand = (f : Frame) (w : World) → EndsStand f w

abbrev pub FinishedRunsEnd : Type 0
FinishedRunsEnd = (f : Frame) (steps : List Step) (w : World) → Replays f steps w → FinishedEnds f w

-- ---- and what they say of what a process does next, after its replies

-- it ended, or faulted so, or waits for the reply to this action; of one that computes, or whose member crashed, nothing is said
abbrev pub StandsBy : Doing → Stand → Type 0
StandsBy next Stand.Ended = next ≡ doing.At action.Ended
StandsBy next (Stand.Faulted fault) = next ≡ doing.At (action.Faulted fault)
StandsBy next (Stand.Waits act) = (next ≡ doing.At act) × (is_last act ≡ false)
StandsBy next Stand.Busy = Unit {0}
StandsBy next Stand.Crashed = Unit {0}

-- so it is of each process that its member began, in every run of processes with these meanings
abbrev pub EndsMean : Computes → Type 0
EndsMean q =
    (f : Frame) → f.computes ≡ q → f.settings.turns ≤ most_turns → (steps : List Step) (w : World) → Replays f steps w →
    (i : ProcessNo) (r : Played) → played_in f w i.0 ≡ Some r →
    StandsBy (next_of q r.text i r.args r.replies) (process_end f w i.0).stand
