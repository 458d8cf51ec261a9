-- Which limit stops a member: after each step a living member stands before no accepted entry but one that a limit refuses, so that what the
-- entry does tells which limit it is.
use Rattle.std.specs.Prelude.{◌≡◌, ◌<◌, ◌≤◌, ℕ, true, List, Option, None, Some}
use Rattle.orca_base.specs.declared.limits.TheConstants.{OBJECTS, PROCESSES}
use Rattle.orca_base.specs.declared.what.What.{What}
use Rattle.orca_base.specs.declared.what.What.TheVariants as what
use Rattle.value_core.specs.Meaning.{Computes, Performs}
use Rattle.value_core.specs.declared.action.Action.{Action}
use Rattle.value_core.specs.declared.action.Action.TheVariants as action
use Rattle.value_core.specs.declared.message.Message.{Message}
use Rattle.world_rules.specs.declared.event.Step.{Step}
use Rattle.world_rules.specs.Frame.{AreSettings, Frame}
use Rattle.world_rules.specs.Nodes.{Node}
use Rattle.world_rules.specs.Standings.{limit_at}
use Rattle.world_rules.specs.Steps.{Replays}
use Rattle.world_rules.specs.Worlds.{World}
use Rattle.node_rules.specs.Moments.{IsDue}

-- the limit that an action can meet
abbrev pub limit_of : Action → Option (What × ℕ)
limit_of (action.Make kind object) = Some (what.Objects, OBJECTS)
limit_of (action.Fork text args place_on) = Some (what.Processes, PROCESSES)
limit_of (action.Call kind op object args) = None
limit_of action.Ended = None
limit_of (action.Faulted fault) = None

-- `none`, no limit stops a member that applied all that it knows to be accepted; `due`, before its next accepted entry it is this one;
-- `kept`, that entry isn't purged
pub record StopsBefore (f : Frame) (node : Node) : Type 0 where
  pub none : node.member.accepted ≤ node.copies.applied → limit_at f node ≡ None
  pub due : (x : Message) → IsDue node x → limit_at f node ≡ limit_of x.action
  pub kept : node.copies.applied < node.member.accepted → (node.member.base ≤ node.copies.applied) × ((x : Message) × IsDue node x)

-- so it is of each living member in every run of a program with these meanings, by settings that a run may have
abbrev pub AllStopBefore : Performs → Computes → Type 0
AllStopBefore p q =
    (f : Frame) → f.performs ≡ p → f.computes ≡ q → AreSettings f.settings → (steps : List Step) (w : World) → Replays f steps w →
    (m : ℕ) → m < f.settings.nodes → w.lives m ≡ true → StopsBefore f (w.nodes m)
