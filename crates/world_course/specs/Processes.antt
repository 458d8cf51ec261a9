-- A process of a world, and the process of a course that it is.
use Rattle.std.specs.Prelude.{◌≡◌, ◌<◌, ◌≤◌, ℕ, Option, None, Some}
use Rattle.value_core.specs.declared.action.Action.{Action}
use Rattle.value_core.specs.declared.message.Message.{Message}
use Rattle.value_core.specs.declared.meaning.Doing.TheVariants as doing
use Rattle.value_core.specs.History.{most_turns}
use Rattle.value_core.specs.Meaning.{Computes}
use Rattle.book_law.specs.Events.{Runner, newborn}
use Rattle.world_rules.specs.Nodes.{Node}
use Rattle.world_rules.specs.Played.{Played, Stage}
use Rattle.world_rules.specs.Played.Stage.{Computing, Acting, Submitted, Reading, Asking, Over}
use Rattle.world_rules.specs.Processes.{Begun}

-- the next action of process j, which is x
abbrev pub IsAt : Computes → ℕ → Runner → Action → Type 0
IsAt q j x act = q.doing x.text (record { 0 = j }) x.args x.replies most_turns ≡ doing.At act

-- it has no message out, and is at this action
abbrev pub IsFreeAt : Computes → ℕ → Runner → Action → Type 0
IsFreeAt q j x act = (x.message ≡ None) × IsAt q j x act

-- it has a message of this action out
abbrev pub IsOut : Runner → Action → Type 0
IsOut x act = (m : Message) × (x.message ≡ Some m) × (m.action ≡ act)

-- where it stands: whose message was submitted, or who asked an owner, has its message out; no other has one
abbrev pub StageStands : Computes → ℕ → Runner → Stage → Type 0
StageStands q j x Computing = x.message ≡ None
StageStands q j x (Acting act) = IsFreeAt q j x act
StageStands q j x (Submitted act) = IsOut x act
StageStands q j x (Reading act) = IsFreeAt q j x act
StageStands q j x (Asking act) = IsOut x act
StageStands q j x (Over act) = IsFreeAt q j x act

-- process j as its member knows it is this one of the course
pub record IsRunner (q : Computes) (j : ℕ) (r : Played) (x : Runner) : Type 0 where
  pub text : x.text ≡ r.text
  pub args : x.args ≡ r.args
  pub replies : x.replies ≡ r.replies
  pub place : x.place ≡ r.place
  pub stage : StageStands q j x r.stage

-- a process as its fork made it
abbrev pub as_runner : Begun → Runner
as_runner b = newborn b.home b.text b.args b.place

-- at its member, which applied n entries: before these have its fork it hasn't begun, and is as it was made; later it is as its member
-- knows it, at a place up to n
abbrev pub StandsHere : Computes → ℕ → Begun → Runner → ℕ → Option Played → Type 0
StandsHere q j b x n None = (n < b.place) × (x ≡ as_runner b)
StandsHere q j b x n (Some r) = (b.place ≤ n) × (r.place ≤ n) × IsRunner q j r x

-- process j began so, and this is its member: the course has it
pub record IsProcess (q : Computes) (j : ℕ) (b : Begun) (here : Option Runner) (node : Node) : Type 0 where
  pub runner : Runner
  pub runs : here ≡ Some runner
  pub member : runner.member ≡ b.home
  pub stands : StandsHere q j b runner node.copies.applied (node.played j)
