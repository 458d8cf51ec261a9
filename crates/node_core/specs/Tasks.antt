-- Bursts as tasks: what is handed out to be computed on, what was computed, and what the types of both keep.
use Rattle.std.specs.Prelude.{◌≡◌, ◌≤◌, ◌+◌, ℕ, IsTrue, List, length, Option, None, Some, is_some}
use Rattle.orca_base.specs.declared.ids.CallNo.{CallNo}
use Rattle.orca_base.specs.declared.ids.ProcessNo.{ProcessNo}
use Rattle.value_core.specs.History.{Objects, object_at}
use Rattle.value_core.specs.Meaning.{Performs}
use Rattle.value_core.specs.declared.action.Action.{Action}
use Rattle.value_core.specs.declared.action.Action.TheVariants as action
use Rattle.value_core.specs.declared.action.Class.TheVariants.{Reads}
use Rattle.value_core.specs.declared.action.Line.{Line}
use Rattle.value_core.specs.declared.action.Reply.{Reply}
use Rattle.value_core.specs.declared.action.Reply.TheVariants as answer
use Rattle.value_core.specs.declared.meaning.Tried.{Tried}
use Rattle.value_core.specs.declared.meaning.Tried.TheVariants as tried
use Rattle.value_core.specs.declared.processor.Halt.{Halt}
use Rattle.value_core.specs.declared.processor.Halt.TheVariants as halt
use Rattle.guard_queue.specs.Settles.{guard_of, reply_of}
use Rattle.object_manager.specs.Viewed.{ReadFits, Viewed}
use Rattle.book_law.specs.Fitness.{ArgsFit, StateFits}
use Rattle.world_rules.specs.Bursts.{Ran, is_answered, is_end, last_turn, read_on}
use Rattle.world_rules.specs.Frame.{Frame}
use Rattle.world_rules.specs.Played.{Played, stage_at}
use Rattle.node_rules.specs.Bursting.{BurstFits}
use Rattle.node_rules.specs.Conditions.{Fitness}
use Rattle.node_parts.specs.Shown.{Left, LeftAt, Stood, on_stage}
use Rattle.node_parts.specs.declared.resident.Stage.{Stage}
use Rattle.node_core.specs.declared.task.Came.{Came}
use Rattle.node_core.specs.declared.task.Came.TheVariants as came

-- a task: its process, the state in which that stands, how many replies it received, the view that answers its reads, and how many turns
-- it may take
pub record Tasked (S : Type 0) : Type 0 where
  pub process : ProcessNo
  pub start : S
  pub calls : ℕ
  pub view : Viewed
  pub budget : ℕ

-- what was computed from one: the turns that the process took in all, the state and the stage in which it stands then, and the reads that
-- the view answered
pub record Computed (S : Type 0) : Type 0 where
  pub process : ProcessNo
  pub start : S
  pub calls : ℕ
  pub view : Viewed
  pub turns : ℕ
  pub end : S
  pub stage : Stage
  pub reads : List Line

-- ---- what the types keep

-- this state of process i, which received so many replies, stands for r
pub record IsStart {S : Type 0} (stood : Stood S) (i : ProcessNo) (start : S) (calls : ℕ) (r : Played) : Type 0 where
  pub state : stood start r.text i r.args r.replies r.turns
  pub replies : calls ≡ length r.replies

-- the task's start stands for a process of which a burst may be computed on its view; and its budget is that burst's
pub record MayRun {S : Type 0} (stood : Stood S) (f : Frame) (fitness : Fitness) (task : Tasked S) : Type 0 where
  pub played : Played
  pub is : IsStart stood task.process task.start task.calls played
  pub fits : BurstFits f fitness task.process task.view played
  pub turns : played.turns + task.budget ≡ last_turn f played

-- that was computed from the task
pub record IsOf {S : Type 0} (task : Tasked S) (done : Computed S) : Type 0 where
  pub process : done.process ≡ task.process
  pub start : done.start ≡ task.start
  pub calls : done.calls ≡ task.calls
  pub view : done.view ≡ task.view

-- from r on the process ran so, by the rules, and it is the other one then
pub record HasEnded {S : Type 0} (stood : Stood S) (left : Left S) (f : Frame) (done : Computed S) (r ended : Played) : Type 0 where
  pub ran : Ran f done.view.objects done.view.place done.process (last_turn f r) r done.reads ended
  pub state : stood done.end ended.text done.process ended.args ended.replies ended.turns
  pub halts : LeftAt left done.end ended.stage
  pub turns : done.turns ≡ ended.turns
  pub least : r.turns ≤ ended.turns
  pub most : ended.turns ≤ last_turn f r
  pub stage : on_stage done.stage ≡ ended.stage

-- so did whichever process the start stands for
abbrev pub HasRun : {S : Type 0} → Stood S → Left S → Frame → Computed S → Type 0
HasRun stood left f done =
    (r : Played) → IsStart stood done.process done.start done.calls r → (ended : Played) × HasEnded stood left f done r ended

-- ---- at a halt

-- where the action is a read of one of these objects, it may be tried
abbrev pub MayAnswer : Performs → StateFits → ArgsFit → Objects → Action → Type 0
MayAnswer p state args objects (action.Call kind op object given) =
    IsTrue (is_some (object_at objects object)) → p.class_of kind op ≡ Reads → ReadFits state args objects kind op object given
MayAnswer p state args objects (action.Make kind object) = Unit {0}
MayAnswer p state args objects (action.Fork text given place_on) = Unit {0}
MayAnswer p state args objects action.Ended = Unit {0}
MayAnswer p state args objects (action.Faulted fault) = Unit {0}

-- the guard and the reply of a try that isn't blocked
abbrev pub answer_of : Tried → Option (ℕ × Reply)
answer_of tried.Blocked = None
answer_of (tried.Did guard state reply) = Some (guard, reply)
answer_of (tried.Broke guard fault) = Some (guard, answer.Broke fault)

-- what comes of a halt: at a read that the objects answer, its line; else the burst ends, at the rules' stage
abbrev pub IsCame : Frame → Objects → ProcessNo → CallNo → Halt → Came → Type 0
IsCame f objects i call at_halt (came.Read line) =
    (act : Action) × (at_halt ≡ halt.At act) × IsTrue (is_answered f objects act)
    × (line ≡ record {
      process = i;
      call = call;
      action = act;
      guard = guard_of (read_on f.performs objects act);
      reply = reply_of (read_on f.performs objects act);
    })
IsCame f objects i call at_halt (came.End stage) = IsTrue (is_end f objects at_halt) × (on_stage stage ≡ stage_at at_halt)
