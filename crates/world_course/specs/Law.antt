-- What is proved of worlds and courses.
use Rattle.std.specs.Prelude.{◌≡◌, ◌≤◌, ℕ, []}
use Rattle.orca_base.specs.declared.ids.CallNo.{CallNo}
use Rattle.orca_base.specs.declared.ids.ProcessNo.{ProcessNo}
use Rattle.value_core.specs.declared.action.Reply.{Reply}
use Rattle.guard_queue.specs.declared.queue.Suspended.{Suspended}
use Rattle.object_manager.specs.State.{message_of}
use Rattle.value_core.specs.Meaning.{Performs, Computes}
use Rattle.book_law.specs.Passes.{Test}
use Rattle.book_law.specs.Replicated.{all_replicated}
use Rattle.book_law.specs.Course.{Came, Course, opening_course}
use Rattle.world_rules.specs.declared.event.Step.{Step}
use Rattle.world_rules.specs.Frame.{AreSettings, Frame}
use Rattle.world_rules.specs.Mail.{Errand}
use Rattle.world_rules.specs.Nodes.{NodeWork, plays}
use Rattle.world_rules.specs.Played.{Played, moves_to}
use Rattle.world_rules.specs.Played.Stage.{Asking}
use Rattle.world_rules.specs.OneCell.{actions, one_cell}
use Rattle.world_rules.specs.Owners.{performs_call, takes_answer}
use Rattle.world_rules.specs.Programs.{two_texts}
use Rattle.world_rules.specs.Steps.{Next}
use Rattle.world_rules.specs.Worlds.{World, opening_world}
use Rattle.world_course.specs.Chain.{Leads}
use Rattle.world_course.specs.Corresponds.{Agrees, Corresponds, Lifts}
use Rattle.world_course.specs.Errands.{ErrandStands, Follows, FollowsOn, IsAnswer, IsCaller, MayTake}
use Rattle.world_course.specs.Gives.{AgreesIn, GivesEvent}
use Rattle.world_course.specs.Works.{at_work}

-- before the first step: process 0 is on member 0
abbrev pub OpeningFollows : Frame → Type 0
OpeningFollows f = (single : Test) → Agrees f single [] → Follows f single (opening_world f) (opening_course f.computes 0)

-- a step of a world is a chain of events of its course, for each test that agrees with the choices of the processes that exist after it;
-- and Asks and Answers go on standing for the course
abbrev pub StepsLift : Frame → Type 0
StepsLift f =
    (single : Test) (w v : World) (c : Course) (step : Step) → Follows f single w c → Next f w step v →
    GivesEvent f w step.event → AgreesIn f single v → FollowsOn f single c v

-- ---- single copies, piece by piece

-- a call that an owner takes: it and the calls that it lets run stand beside the list, and the owner's own processes hear their lines
abbrev pub CallsLift : Frame → Type 0
CallsLift f =
    (single : Test) (w : World) (c : Course) (m : ℕ) (call : Suspended) (v : NodeWork) → Corresponds f single (at_work f m w v) c →
    MayTake f single c m call v → Lifts f single c (at_work f m w (performs_call f m (message_of call) v))

-- a process whose call is on an object that its own member keeps: it submits the call, the owner takes it, and it may hear it at once
abbrev pub OwnCallsLift : Frame → Type 0
OwnCallsLift f =
    (single : Test) (w : World) (c : Course) (m i : ℕ) (r : Played) (call : Suspended) (v : NodeWork) →
    Corresponds f single (at_work f m w v) c → IsCaller f single c m i r call v →
    Lifts f single c
    (at_work f m w (performs_call f m (message_of call) (plays i (moves_to (Asking (message_of call).action) r) v)))

-- an Answer whose place is reached: its process hears it, or it is an old one and does nothing
abbrev pub AnswersLift : Frame → Type 0
AnswersLift f =
    (single : Test) (w : World) (c : Course) (m place : ℕ) (i : ProcessNo) (call : CallNo) (reply : Reply) (v : NodeWork) →
    Corresponds f single (at_work f m w v) c → IsAnswer c place i call reply → place ≤ v.node.copies.applied →
    Lifts f single c (at_work f m w (takes_answer place i call reply v))

-- an Ask or Answer that stands for a course stands for each course that comes from it, however late it is taken
abbrev pub ErrandsStay : Frame → Type 0
ErrandsStay f =
    (single : Test) (c d : Course) (m : ℕ) (errand : Errand) → Came single f.performs f.computes c →
    Leads single f.performs f.computes c d → ErrandStands f single c m errand → ErrandStands f single d m errand

-- `opening` and `steps` are of whole worlds; the others of single copies
pub record AreCourses (f : Frame) : Type 0 where
  pub opening : OpeningFollows f
  pub steps : StepsLift f
  pub calls : CallsLift f
  pub own_calls : OwnCallsLift f
  pub answers : AnswersLift f
  pub errands : ErrandsStay f

-- so it is in every run of a program with these meanings, by settings that a run may have
abbrev pub RunsAreCourses : Performs → Computes → Type 0
RunsAreCourses p q = (f : Frame) → f.performs ≡ p → f.computes ≡ q → AreSettings f.settings → AreCourses f

-- ---- the premises can be met: the run of one cell, at its opening

pub record IsOneCell : Type 0 where
  pub opening : Follows one_cell all_replicated (opening_world one_cell) (opening_course (two_texts actions []) 0)
