-- Each world of a run follows a course of the book's law, whose list is the run's.
use Rattle.std.specs.Prelude.{◌≡◌, List}
use Rattle.value_core.specs.Meaning.{Computes, Performs}
use Rattle.book_law.specs.Course.{Course}
use Rattle.book_law.specs.Passes.{Test}
use Rattle.world_rules.specs.declared.event.Step.{Step}
use Rattle.world_rules.specs.Frame.{AreSettings, Frame}
use Rattle.world_rules.specs.Steps.{Replays}
use Rattle.world_rules.specs.Worlds.{World, agreed}
use Rattle.world_course.specs.Corresponds.{Agrees}
use Rattle.world_course.specs.Errands.{Follows}

-- by a test of which objects are single
pub record HasCourse (f : Frame) (single : Test) (w : World) : Type 0 where
  pub course : Course
  pub follows : Follows f single w course
  pub list : course.list ≡ agreed f w

-- so it is in every run of a program with these meanings, by each test that agrees with the choices of the processes that exist: the
-- run's own is one
abbrev pub RunsFollow : Performs → Computes → Type 0
RunsFollow p q =
    (f : Frame) → f.performs ≡ p → f.computes ≡ q → AreSettings f.settings → (steps : List Step) (w : World) →
    Replays f steps w → (single : Test) → Agrees f single (agreed f w) → HasCourse f single w
