-- What the group's side says where what is submitted may be submitted, holds of every run.
use Rattle.std.specs.Prelude.{◌≡◌, ◌≤◌, ℕ, List}
use Rattle.value_core.specs.Meaning.{Computes, Performs}
use Rattle.world_rules.specs.declared.event.Step.{Step}
use Rattle.world_rules.specs.Frame.{AreSettings, Frame}
use Rattle.world_rules.specs.Steps.{Next, Replays, objects_after}
use Rattle.world_rules.specs.Worlds.{World}
use Rattle.world_law.specs.Going.{ProcessesLater}
use Rattle.world_law.specs.Holds.{Holds}
use Rattle.world_law.specs.Places.{PlacesRise}

abbrev pub RunsHold : Performs → Computes → Type 0
RunsHold p q =
    (f : Frame) → f.performs ≡ p → f.computes ≡ q → AreSettings f.settings → (steps : List Step) (w : World) →
    Replays f steps w → Holds f w

-- a step of a run: processes go on, and their places don't fall; and what a burst sees at a place that its member applied stays
pub record GoesOn (f : Frame) (w v : World) : Type 0 where
  pub later : ProcessesLater w v
  pub rise : PlacesRise w v
  pub views : (m n : ℕ) → n ≤ (w.nodes m).member.applied → objects_after f (v.nodes m) n ≡ objects_after f (w.nodes m) n

abbrev pub RunsGoOn : Performs → Computes → Type 0
RunsGoOn p q =
    (f : Frame) → f.performs ≡ p → f.computes ≡ q → AreSettings f.settings → (steps : List Step) (w v : World) (step : Step) →
    Replays f steps w → Next f w step v → GoesOn f w v
