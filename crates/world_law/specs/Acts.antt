-- What is true of acts of wires in every run: which wire is in use, which world an event meets, and that an act is passed over just where
-- its event isn't possible.
use Rattle.std.specs.Prelude.{◌≡◌, ℕ, true, false, List, Some}
use Rattle.net_rules.specs.declared.fate.WireAct.{WireAct}
use Rattle.group_rules.specs.Sets.{entry_at}
use Rattle.world_rules.specs.declared.event.Step.{Step}
use Rattle.world_rules.specs.Acts.{before, event_of, is_passed_over, swaps_in}
use Rattle.world_rules.specs.Frame.{Frame}
use Rattle.world_rules.specs.Steps.{Known, Next, Possible, Replays}
use Rattle.world_rules.specs.Worlds.{World}

-- the worlds before and after event n of a run
pub record HappensAt (f : Frame) (steps : List Step) (n : ℕ) (step : Step) : Type 0 where
  pub from : World
  pub to : World
  pub replays : Replays f (before n steps) from
  pub next : Next f from step to

-- `in_use`, a run's world counts the exchanges of its steps; `at_each`, each event met the world of the steps before it; `possible` and
-- `passed`, an act is passed over just where its event isn't possible
pub record ActsMeet (f : Frame) : Type 0 where
  pub in_use : (steps : List Step) (w : World) → Replays f steps w → w.swaps ≡ swaps_in steps
  pub at_each :
      (steps : List Step) (w : World) (n : ℕ) (step : Step) → Replays f steps w → entry_at steps n ≡ Some step →
      HappensAt f steps n step
  pub possible :
      (w : World) (act : WireAct) (given : Known (event_of act)) → is_passed_over f w act ≡ false → Possible f w (event_of act) given
  pub passed :
      (w : World) (act : WireAct) (given : Known (event_of act)) → is_passed_over f w act ≡ true →
      Possible f w (event_of act) given → ⊥

abbrev pub AllActsMeet : Type 0
AllActsMeet = (f : Frame) → ActsMeet f
