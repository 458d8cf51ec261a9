-- What a world counts, and what a step leaves as it is: members that crashed stay as they are, and what was performed beside the list and
-- what wires were asked grow at the end alone.
use Rattle.std.specs.Prelude.{◌≡◌, ℕ, suc, Bool, true, false, List, ◌++◌, length, map, Some, slice_get}
use Rattle.std.specs.List.{count_by, flat_map}
use Rattle.book_law.specs.declared.placing.Placed.{Placed}
use Rattle.world_rules.specs.declared.event.Event.{Event}
use Rattle.world_rules.specs.declared.event.Event.TheVariants as event
use Rattle.world_rules.specs.declared.event.Step.{Step}
use Rattle.world_rules.specs.Frame.{Frame}
use Rattle.world_rules.specs.Steps.{Next, Replays}
use Rattle.world_rules.specs.Worlds.{Told, World}

abbrev pub is_swap : Event → Bool
is_swap (event.Burst process place turns) = false
is_swap (event.Act process) = false
is_swap (event.Deliver packet copy) = false
is_swap event.Tick = false
is_swap (event.Crash node) = false
is_swap (event.Suspect node) = false
is_swap event.Swap = true

abbrev pub count_swaps : List Step → ℕ
count_swaps steps = count_by (λ (s : Step). is_swap s.event) steps

-- ---- after a run's steps

-- `steps` and `swaps`, how many there were; `sent`, `fates` and `numbers`, wires were asked of each packet once, in the order of the
-- packets, which are numbered from 1, and answered the fates of the steps
pub record IsCounted (done : List Step) (w : World) : Type 0 where
  pub steps : w.steps ≡ length done
  pub swaps : w.swaps ≡ count_swaps done
  pub sent : w.sent ≡ length w.told
  pub fates : map (λ (t : Told). t.fate) w.told ≡ flat_map (λ (s : Step). s.fates) done
  pub numbers : (n : ℕ) (t : Told) → slice_get w.told n ≡ Some t → t.question.packet ≡ suc n

abbrev pub AllCounted : Type 0
AllCounted = (f : Frame) (steps : List Step) (w : World) → Replays f steps w → IsCounted steps w

-- ---- from step to step

-- `crashed`, a crashed member stays so, and as it was; `lives`, a member crashes by its Crash alone; `aside` and `told` grow at their end
-- alone, and wires are asked of as many packets as the step has fates
pub record StepLeaves (w : World) (step : Step) (v : World) : Type 0 where
  pub crashed : (m : ℕ) → w.lives m ≡ false → (v.lives m ≡ false) × (v.nodes m ≡ w.nodes m)
  pub lives : (m : ℕ) → w.lives m ≡ true → v.lives m ≡ false → step.event ≡ event.Crash m
  pub aside : (more : List Placed) × (v.aside ≡ w.aside ++ more)
  pub told : (more : List Told) × (v.told ≡ w.told ++ more) × (map (λ (t : Told). t.fate) more ≡ step.fates)

abbrev pub StepsLeave : Type 0
StepsLeave = (f : Frame) (w : World) (step : Step) (v : World) → Next f w step v → StepLeaves w step v
