-- A whole run: two of three members crash, where one may be lost. The process makes the cell. One packet of its message is held for 300
-- ticks, the other is lost, and both other members crash. Member 0 goes on alone, for 200 ticks: then there is no group.
use Rattle.std.specs.Prelude.{◌≡◌, ◌++◌, ℕ, zero, suc, true, false, List, [], ◌∷◌, map}
use Rattle.net_rules.specs.declared.fate.Fate.TheVariants as fate
use Rattle.world_rules.specs.declared.event.Event.TheVariants as event
use Rattle.world_rules.specs.declared.event.Step.{Step}
use Rattle.world_rules.specs.declared.standing.Standing.TheVariants.{Going, NoGroup}
use Rattle.world_rules.specs.Frame.{Frame}
use Rattle.world_rules.specs.Mail.{Mail}
use Rattle.world_rules.specs.NetworkSteps.{in_flight}
use Rattle.world_rules.specs.OneCell.{at_place, one_cell}
use Rattle.world_rules.specs.Programs.{make}
use Rattle.world_rules.specs.Scenes.{Scene, act, burst, crash, deliver, steps_of, tick, world_after}
use Rattle.world_rules.specs.Standings.{standing}
use Rattle.world_rules.specs.Steps.{Replays, after_step, passes_tick}
use Rattle.world_rules.specs.Worlds.{World, opening_world}

-- ---- ticks whose packets are all lost

abbrev pub lost_tick : Frame → World → Step
lost_tick f w = record { event = event.Tick; fates = map (λ (mail : Mail). fate.Drop) (passes_tick f w).mails }

abbrev pub after_tick : Frame → World → World
after_tick f w = after_step f w (lost_tick f w) tt

-- so many of them, and the world after them
abbrev pub lost_ticks : Frame → ℕ → World → List Step
lost_ticks f zero w = []
lost_ticks f (suc n) w = lost_tick f w ∷ lost_ticks f n (after_tick f w)

abbrev pub after_ticks : Frame → ℕ → World → World
after_ticks f zero w = w
after_ticks f (suc n) w = after_ticks f n (after_tick f w)

-- ---- the run

-- a packet of the first tick comes to a member that crashed; neither that nor the one that is held hastens the end or puts it off
abbrev pub scenes : List Scene
scenes =
    burst 0 0 [] (at_place [] 0 make) ∷ act 0 (fate.Hold 300 ∷ fate.Drop ∷ [])
    ∷ crash 1 ∷ crash 2 ∷ tick (fate.Pass ∷ fate.Drop ∷ []) ∷ deliver 3 [] ∷ []

abbrev pub alone : World
alone = world_after one_cell (opening_world one_cell) scenes

-- after so many ticks more
abbrev pub alone_for : ℕ → World
alone_for ticks = after_ticks one_cell ticks alone

abbrev pub steps_for : ℕ → List Step
steps_for ticks = steps_of scenes ++ lost_ticks one_cell ticks alone

pub record TooManyCrashes : Type 0 where
  pub replays : Replays one_cell (steps_for 199) (alone_for 199)
  pub no_group : standing one_cell (alone_for 199) ≡ NoGroup
  pub one_tick_less : standing one_cell (alone_for 198) ≡ Going
  pub idle : (alone_for 199).idle ≡ 200
  pub held : in_flight (alone_for 199) ≡ (1, 0, 100) ∷ []
  pub first : (alone_for 199).lives 1 ≡ false
  pub second : (alone_for 199).lives 2 ≡ false
  pub third : (alone_for 199).lives 0 ≡ true
