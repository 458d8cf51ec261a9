-- Which ticks a run counts as idle: those at its end, since a step in which something was done.
use Rattle.std.specs.Prelude.{◌≡◌, ◌<◌, ◌⊎◌, ℕ, false, List, [], ◌∷◌, ◌++◌, length}
use Rattle.world_rules.specs.declared.event.Step.{Step}
use Rattle.world_rules.specs.Acts.{is_burst}
use Rattle.world_rules.specs.Frame.{Frame}
use Rattle.world_rules.specs.Steps.{Next, Replays}
use Rattle.world_rules.specs.Worlds.{World}
use Rattle.world_idle.specs.Faults.{ticks_in}

-- nothing was done in a step from one world to another: no process computed, no member applied an entry or installed an incarnation, and no
-- operation was performed beside the list of entries
pub record IsStill (f : Frame) (w : World) (step : Step) (v : World) : Type 0 where
  pub computes : is_burst step.event ≡ false
  pub applied : (m : ℕ) → m < f.settings.nodes → (v.nodes m).member.applied ≡ (w.nodes m).member.applied
  pub installed : (m : ℕ) → m < f.settings.nodes → (v.nodes m).member.installed ≡ (w.nodes m).member.installed
  pub aside : length v.aside ≡ length w.aside

-- steps lead from one world to another, and nothing was done in them
abbrev pub LeadsStill : Frame → World → List Step → World → Type 0
LeadsStill f w [] v = v ≡ w
LeadsStill f w (step ∷ steps) v = (u : World) × Next f w step u × IsStill f w step u × LeadsStill f u steps v

-- steps that lead to a world, in the last of which something was done
pub record HasMoved (f : Frame) (steps : List Step) (w : World) : Type 0 where
  pub past : List Step
  pub step : Step
  pub before : World
  pub cut : steps ≡ past ++ step ∷ []
  pub to_before : Replays f past before
  pub next : Next f before step w
  pub moved : IsStill f before step w → ⊥

-- a world counts the ticks at the end of the run that leads to it: of the steps since the last one in which something was done, or of all
pub record HaveCounted (f : Frame) (steps : List Step) (w : World) : Type 0 where
  pub front : List Step
  pub still : List Step
  pub cut : steps ≡ front ++ still
  pub since : World
  pub to_since : Replays f front since
  pub begins : (front ≡ []) ⊎ HasMoved f front since
  pub leads : LeadsStill f since still w
  pub count : w.idle ≡ ticks_in still

abbrev pub IdleTicksAreCounted : Type 0
IdleTicksAreCounted = (f : Frame) (steps : List Step) (w : World) → Replays f steps w → HaveCounted f steps w
