-- A run written out: its steps, each with what is known of it.
use Rattle.std.specs.Prelude.{◌≡◌, ℕ, List, [], ◌∷◌, length}
use Rattle.value_core.specs.declared.action.Line.{Line}
use Rattle.net_rules.specs.declared.fate.Fate.{Fate}
use Rattle.net_rules.specs.declared.fate.Fate.TheVariants as fate
use Rattle.world_rules.specs.declared.event.Event.TheVariants as event
use Rattle.world_rules.specs.declared.event.Step.{Step}
use Rattle.world_rules.specs.declared.standing.Standing.TheVariants.{Going}
use Rattle.world_rules.specs.Frame.{Frame}
use Rattle.world_rules.specs.Played.{Played}
use Rattle.world_rules.specs.Standings.{standing}
use Rattle.world_rules.specs.Steps.{Known, Possible, after_step, happens}
use Rattle.world_rules.specs.Worlds.{World}

pub record Scene : Type 0 where
  pub step : Step
  pub given : Known step.event

-- the events, one by one
abbrev pub burst : ℕ → ℕ → List Line → Played → Scene
burst process place reads end = record {
  step = record { event = event.Burst (record { 0 = process }) place 0; fates = [] };
  given = record { reads = reads; end = end };
}

abbrev pub act : ℕ → List Fate → Scene
act process fates = record { step = record { event = event.Act (record { 0 = process }); fates = fates }; given = tt }

abbrev pub deliver : ℕ → List Fate → Scene
deliver packet fates = record { step = record { event = event.Deliver packet 0; fates = fates }; given = tt }

abbrev pub second_copy : ℕ → List Fate → Scene
second_copy packet fates = record { step = record { event = event.Deliver packet 1; fates = fates }; given = tt }

abbrev pub tick : List Fate → Scene
tick fates = record { step = record { event = event.Tick; fates = fates }; given = tt }

abbrev pub crash : ℕ → Scene
crash node = record { step = record { event = event.Crash node; fates = [] }; given = tt }

abbrev pub suspect : ℕ → List Fate → Scene
suspect node fates = record { step = record { event = event.Suspect node; fates = fates }; given = tt }

abbrev pub swap : Scene
swap = record { step = record { event = event.Swap; fates = [] }; given = tt }

-- so many packets that pass
abbrev pub one : List Fate
one = fate.Pass ∷ []

abbrev pub both : List Fate
both = fate.Pass ∷ fate.Pass ∷ []

-- the steps, and the world after them
abbrev pub steps_of : List Scene → List Step
steps_of [] = []
steps_of (scene ∷ scenes) = scene.step ∷ steps_of scenes

abbrev pub world_after : Frame → World → List Scene → World
world_after f w [] = w
world_after f w (scene ∷ scenes) = world_after f (after_step f w scene.step scene.given) scenes

-- each of them is possible where it stands
abbrev pub Unfolds : Frame → World → List Scene → Type 0
Unfolds f w [] = Unit {0}
Unfolds f w (scene ∷ scenes) =
    (standing f w ≡ Going)
    × Possible f w scene.step.event scene.given
    × (length scene.step.fates ≡ length (happens f w scene.step.event scene.given).mails)
    × Unfolds f (after_step f w scene.step scene.given) scenes
