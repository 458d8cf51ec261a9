-- Turns: a process that computes with all of them is busy.
use Rattle.std.specs.Prelude.{◌≡◌, ◌≤◌, ℕ, List, Some}
use Rattle.value_core.specs.Meaning.{Computes, Performs}
use Rattle.value_core.specs.declared.meaning.Doing.TheVariants as doing
use Rattle.world_rules.specs.declared.event.Step.{Step}
use Rattle.world_rules.specs.Frame.{AreSettings, Frame}
use Rattle.world_rules.specs.Played.{Played}
use Rattle.world_rules.specs.Played.Stage.{Computing}
use Rattle.world_rules.specs.Steps.{Replays}
use Rattle.world_rules.specs.Worlds.{World, played_in}

-- where process i is this in the world, and computes with all the turns that there may be, the program says that it is busy with these
abbrev pub SpentBusy : Frame → World → Type 0
SpentBusy f w =
    (i : ℕ) (r : Played) → played_in f w i ≡ Some r → r.stage ≡ Computing → f.settings.turns ≤ r.turns →
    f.computes.doing r.text (record { 0 = i }) r.args r.replies f.settings.turns ≡ doing.Busy

-- so it is in every run of a program with these meanings, by settings that a run may have
abbrev pub AllSpentBusy : Performs → Computes → Type 0
AllSpentBusy p q =
    (f : Frame) → f.performs ≡ p → f.computes ≡ q → AreSettings f.settings → (steps : List Step) (w : World) →
    Replays f steps w → SpentBusy f w
