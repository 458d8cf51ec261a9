-- What is said in a run is sound, so that bytes spell it where its numbers fit their fields: what was submitted, what processes are about
-- to ask, what was performed beside the list, each line of the book, and what travels.
use Rattle.std.specs.Prelude.{◌≡◌, List}
use Rattle.value_core.specs.declared.action.Line.{Line}
use Rattle.value_core.specs.Meaning.{Computes, Performs}
use Rattle.value_core.specs.Sound.{IsSoundLine}
use Rattle.book_law.specs.Events.{In}
use Rattle.world_rules.specs.declared.event.Step.{Step}
use Rattle.world_rules.specs.Frame.{AreSettings, Frame}
use Rattle.world_rules.specs.Steps.{Replays}
use Rattle.world_rules.specs.Worlds.{Book, World}
use Rattle.world_law.specs.SoundPackets.{FlySound, NextSound, SaidSound}

pub record IsSound (f : Frame) (w : World) : Type 0 where
  pub said : SaidSound w
  pub next : NextSound w
  pub lines : (line : Line) → In line (Book f w) → IsSoundLine line
  pub flies : FlySound f w

-- so it is in every run of a lawful program with these meanings
abbrev pub RunsSound : Performs → Computes → Type 0
RunsSound p q =
    (f : Frame) → f.performs ≡ p → f.computes ≡ q → AreSettings f.settings → (steps : List Step) (w : World) →
    Replays f steps w → IsSound f w
