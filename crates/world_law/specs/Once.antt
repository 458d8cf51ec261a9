-- That a list of steps leads to one world at most: how a burst ran, which isn't in its step, follows from the world.
use Rattle.std.specs.Prelude.{◌≡◌, ℕ, List}
use Rattle.orca_base.specs.declared.ids.ProcessNo.{ProcessNo}
use Rattle.value_core.specs.Meaning.{Computes}
use Rattle.value_core.specs.declared.action.Line.{Line}
use Rattle.value_core.specs.History.{Objects}
use Rattle.world_rules.specs.declared.event.Step.{Step}
use Rattle.world_rules.specs.Bursts.{Ran}
use Rattle.world_rules.specs.Frame.{Frame}
use Rattle.world_rules.specs.Played.{Played}
use Rattle.world_rules.specs.Steps.{Next, Replays}
use Rattle.world_rules.specs.Worlds.{World}

-- a process that computes on the same objects from the same state reads the same, and ends alike
abbrev pub RanOnce : Frame → Type 0
RanOnce f =
    (objects : Objects) (place : ℕ) (i : ProcessNo) (last : ℕ) (r : Played) (one two : List Line) (end end' : Played) →
    Ran f objects place i last r one end → Ran f objects place i last r two end' → (one ≡ two) × (end ≡ end')

abbrev pub NextOnce : Frame → Type 0
NextOnce f = (w u v : World) (step : Step) → Next f w step u → Next f w step v → u ≡ v

abbrev pub ReplaysOnce : Frame → Type 0
ReplaysOnce f = (steps : List Step) (u v : World) → Replays f steps u → Replays f steps v → u ≡ v

pub record IsOnce (f : Frame) : Type 0 where
  pub ran : RanOnce f
  pub next : NextOnce f
  pub replays : ReplaysOnce f

-- so it is in every run of processes with these meanings
abbrev pub RunsOnce : Computes → Type 0
RunsOnce q = (f : Frame) → f.computes ≡ q → IsOnce f
