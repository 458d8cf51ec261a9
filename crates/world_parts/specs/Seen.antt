-- What contracts see of a run in code. All else is said of the world to which its steps lead.
use Rattle.std.specs.Prelude.{ℕ, ◌+◌, Bool, List, [], ◌∷◌, Option, None, is_some, slice_index_or, if◌then◌else◌}
use Rattle.object_manager.specs.Viewed.{Viewed}
use Rattle.world_rules.specs.declared.event.Step.{Step}
use Rattle.world_rules.specs.Frame.{Frame}
use Rattle.world_rules.specs.Steps.{Replays}
use Rattle.world_rules.specs.Worlds.{World}

-- a task that is out: the state of its process and how many replies that had received, and its view
pub record Out (S : Type 0) : Type 0 where
  pub start : S
  pub calls : ℕ
  pub view : Viewed

-- its steps; and at each member, by its number, of the processes that began there, by their numbers, the tasks that are out
pub record Seen (S : Type 0) : Type 0 where
  pub steps : List Step
  pub out : List (List (Option (Out S)))

-- so it is of the world to which its steps lead
abbrev pub Of : {S : Type 0} → Frame → Seen S → (World → Type 0) → Type 0
Of f s says = (w : World) → Replays f s.steps w → says w

-- the task of process i that is out at member m
abbrev pub out_at : {S : Type 0} → Seen S → ℕ → ℕ → Option (Out S)
out_at s m i = slice_index_or (slice_index_or s.out m []) i None

abbrev pub is_out : {S : Type 0} → Seen S → ℕ → ℕ → Bool
is_out s m i = is_some (out_at s m i)

-- how many tasks are out
abbrev pub outs : {A : Type 0} → List (Option A) → ℕ
outs [] = 0
outs (o ∷ os) = (if is_some o then 1 else 0) + outs os

abbrev pub all_outs : {A : Type 0} → List (List (Option A)) → ℕ
all_outs [] = 0
all_outs (os ∷ more) = outs os + all_outs more

abbrev pub tasks_out : {S : Type 0} → Seen S → ℕ
tasks_out s = all_outs s.out
