-- Processes go on: at its member a process keeps its text and arguments, its replies and turns only grow, and it never goes away.
use Rattle.std.specs.Prelude.{◌≡◌, ◌≤◌, ℕ, List, ◌++◌, length, Some}
use Rattle.value_core.specs.declared.action.Action.{Action}
use Rattle.value_core.specs.declared.action.Reply.{Reply}
use Rattle.world_rules.specs.declared.event.Step.{Step}
use Rattle.world_rules.specs.Frame.{Frame}
use Rattle.world_rules.specs.Played.{Played}
use Rattle.world_rules.specs.Played.Stage.{Asking}
use Rattle.world_rules.specs.Steps.{Leads}
use Rattle.world_rules.specs.Worlds.{World, opening_world}

-- the process later on. Where it has no more replies, it has its place still, and asks an owner still
pub record Later (r t : Played) : Type 0 where
  pub text : t.text ≡ r.text
  pub args : t.args ≡ r.args
  pub replies : (more : List Reply) × (t.replies ≡ r.replies ++ more)
  pub turns : r.turns ≤ t.turns
  pub place : length t.replies ≡ length r.replies → t.place ≡ r.place
  pub asks : length t.replies ≡ length r.replies → (act : Action) → r.stage ≡ Asking act → t.stage ≡ Asking act

abbrev pub ProcessesLater : World → World → Type 0
ProcessesLater w v =
    (m i : ℕ) (r : Played) → (w.nodes m).played i ≡ Some r →
    (t : Played) × ((v.nodes m).played i ≡ Some t) × Later r t

-- at two moments of a run
abbrev pub ProcessesGoOn : Type 0
ProcessesGoOn =
    (f : Frame) (steps more : List Step) (w v : World) → Leads f (opening_world f) steps w → Leads f w more v → ProcessesLater w v
