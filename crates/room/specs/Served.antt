-- What a worker finds under a room's lock.
use Rattle.std.specs.Prelude.{◌≢◌, ℕ, List}
use Rattle.node_core.specs.Tasks.{Tasked}
use Rattle.world_parts.specs.Seen.{Of, Seen}
use Rattle.world_rules.specs.declared.standing.Standing.TheVariants.{Going}
use Rattle.world_rules.specs.Frame.{Frame}
use Rattle.world_rules.specs.Standings.{standing}
use Rattle.room_state.specs.Held.{HasHandedOut, Held}

-- the run isn't going
abbrev pub IsOver : {S : Type 0} → Frame → Seen S → Type 0
IsOver f s = Of f s (λ w. standing f w ≢ Going)

-- this task was handed out, last of what was done, to a worker of this home
pub record WasHandedOut {S : Type 0} (f : Frame) (home : ℕ) (task : Tasked S) (new : Held S) : Type 0 where
  pub before : Seen S
  pub tasks : List ℕ
  pub out : HasHandedOut f home task before tasks new
