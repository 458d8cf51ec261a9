-- What the group's half says of each list of moves.
use Rattle.std.proofs.Common.{◌≤◌, ◌<◌, ◌*◌, ◌+◌, ℕ, List, length}
use Rattle.value_core.specs.declared.message.Message.{Message}
use Rattle.group_rules.specs.Messages.{Group}
use Rattle.group_rules.specs.Sets.{In}
use Rattle.group_rules.specs.World.{GroupWorld}
use Rattle.group_bound.specs.Enough.{EnoughLaw, IsDone, IsQuiet, QuietLaw, Smooth, SmoothLaw}
use Rattle.group_bound.specs.Flow.{Move, flow, opening_flow}

-- what was submitted is of one process, and of one more for each entry of the sequencer's log, at most
abbrev pub AreOfFew : Group Message → GroupWorld Message → Type 0
AreOfFew g z = (i : ℕ) (x : Message) → In x (z.past.submitted i) → g.process x < length (z.members 0).log + 1

pub record Enough (g : Group Message) (moves : List (Move Message)) : Type 0 where
  pub smooth : Smooth g (flow g opening_flow moves)
  pub quiet : IsQuiet g (flow g opening_flow moves) → IsDone g (flow g opening_flow moves)
  pub count :
      AreOfFew g (flow g opening_flow moves).world →
      (flow g opening_flow moves).delivered ≤ 6 * (g.nodes * (length ((flow g opening_flow moves).world.members 0).log + 1))

abbrev pub FlowLaw : Group Message → Type 0
FlowLaw g = (moves : List (Move Message)) → Enough g moves

pub flow_law : (g : Group Message) → 2 * g.resilience < g.nodes → SmoothLaw Message → QuietLaw Message → EnoughLaw Message → FlowLaw g
flow_law g small smooth quiet enough moves = record { smooth = smooth g small moves; quiet = quiet g small moves; count = enough g small moves }
