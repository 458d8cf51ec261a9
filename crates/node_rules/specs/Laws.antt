-- What is so of moments, by the rules alone.
use Rattle.std.specs.Prelude.{◌≡◌, ℕ}
use Rattle.world_rules.specs.Applying.{applies_all, round}
use Rattle.world_rules.specs.Frame.{Frame}
use Rattle.world_rules.specs.Nodes.{Node, NodeWork}
use Rattle.node_rules.specs.Moments.{Walks, at_work}
use Rattle.node_rules.specs.Starts.{Start, begun, part}

-- each part of an event is a walk from its first piece
abbrev pub PartsAreWalks : Type 0
PartsAreWalks = (f : Frame) (m : ℕ) (start : Start) (node : Node) → Walks f m (at_work (begun f m start node)) (at_work (part f m start node))

-- a member that applied all that it may, and noted that, does nothing more
abbrev pub CatchingUpEnds : Type 0
CatchingUpEnds = (f : Frame) (m : ℕ) (v : NodeWork) → round f m (applies_all f m v) ≡ applies_all f m v
