-- A world in the middle of an event: one member is at work.
use Rattle.std.specs.Prelude.{ℕ, ◌++◌}
use Rattle.group_rules.specs.Sets.{with_at}
use Rattle.world_rules.specs.Frame.{Frame, group}
use Rattle.world_rules.specs.Nodes.{NodeWork, aside_of, past_after}
use Rattle.world_rules.specs.Worlds.{World}

-- the world once member m did this much
abbrev pub at_work : Frame → ℕ → World → NodeWork → World
at_work f m w v = record w {
  nodes = with_at w.nodes m v.node;
  past = past_after (group f) m v.deeds w.past;
  aside = w.aside ++ aside_of v.deeds;
}
