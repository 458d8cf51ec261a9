-- The longest log in a world.
use Rattle.std.specs.Prelude.{ℕ, zero, suc, length, max}
use Rattle.world_rules.specs.Frame.{Frame}
use Rattle.world_rules.specs.Worlds.{World}

-- the length of the longest log of the members below n
abbrev pub longest_below : ℕ → World → ℕ
longest_below zero w = 0
longest_below (suc m) w = max (longest_below m w) (length (w.nodes m).member.log)

-- of any member
abbrev pub longest_log : Frame → World → ℕ
longest_log f w = longest_below f.settings.nodes w
