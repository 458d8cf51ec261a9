-- Which fates pass. A packet with such a fate comes once, whole, and as soon as one whose fate is Pass: so a Hold for no tick passes, and a
-- Cut to no fewer bytes than the packet has.
use Rattle.std.specs.Prelude.{ℕ, ◌==◌, Bool, true, false, nat_le}
use Rattle.net_rules.specs.declared.fate.Fate.{Fate}
use Rattle.net_rules.specs.declared.fate.Fate.TheVariants as fate

-- this is the fate of a packet of so many bytes, and it passes
abbrev pub passes : ℕ → Fate → Bool
passes bytes fate.Pass = true
passes bytes fate.Drop = false
passes bytes fate.Twice = false
passes bytes (fate.Hold ticks) = ticks == 0
passes bytes (fate.Cut length) = nat_le bytes length
