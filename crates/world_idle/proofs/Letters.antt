-- The group's letters among what travels.
use Rattle.std.specs.Prelude.{◌≤◌, ℕ, List, [], ◌∷◌, ◌++◌, if◌then◌else◌}
use Rattle.value_core.specs.declared.message.Message.{Message}
use Rattle.group_idle.specs.Net.{Net}
use Rattle.group_rules.specs.Member.{Letter}
use Rattle.net_rules.specs.declared.flight.Flight.{Flight}
use Rattle.world_rules.specs.Frame.{Frame}
use Rattle.world_rules.specs.Mail.{Carried, Mail, is_whole}
use Rattle.world_rules.specs.Worlds.{World, group_world}

-- the letter, where it is the group's
abbrev pub of_mail : Mail → List (Letter Message)
of_mail (Mail.Grouped letter) = letter ∷ []
of_mail (Mail.Sends incarnation from to errand) = []

abbrev pub of_mails : List Mail → List (Letter Message)
of_mails [] = []
of_mails (mail ∷ mails) = of_mail mail ++ of_mails mails

-- and where it is whole
abbrev pub of_packet : ℕ → Carried → List (Letter Message)
of_packet nodes one = if is_whole nodes one then of_mail one.mail else []

abbrev pub flying : ℕ → List (Flight Carried) → List (Letter Message)
flying nodes [] = []
flying nodes (flight ∷ flights) = of_packet nodes flight.packet ++ flying nodes flights

-- the world's group, and its letters on their way
abbrev pub net_of : Frame → World → Net Message
net_of f w = record { world = group_world w; flights = flying f.settings.nodes w.flights }

-- each of these is held for at most so many ticks, and their numbers are those of packets that were sent
pub record IsHeld (sent most : ℕ) (flight : Flight Carried) : Type 0 where
  pub within : flight.ticks ≤ most
  pub known : flight.number ≤ sent

abbrev pub AllHeld : ℕ → ℕ → List (Flight Carried) → Type 0
AllHeld n most [] = Unit {0}
AllHeld n most (flight ∷ flights) = IsHeld n most flight × AllHeld n most flights
