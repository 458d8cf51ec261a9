-- A follower's packets on their way, in bytes.
use Rattle.std.specs.Prelude.{◌<◌, ◌-◌, ◌^◌, ◌+◌, ◌==◌, if◌then◌else◌, ℕ, Bool, not, List, [], ◌∷◌}
use Rattle.std.specs.List.{AllByRecursion as Each}
use Rattle.group_join.specs.Sound.{IsJoin}
use Rattle.group_join.specs.Spelling.{join_spelling}
use Rattle.group_join.specs.declared.packet.JoinPacket.{JoinPacket}
use Rattle.group_join.specs.declared.packet.JoinPacket.TheVariants.{Seek, State, Next}
use Rattle.net_rules.specs.Flights.{is_ready}
use Rattle.net_rules.specs.declared.flight.Flight.{Flight}
use Rattle.world_parts.specs.Standing.{cut_at}
use Rattle.join_law.specs.Rounds.{Carried, bytes_in}

-- it is held back
abbrev pub is_late : {X : Type 0} → Flight X → Bool
is_late one = not (is_ready one)

-- a packet as it travels
abbrev pub spelled : Carried → List ℕ
spelled one = cut_at one.cut (join_spelling one.packet)

-- it can be read where it is whole, and the wire was told its length
pub record CanBeRead (packet : JoinPacket) : Type 0 where
  pub join : IsJoin packet
  pub short : bytes_in packet < 2 ^ 32 - 1

abbrev pub AllCanBeRead : List (Flight Carried) → Type 0
AllCanBeRead flights = Each (λ (flight : Flight Carried). CanBeRead flight.packet.packet) flights

-- ---- how much may come yet: a Seek counts 3, since it may be answered by a packet of which two copies come, and all else 1

abbrev pub weight : List ℕ → ℕ
weight [] = 1
weight (tag ∷ bytes) = if tag == 1 then 3 else 1

abbrev pub load : List (Flight (List ℕ)) → ℕ
load [] = 0
load (one ∷ more) = weight one.packet + load more

-- how much a packet that comes brings behind it at most
abbrev pub led_to : JoinPacket → ℕ
led_to (Seek applied) = 2
led_to (State state) = 0
led_to (Next number message) = 0
