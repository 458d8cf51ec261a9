-- What contracts see of the packets in flight: their copies in order, and for how many packets there is room.
use Rattle.std.specs.Prelude.{ℕ, List}
use Rattle.net_rules.specs.declared.flight.Flight.{Flight}

pub record InFlight : Type 0 where
  pub flights : List (Flight (List ℕ))
  pub spare : ℕ
