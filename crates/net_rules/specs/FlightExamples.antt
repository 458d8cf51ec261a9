-- Packets in flight, computed: three packets of two bytes each, from member 0 to member 1.
use Rattle.std.specs.Prelude.{ℕ, List, [], ◌∷◌, take}
use Rattle.net_rules.specs.declared.fate.Fate.{Fate}
use Rattle.net_rules.specs.declared.fate.Fate.TheVariants.{Pass, Twice, Hold}
use Rattle.net_rules.specs.declared.flight.Flight.{Flight}
use Rattle.net_rules.specs.Flights.{copies, flight, joined}

abbrev pub bytes : List ℕ
bytes = 7 ∷ 8 ∷ []

-- the copies of the packet of this number
abbrev pub sent : ℕ → Fate → List (Flight (List ℕ))
sent number fate = copies take number 0 1 bytes fate

-- a copy of it
abbrev pub one : ℕ → ℕ → ℕ → Flight (List ℕ)
one number copy ticks = flight number copy 0 1 ticks bytes

-- packet 1 is held for two ticks, 2 comes twice, and 3 passes
abbrev pub three : List (Flight (List ℕ))
three = joined 3 (sent 3 Pass) (joined 2 (sent 2 Twice) (joined 1 (sent 1 (Hold 2)) []))
