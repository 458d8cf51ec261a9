-- Packets in flight: docs/RUNTIME.md, Packets in flight. What travels is of any type, and `cut` says what is left of it when it is cut
-- to so many bytes. The list has the copies in order of their packets' numbers, and those of one packet in order.
use Rattle.std.specs.Prelude.{ℕ, ◌≡◌, ◌⊎◌, ◌-◌, ◌<◌, ◌==◌, ◌&&◌, Bool, not, nat_lt, List, [], ◌∷◌, ◌++◌, Option, option_map, map, if◌then◌else◌}
use Rattle.std.specs.List.{find, list_any}
use Rattle.net_rules.specs.declared.fate.Fate.{Fate}
use Rattle.net_rules.specs.declared.fate.Fate.TheVariants as fate
use Rattle.net_rules.specs.declared.flight.Flight.{Flight}
use Rattle.net_rules.specs.Script.{without_first}

-- a copy with these numbers comes before one with those: by the packet's number, and then by the copy's
abbrev pub IsBefore : ℕ → ℕ → ℕ → ℕ → Type 0
IsBefore number copy number' copy' = (number < number') ⊎ ((number ≡ number') × (copy < copy'))

module _ {X : Type 0} where
  -- a copy that is held back for so many ticks
  abbrev pub flight : ℕ → ℕ → ℕ → ℕ → ℕ → X → Flight X
  flight number copy from to ticks packet =
      record { number = number; copy = copy; from = from; to = to; ticks = ticks; packet = packet }

  -- what a fate makes of a packet: its copies, numbered from 0
  abbrev pub copies : (ℕ → X → X) → ℕ → ℕ → ℕ → X → Fate → List (Flight X)
  copies cut number from to packet fate.Pass = flight number 0 from to 0 packet ∷ []
  copies cut number from to packet fate.Drop = []
  copies cut number from to packet fate.Twice = flight number 0 from to 0 packet ∷ flight number 1 from to 0 packet ∷ []
  copies cut number from to packet (fate.Hold ticks) = flight number 0 from to ticks packet ∷ []
  copies cut number from to packet (fate.Cut length) = flight number 0 from to 0 (cut length packet) ∷ []

  -- with copies of the packet of this number, behind those of lower numbers
  abbrev pub joined : ℕ → List (Flight X) → List (Flight X) → List (Flight X)
  joined number new [] = new
  joined number new (f ∷ flights) = if nat_lt f.number number then f ∷ joined number new flights else new ++ f ∷ flights

  -- a copy of the packet of this number is in flight
  abbrev pub travels : ℕ → List (Flight X) → Bool
  travels number flights = list_any (λ (f : Flight X). f.number == number) flights

  -- nothing holds the copy back
  abbrev pub is_ready : Flight X → Bool
  is_ready f = f.ticks == 0

  -- it is that copy, and ready
  abbrev pub is_ready_copy : ℕ → ℕ → Flight X → Bool
  is_ready_copy number copy f = f.number == number && f.copy == copy && is_ready f

  -- that copy, where it is ready
  abbrev pub ready_copy : ℕ → ℕ → List (Flight X) → Option (Flight X)
  ready_copy number copy flights = find (is_ready_copy number copy) flights

  -- number and copy of the first that is ready
  abbrev pub first_ready : List (Flight X) → Option (ℕ × ℕ)
  first_ready flights = option_map (λ (f : Flight X). (f.number, f.copy)) (find is_ready flights)

  -- some copy is held back
  abbrev pub some_held : List (Flight X) → Bool
  some_held flights = list_any (λ (f : Flight X). not (is_ready f)) flights

  -- without that ready copy
  abbrev pub without : ℕ → ℕ → List (Flight X) → List (Flight X)
  without number copy flights = without_first (is_ready_copy number copy) flights

  -- one tick later
  abbrev pub nearer : Flight X → Flight X
  nearer f = record f { ticks = f.ticks - 1 }

  abbrev pub ticked : List (Flight X) → List (Flight X)
  ticked flights = map nearer flights

  -- this copy comes before all of them
  abbrev pub ComesBefore : ℕ → ℕ → List (Flight X) → Type 0
  ComesBefore number copy [] = Unit {0}
  ComesBefore number copy (f ∷ flights) = IsBefore number copy f.number f.copy × ComesBefore number copy flights

  -- in order
  abbrev pub InOrder : List (Flight X) → Type 0
  InOrder [] = Unit {0}
  InOrder (f ∷ flights) = ComesBefore f.number f.copy flights × InOrder flights

  -- all of them have lower numbers
  abbrev pub AreBelow : ℕ → List (Flight X) → Type 0
  AreBelow number [] = Unit {0}
  AreBelow number (f ∷ flights) = (f.number < number) × AreBelow number flights

-- what travels, seen another way
abbrev pub seen : {X Y : Type 0} → (X → Y) → Flight X → Flight Y
seen view f = flight f.number f.copy f.from f.to f.ticks (view f.packet)
