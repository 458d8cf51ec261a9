-- Numbers of packets in flight: none is above so many.
use Rattle.std.proofs.Common.{◌≡◌, ◌≤◌, ◌∙◌, ◌||◌, ℕ, suc, Bool, false, List, [], ◌∷◌, ◌++◌, map, ap, refl, arith}
use Rattle.std.proofs.lemmas.Bool.{cond_both, ne_eqb}
use Rattle.std.specs.List.{AllByRecursion as Each}
use Rattle.net_rules.specs.Flights.{copies, joined, seen, ticked, travels}
use Rattle.net_rules.specs.Script.{without_first}
use Rattle.net_rules.specs.declared.fate.Fate.{Fate}
use Rattle.net_rules.specs.declared.fate.Fate.TheVariants as fate
use Rattle.net_rules.specs.declared.flight.Flight.{Flight}
use Rattle.world_law.specs.Packets.{IsNumbered}
use Rattle.world_rules.specs.Frame.{Frame}
use Rattle.world_rules.specs.Mail.{Carried}
use Rattle.world_rules.specs.declared.event.Event.{Event}
use Rattle.world_rules.specs.declared.event.Event.TheVariants as event
use Rattle.world_core.specs.Closing.{flights_after}

abbrev pub UpTo : {X : Type 0} → ℕ → List (Flight X) → Type 0
UpTo {X} n flights = Each (λ (flight : Flight X). flight.number ≤ n) flights

pub numbered_low : (f : Frame) (n : ℕ) (flights : List (Flight Carried)) → Each (IsNumbered f n) flights → UpTo n flights
numbered_low f n [] h = tt
numbered_low f n (one ∷ flights) h = (h.0.known, numbered_low f n flights h.1)

pub seen_low : {X Y : Type 0} (view : X → Y) (n : ℕ) (flights : List (Flight X)) → UpTo n flights → UpTo n (map (seen view) flights)
seen_low view n [] h = tt
seen_low view n (one ∷ flights) h = (h.0, seen_low view n flights h.1)

first_low : {X : Type 0} (test : Flight X → Bool) (n : ℕ) (flights : List (Flight X)) → UpTo n flights → UpTo n (without_first test flights)
first_low test n [] h = tt
first_low test n (one ∷ flights) h = cond_both (test one) flights (one ∷ without_first test flights) (UpTo n) (λ e. h.1) (λ e. (h.0, first_low test n flights h.1))

ticked_low : {X : Type 0} (n : ℕ) (flights : List (Flight X)) → UpTo n flights → UpTo n (ticked flights)
ticked_low n [] h = tt
ticked_low n (one ∷ flights) h = (h.0, ticked_low n flights h.1)

-- also once an event took place
pub after_low : {X : Type 0} (event : Event) (n : ℕ) (flights : List (Flight X)) → UpTo n flights → UpTo n (flights_after event flights)
after_low (event.Burst process place turns) n flights h = h
after_low (event.Act process) n flights h = h
after_low (event.Deliver packet copy) n flights h = first_low _ n flights h
after_low event.Tick n flights h = ticked_low n flights h
after_low (event.Crash node) n flights h = h
after_low (event.Suspect node) n flights h = h
after_low event.Swap n flights h = h

-- the next number travels nowhere
pub next_new : {X : Type 0} (n : ℕ) (flights : List (Flight X)) → UpTo n flights → travels (suc n) flights ≡ false
next_new n [] h = refl
next_new n (one ∷ flights) h =
    ap (λ (b : Bool). b || travels (suc n) flights) (ne_eqb one.number (suc n) (λ e. absurd (omega (arith, h.0, e)))) ∙ next_new n flights h.1

-- and is the highest once it does
low_append : {X : Type 0} (n : ℕ) (some more : List (Flight X)) → UpTo n some → UpTo n more → UpTo n (some ++ more)
low_append n [] more h k = k
low_append n (one ∷ some) more h k = (h.0, low_append n some more h.1 k)

low_next : {X : Type 0} (n : ℕ) (flights : List (Flight X)) → UpTo n flights → UpTo (suc n) flights
low_next n [] h = tt
low_next n (one ∷ flights) h = (omega (arith, h.0), low_next n flights h.1)

copies_low : {X : Type 0} (cut : ℕ → X → X) (n from to : ℕ) (packet : X) (given : Fate) → UpTo n (copies cut n from to packet given)
copies_low cut n from to packet fate.Pass = (omega arith, tt)
copies_low cut n from to packet fate.Drop = tt
copies_low cut n from to packet fate.Twice = (omega arith, (omega arith, tt))
copies_low cut n from to packet (fate.Hold ticks) = (omega arith, tt)
copies_low cut n from to packet (fate.Cut length) = (omega arith, tt)

low_joined : {X : Type 0} (n number : ℕ) (new flights : List (Flight X)) → UpTo n new → UpTo n flights → UpTo n (joined number new flights)
low_joined n number new [] h k = h
low_joined n number new (one ∷ flights) h k =
    cond_both _ (one ∷ joined number new flights) (new ++ one ∷ flights) (UpTo n) (λ e. (k.0, low_joined n number new flights h k.1)) (λ e. low_append n new (one ∷ flights) h k)

pub sent_low : {X : Type 0} (cut : ℕ → X → X) (n from to : ℕ) (packet : X) (given : Fate) (flights : List (Flight X)) → UpTo n flights
    → UpTo (suc n) (joined (suc n) (copies cut (suc n) from to packet given) flights)
sent_low cut n from to packet given flights h = low_joined (suc n) (suc n) _ flights (copies_low cut (suc n) from to packet given) (low_next n flights h)
