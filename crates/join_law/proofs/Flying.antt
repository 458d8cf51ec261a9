-- What is so of all packets on their way: it stays so where some are taken, where others join them, and a round later.
use Rattle.std.proofs.Common.{ℕ, Bool, true, false, cond, ltb, List, [], ◌∷◌, ◌++◌}
use Rattle.std.specs.List.{AllByRecursion, filter}
use Rattle.net_rules.specs.Flights.{copies, joined, ticked}
use Rattle.net_rules.specs.declared.fate.Fate.{Fate}
use Rattle.net_rules.specs.declared.fate.Fate.TheVariants.{Pass, Drop, Twice, Hold, Cut}
use Rattle.net_rules.specs.declared.flight.Flight.{Flight}
use Rattle.group_join.specs.declared.packet.JoinPacket.{JoinPacket}
use Rattle.join_law.specs.Rounds.{Carried, carried, cut_to}

abbrev pub AllFly : (JoinPacket → Type 0) → List (Flight Carried) → Type 0
AllFly P flights = AllByRecursion (λ (one : Flight Carried). P one.packet.packet) flights

pub fly_and : (P : JoinPacket → Type 0) (xs ys : List (Flight Carried)) → AllFly P xs → AllFly P ys → AllFly P (xs ++ ys)
fly_and P [] ys all more = more
fly_and P (x ∷ xs) ys all more = (all.0, fly_and P xs ys all.1 more)

filter_if : (P : JoinPacket → Type 0) (x : Flight Carried) (xs : List (Flight Carried)) (b : Bool) → P x.packet.packet → AllFly P xs → AllFly P (cond b (x ∷ xs) xs)
filter_if P x xs true is all = (is, all)
filter_if P x xs false is all = all

pub fly_filter : (P : JoinPacket → Type 0) (test : Flight Carried → Bool) (xs : List (Flight Carried)) → AllFly P xs → AllFly P (filter test xs)
fly_filter P test [] all = tt
fly_filter P test (x ∷ xs) all = filter_if P x (filter test xs) (test x) all.0 (fly_filter P test xs all.1)

joined_if : (P : JoinPacket → Type 0) (number : ℕ) (new : List (Flight Carried)) (x : Flight Carried) (xs : List (Flight Carried)) (b : Bool) → AllFly P new →
    P x.packet.packet → AllFly P xs → AllFly P (joined number new xs) → AllFly P (cond b (x ∷ joined number new xs) (new ++ x ∷ xs))
joined_if P number new x xs true news is all rest = (is, rest)
joined_if P number new x xs false news is all rest = fly_and P new (x ∷ xs) news (is, all)

pub fly_joined : (P : JoinPacket → Type 0) (number : ℕ) (new xs : List (Flight Carried)) → AllFly P new → AllFly P xs → AllFly P (joined number new xs)
fly_joined P number new [] news all = news
fly_joined P number new (x ∷ xs) news all = joined_if P number new x xs (ltb x.number number) news all.0 all.1 (fly_joined P number new xs news all.1)

pub fly_ticked : (P : JoinPacket → Type 0) (xs : List (Flight Carried)) → AllFly P xs → AllFly P (ticked xs)
fly_ticked P [] all = tt
fly_ticked P (x ∷ xs) all = (all.0, fly_ticked P xs all.1)

pub fly_sent : (P : JoinPacket → Type 0) (number from to : ℕ) (packet : JoinPacket) (fate : Fate) → P packet → AllFly P (copies cut_to number from to (carried packet) fate)
fly_sent P number from to packet Pass is = (is, tt)
fly_sent P number from to packet Drop is = tt
fly_sent P number from to packet Twice is = (is, (is, tt))
fly_sent P number from to packet (Hold ticks) is = (is, tt)
fly_sent P number from to packet (Cut length) is = (is, tt)
