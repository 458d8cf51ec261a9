-- The world that a step leaves, by the parts of a run that did it.
use Rattle.std.proofs.Common.{◌≡◌, ◌∙◌, ℕ, zero, suc, Bool, true, false, cond, List, Option, Some, None, map, ap, sym, subst, refl}
use Rattle.value_core.specs.declared.message.Message.{Message}
use Rattle.book_law.specs.Performed.{Performed}
use Rattle.book_law.specs.declared.placing.Placed.{Placed}
use Rattle.net_rules.proofs.Travelling.{seen_ticked, seen_without}
use Rattle.net_rules.specs.Flights.{ready_copy, seen, ticked, without}
use Rattle.net_rules.specs.declared.flight.Flight.{Flight}
use Rattle.world_rules.specs.declared.event.Event.{Event}
use Rattle.world_rules.specs.declared.event.Event.TheVariants as event
use Rattle.world_rules.specs.Frame.{Frame}
use Rattle.world_rules.specs.Mail.{Carried, Mail, is_whole, receiver_of}
use Rattle.world_rules.specs.Nodes as nodes_of
use Rattle.world_rules.specs.Processes.{processes_in, singles_of}
use Rattle.world_rules.specs.Steps.{AtWork, Known, comes, comes_whole, happens, lives_in, ticks_below, untouched}
use Rattle.world_rules.specs.Worlds.{World, agreed, applied_at, longer_of, longest, singles_in}
use Rattle.world_core.specs.Closing.{flights_after}

-- ---- packets in flight

pub one_or : {A : Type 0} (b : Bool) (x y : A) (Q : A → Type 0) → Q x → Q y → Q (cond b x y)
one_or true x y Q h k = h
one_or false x y Q h k = k

comes_flights : (f : Frame) (v : World) (mail : Mail) → (comes f v mail).world.flights ≡ v.flights
comes_flights f v mail = one_or (lives_in f v (receiver_of mail)) _ _ (λ (u : AtWork). u.world.flights ≡ v.flights) refl refl

whole_flights : (f : Frame) (v : World) (o : Option (Flight Carried)) → (comes_whole f v o).world.flights ≡ v.flights
whole_flights f v None = refl
whole_flights f v (Some flight) = one_or (is_whole f.settings.nodes flight.packet) _ _ (λ (u : AtWork). u.world.flights ≡ v.flights) (comes_flights f v flight.packet.mail) refl

tick_flights : (f : Frame) (n : ℕ) (u : AtWork) → (ticks_below f n u).world.flights ≡ u.world.flights
tick_flights f zero u = refl
tick_flights f (suc n) u =
    let below = ticks_below f n u in
    one_or (below.world.lives n) _ _ (λ (v : AtWork). v.world.flights ≡ below.world.flights) refl refl ∙ tick_flights f n u

pub event_flights : (f : Frame) (w : World) (event : Event) (given : Known event) → (happens f w event given).world.flights ≡ flights_after event w.flights
event_flights f w (event.Burst process place turns) given = refl
event_flights f w (event.Act process) given = refl
event_flights f w (event.Deliver packet copy) given = whole_flights f (record w { flights = without packet copy w.flights }) (ready_copy packet copy w.flights)
event_flights f w event.Tick given = tick_flights f f.settings.nodes (untouched (record w { flights = ticked w.flights }))
event_flights f w (event.Crash node) given = refl
event_flights f w (event.Suspect node) given = refl
event_flights f w event.Swap given = refl

-- seen another way, it is the same
pub seen_after : {X Y : Type 0} (view : X → Y) (event : Event) (flights : List (Flight X)) → flights_after event (map (seen view) flights) ≡ map (seen view) (flights_after event flights)
seen_after view (event.Burst process place turns) flights = refl
seen_after view (event.Act process) flights = refl
seen_after view (event.Deliver packet copy) flights = sym (seen_without view packet copy flights)
seen_after view event.Tick flights = sym (seen_ticked view flights)
seen_after view (event.Crash node) flights = refl
seen_after view (event.Suspect node) flights = refl
seen_after view event.Swap flights = refl

-- ---- the list

longest_by : (n : ℕ) (w v : World) → v.nodes ≡ w.nodes → longest n v ≡ longest n w
longest_by zero w v same = refl
longest_by (suc n) w v same =
    ap (λ (l : List Message). longer_of l (applied_at v n)) (longest_by n w v same)
    ∙ ap (λ (k : ℕ → nodes_of.Node). longer_of (longest n w) (applied_at (record w { nodes = k }) n)) same

pub agreed_by : (f : Frame) (w v : World) → v.nodes ≡ w.nodes → agreed f v ≡ agreed f w
agreed_by f w v same = longest_by f.settings.nodes w v same

-- what was performed is so by the members and what stands beside the list alone
pub performed_by : (f : Frame) (w v : World) (performed : List Placed) → v.nodes ≡ w.nodes → v.aside ≡ w.aside
    → Performed (singles_in f w) f.performs (agreed f w) w.aside performed → Performed (singles_in f v) f.performs (agreed f v) v.aside performed
performed_by f w v performed nodes aside h =
    subst (λ (l : List Placed). Performed (singles_in f v) f.performs (agreed f v) l performed) (sym aside)
    (subst (λ (l : List Message). Performed (singles_of f (processes_in f l)) f.performs l w.aside performed) (sym (agreed_by f w v nodes)) h)
