-- The parts of a run after a step stand for the world after it.
use Rattle.std.proofs.Common.{◌≡◌, ◌≤◌, ◌<◌, ◌+◌, ◌^◌, ◌∙◌, ⊎_elim, ℕ, zero, suc, Bool, true, false, cond, List, [], ◌∷◌, ◌++◌, Option, Some, None, slice_get, slice_set, map, ap, sym, subst, refl, arith, length}
use Rattle.std.proofs.lemmas.List.{length-map, length_push}
use Rattle.std.specs.List.{AllByRecursion as Each}
use Rattle.object_manager.specs.Viewed.{Viewed}
use Rattle.book_law.specs.Performed.{Performed}
use Rattle.book_law.specs.declared.placing.Placed.{Placed}
use Rattle.group_rules.specs.Sets.{with_at}
use Rattle.net_rules.specs.Flights.{ready_copy, seen, ticked, without}
use Rattle.net_rules.specs.declared.fate.Fate.{Fate}
use Rattle.net_rules.specs.declared.flight.Flight.{Flight}
use Rattle.world_facts.proofs.Counted.{Posts, Works, event_swaps, event_works, posts_is, swap_of}
use Rattle.world_law.proofs.Flying.{each_first, each_posted, each_ticked}
use Rattle.world_rules.specs.declared.event.Event.{Event}
use Rattle.world_rules.specs.declared.event.Event.TheVariants as event
use Rattle.world_rules.specs.declared.event.Step.{Step}
use Rattle.world_rules.specs.Frame.{Frame}
use Rattle.world_rules.specs.Mail.{Carried, Mail, is_whole, receiver_of}
use Rattle.world_rules.specs.Nodes as nodes_of
use Rattle.world_rules.specs.Steps.{AtWork, Known, Next, Replays, after_step, comes, comes_whole, happens, has_stirred, idle_after, lives_in, posts_all, ticks_below, untouched}
use Rattle.value_core.specs.declared.message.Message.{Message}
use Rattle.world_rules.specs.Worlds.{Told, World, agreed, singles_in}
use Rattle.node_core.specs.Pieces.{resident_at}
use Rattle.node_parts.specs.Shown.{Left, Stood}
use Rattle.node_core.specs.Stands.{StandsAs}
use Rattle.node_core.specs.declared.node.Node.{Node}
use Rattle.node_parts.specs.declared.resident.Resident.{Resident}
use Rattle.world_parts.proofs.Lists.{got_set, set_length}
use Rattle.world_parts.specs.Recorded.{of_pieces}
use Rattle.world_parts.specs.Seen.{tasks_out}
use Rattle.world_parts.specs.Standing.{CanBeRead, IsTask, IsWorld, seen_of, spelled}
use Rattle.world_parts.specs.declared.parts.Parts.{Parts}
use Rattle.world_core.specs.Closing.{flights_after, lives_after, sent_all, swaps_after}
use Rattle.world_core.specs.Drafting.{AreNodes, AreOutgoing, IsDraft}
use Rattle.world_core.specs.declared.draft.Draft.{Draft}
use Rattle.letter_bytes.specs.declared.letters.Outgoing.{Outgoing}
use Rattle.world_core.proofs.Adding.{with_other, with_own}
use Rattle.world_core.proofs.Doing.{Here}
use Rattle.world_core.proofs.Eventing.{leads_push}
use Rattle.world_core.proofs.Leaving.{agreed_by, event_flights, one_or, performed_by, seen_after}
use Rattle.world_core.proofs.Sending.{sent_flights}

-- ---- who lives

comes_lives : (f : Frame) (v : World) (mail : Mail) → (comes f v mail).world.lives ≡ v.lives
comes_lives f v mail = one_or (lives_in f v (receiver_of mail)) _ _ (λ (u : AtWork). u.world.lives ≡ v.lives) refl refl

pub whole_lives : (f : Frame) (v : World) (o : Option (Flight Carried)) → (comes_whole f v o).world.lives ≡ v.lives
whole_lives f v None = refl
whole_lives f v (Some flight) = one_or (is_whole f.settings.nodes flight.packet) _ _ (λ (u : AtWork). u.world.lives ≡ v.lives) (comes_lives f v flight.packet.mail) refl

pub tick_lives : (f : Frame) (n : ℕ) (u : AtWork) → (ticks_below f n u).world.lives ≡ u.world.lives
tick_lives f zero u = refl
tick_lives f (suc n) u =
    let below = ticks_below f n u in
    one_or (below.world.lives n) _ _ (λ (v : AtWork). v.world.lives ≡ below.world.lives) refl refl ∙ tick_lives f n u

-- a list of who lives is the world's after the event, where it was before
living_same : (ls : List Bool) (w : World) (lives : ℕ → Bool) → lives ≡ w.lives → ((m : ℕ) (b : Bool) → slice_get ls m ≡ Some b → b ≡ w.lives m)
    → (m : ℕ) (b : Bool) → slice_get ls m ≡ Some b → b ≡ lives m
living_same ls w lives same h m b at = h m b at ∙ sym (ap (λ (l : ℕ → Bool). l m) same)

living_crashed : (ls : List Bool) (w : World) (node : ℕ) → ((m : ℕ) (b : Bool) → slice_get ls m ≡ Some b → b ≡ w.lives m)
    → (m : ℕ) (b : Bool) → slice_get (slice_set ls node false) m ≡ Some b → b ≡ with_at w.lives node false m
living_crashed ls w node h m b at =
    ⊎_elim (λ (own : (m ≡ node) × (false ≡ b)). sym own.1 ∙ sym (ap (λ (k : ℕ). with_at w.lives node false k) own.0 ∙ with_own w.lives node false))
    (λ (other : (m ≡ node → ⊥) × (slice_get ls m ≡ Some b)). h m b other.1 ∙ sym (with_other w.lives node false m other.0)) (got_set ls node m false b at)

living_after : (f : Frame) (w : World) (event : Event) (given : Known event) (ls : List Bool) → ((m : ℕ) (b : Bool) → slice_get ls m ≡ Some b → b ≡ w.lives m)
    → (m : ℕ) (b : Bool) → slice_get (lives_after event ls) m ≡ Some b → b ≡ (happens f w event given).world.lives m
living_after f w (event.Burst process place turns) given ls h = living_same ls w w.lives refl h
living_after f w (event.Act process) given ls h = living_same ls w w.lives refl h
living_after f w (event.Deliver packet copy) given ls h = living_same ls w _ (whole_lives f (record w { flights = without packet copy w.flights }) (ready_copy packet copy w.flights)) h
living_after f w event.Tick given ls h = living_same ls w _ (tick_lives f f.settings.nodes (untouched (record w { flights = ticked w.flights }))) h
living_after f w (event.Crash node) given ls h = living_crashed ls w node h
living_after f w (event.Suspect node) given ls h = living_same ls w w.lives refl h
living_after f w event.Swap given ls h = living_same ls w w.lives refl h

lives_length : (event : Event) (ls : List Bool) → length (lives_after event ls) ≡ length ls
lives_length (event.Burst process place turns) ls = refl
lives_length (event.Act process) ls = refl
lives_length (event.Deliver packet copy) ls = refl
lives_length event.Tick ls = refl
lives_length (event.Crash node) ls = set_length ls node false
lives_length (event.Suspect node) ls = refl
lives_length event.Swap ls = refl

-- ---- numbers

swaps_so : (event : Event) (n : ℕ) → swaps_after event n ≡ n + swap_of event
swaps_so (event.Burst process place turns) n = omega arith
swaps_so (event.Act process) n = omega arith
swaps_so (event.Deliver packet copy) n = omega arith
swaps_so event.Tick n = omega arith
swaps_so (event.Crash node) n = omega arith
swaps_so (event.Suspect node) n = omega arith
swaps_so event.Swap n = omega arith

idle_low : (event : Event) (n : ℕ) → idle_after event n ≤ suc n
idle_low (event.Burst process place turns) n = omega arith
idle_low (event.Act process) n = omega arith
idle_low (event.Deliver packet copy) n = omega arith
idle_low event.Tick n = omega arith
idle_low (event.Crash node) n = omega arith
idle_low (event.Suspect node) n = omega arith
idle_low event.Swap n = omega arith

idle_few : (b : Bool) (event : Event) (n : ℕ) → cond b 0 (idle_after event n) ≤ suc n
idle_few true event n = omega arith
idle_few false event n = idle_low event n

-- ---- letters

pub outgoing_count : (nodes : ℕ) (outgoing : List Outgoing) (mails : List Mail) → AreOutgoing nodes outgoing mails → length outgoing ≡ length mails
outgoing_count nodes [] [] h = refl
outgoing_count nodes (one ∷ outgoing) (mail ∷ mails) h = ap suc (outgoing_count nodes outgoing mails h.1)
outgoing_count nodes [] (mail ∷ mails) h = absurd h
outgoing_count nodes (one ∷ outgoing) [] h = absurd h

can_read : (nodes : ℕ) (outgoing : List Outgoing) (mails : List Mail) → AreOutgoing nodes outgoing mails → Each (CanBeRead nodes) mails
can_read nodes [] [] h = tt
can_read nodes (one ∷ outgoing) (mail ∷ mails) h = (record { packet = h.0.read; short = omega (arith, h.0.short, h.0.told) }, can_read nodes outgoing mails h.1)
can_read nodes [] (mail ∷ mails) h = absurd h
can_read nodes (one ∷ outgoing) [] h = absurd h

read_after : (nodes : ℕ) (event : Event) (flights : List (Flight Carried)) → Each (λ (flight : Flight Carried). CanBeRead nodes flight.packet.mail) flights
    → Each (λ (flight : Flight Carried). CanBeRead nodes flight.packet.mail) (flights_after event flights)
read_after nodes (event.Burst process place turns) flights h = h
read_after nodes (event.Act process) flights h = h
read_after nodes (event.Deliver packet copy) flights h = each_first (λ (flight : Flight Carried). CanBeRead nodes flight.packet.mail) _ flights h
read_after nodes event.Tick flights h = each_ticked (λ (flight : Flight Carried). CanBeRead nodes flight.packet.mail) (λ flight k. k) flights h
read_after nodes (event.Crash node) flights h = h
read_after nodes (event.Suspect node) flights h = h
read_after nodes event.Swap flights h = h

-- ---- the step

-- what an event leaves: these packets, entries that are new to the list, and operations, and whether anything stirred
pub record Leaves {P S : Type 0} (f : Frame) (s : Parts P S) (w : World) (outgoing : List Outgoing) (entries : List Message) (performed : List Placed) (stirred : Bool)
    (u : AtWork) : Type 0 where
  pub letters : AreOutgoing f.settings.nodes outgoing u.mails
  pub listed : s.ledger.entries ++ entries ≡ agreed f u.world
  pub did : Performed (singles_in f u.world) f.performs (agreed f u.world) u.world.aside (s.ledger.performed ++ performed)
  pub stirs : stirred ≡ has_stirred f w u.world
  pub later : (m : ℕ) → (w.nodes m).copies.applied ≤ (u.world.nodes m).copies.applied

pub draft_leaves : {P S : Type 0} (stood : Stood S) (left : Left S) (f : Frame) (s : Parts P S) (w : World) (event : Event) (draft : Draft P S) (u : AtWork) → IsDraft stood left f s w event draft u
    → Leaves f s w draft.outgoing.items draft.entries.items (of_pieces draft.pieces.items) draft.has_stirred u
draft_leaves stood left f s w event draft u h = record { letters = h.letters; listed = h.entries; did = h.performed; stirs = h.stirred; later = h.later }

-- what a step changed of the parts
pub record Changed {P S : Type 0} (stood : Stood S) (left : Left S) (f : Frame) (s new : Parts P S) (event : Event) (outgoing : List Outgoing) (entries : List Message) (performed : List Placed) (stirred : Bool) (fates : List Fate)
    (u : AtWork) : Type 0 where
  pub nodes : AreNodes stood left f new.nodes.items u.world
  pub tasks :
      (m i : ℕ) (node : Node P S) (r : Resident S) (view : Viewed) → slice_get new.nodes.items m ≡ Some node → resident_at node i ≡ Some r → r.out ≡ Some view →
      (u.world.lives m ≡ true) × ((before : Node P S) × (slice_get s.nodes.items m ≡ Some before) × (resident_at before i ≡ Some r))
  pub lives : new.lives.items ≡ lives_after event s.lives.items
  pub flights : new.net.flights ≡ sent_all s.sent outgoing fates (flights_after event s.net.flights)
  pub steps : new.ledger.steps ≡ s.ledger.steps ++ record { event = event; fates = fates } ∷ []
  pub listed : new.ledger.entries ≡ s.ledger.entries ++ entries
  pub did : new.ledger.performed ≡ s.ledger.performed ++ performed
  pub sent : new.sent ≡ s.sent + length outgoing
  pub few : length outgoing < 2 ^ 32
  pub swaps : new.swaps ≡ swaps_after event s.swaps
  pub idle : new.idle ≡ cond stirred 0 (idle_after event s.idle)
  pub step_room : tasks_out (seen_of new) ≤ new.ledger.step_room
  pub piece_room : tasks_out (seen_of new) ≤ new.ledger.piece_room

pub step_world : {P S : Type 0} (stood : Stood S) (left : Left S) (f : Frame) (s new : Parts P S) (w : World) (event : Event) (given : Known event) (outgoing : List Outgoing) (entries : List Message) (performed : List Placed) (stirred : Bool) (fates : List Fate)
    → Here stood left f s w event given → Leaves f s w outgoing entries performed stirred (happens f w event given) → length fates ≡ length (happens f w event given).mails
    → Changed stood left f s new event outgoing entries performed stirred fates (happens f w event given) → IsWorld stood left f new (after_step f w (record { event = event; fates = fates }) given)
step_world {P} {S} stood left f s new w event given outgoing entries performed stirred fates h drafted same changed = record {
  replays = subst (λ (l : List Step). Replays f l v) (sym changed.steps) replays;
  members = changed.nodes.count;
  nodes = λ m node at. subst (λ (k : ℕ → nodes_of.Node). StandsAs stood left f m node (k m)) (sym p.nodes) (changed.nodes.each m node at);
  all = ap length changed.lives ∙ lives_length event s.lives.items ∙ h.is.all;
  living = λ m b at. living_after f w event given s.lives.items h.is.living m b (ap (λ (l : List Bool). slice_get l m) (sym changed.lives) ∙ at) ∙ sym (ap (λ (l : ℕ → Bool). l m) p.lives);
  flights = changed.flights ∙ sent_flights f u.world outgoing u.mails fates (flights_after event s.net.flights) s.sent drafted.letters same (h.is.sent ∙ sym works.sent)
      (ap (flights_after event) h.is.flights ∙ seen_after (spelled f.settings.nodes) event w.flights ∙ ap (map (seen (spelled f.settings.nodes))) (sym (event_flights f w event given)));
  read = each_posted f (CanBeRead f.settings.nodes) u.mails fates u.world (can_read f.settings.nodes outgoing u.mails drafted.letters)
      (subst (Each (λ (flight : Flight Carried). CanBeRead f.settings.nodes flight.packet.mail)) (sym (event_flights f w event given)) (read_after f.settings.nodes event w.flights h.is.read));
  entries = changed.listed ∙ drafted.listed ∙ sym (agreed_by f u.world v p.nodes);
  performed = subst (Performed _ f.performs _ v.aside) (sym changed.did) (performed_by f u.world v (s.ledger.performed ++ performed) p.nodes p.aside drafted.did);
  sent = omega (arith, changed.sent, h.is.sent, works.sent, p.sent, told, same, outgoing_count f.settings.nodes outgoing u.mails drafted.letters);
  swaps = changed.swaps ∙ swaps_so event s.swaps ∙ ap (λ (n : ℕ). n + swap_of event) h.is.swaps ∙ sym (event_swaps f w event given) ∙ sym p.swaps;
  idle = changed.idle ∙ ap (λ (b : Bool). cond b 0 (idle_after event s.idle)) drafted.stirs ∙ ap (λ (n : ℕ). cond (has_stirred f w u.world) 0 (idle_after event n)) h.is.idle;
  few = omega (arith, changed.sent, changed.few, h.is.few, ap length changed.steps, length_push s.ledger.steps step);
  ticks = omega (arith, changed.idle, idle_few stirred event s.idle, h.is.ticks, ap length changed.steps, length_push s.ledger.steps step);
  tasks = task;
  step_room = changed.step_room;
  piece_room = changed.piece_room;
}
  where
    u : AtWork
    u = happens f w event given

    step : Step
    step = record { event = event; fates = fates }

    v : World
    v = after_step f w step given

    next : Next f w step v
    next = record { given = given; going = h.going; possible = h.possible; fates = same; after = refl }

    replays : Replays f (s.ledger.steps ++ step ∷ []) v
    replays = leads_push f _ s.ledger.steps w step v h.is.replays next

    p : Posts u.world fates (posts_all f u.world u.mails fates)
    p = posts_is f u.world u.mails fates same

    works : Works w u
    works = event_works f w event given h.possible

    told : length p.more ≡ length fates
    told = sym (length-map p.more (λ (t : Told). t.fate)) ∙ ap length p.fates

    task : (m i : ℕ) (node : Node P S) (r : Resident S) (view : Viewed) → slice_get new.nodes.items m ≡ Some node → resident_at node i ≡ Some r → r.out ≡ Some view → IsTask f v m r view
    task m i node r view at here out =
        let was = changed.tasks m i node r view at here out in
        let old = h.is.tasks m i was.1.0 r view was.1.1 was.1.2 out in
        let laws = h.stands.laws in
        let hold = laws.hold f refl refl h.stands.settings s.ledger.steps w h.is.replays in
        let later = laws.hold f refl refl h.stands.settings (s.ledger.steps ++ step ∷ []) v replays in
        let goes = laws.go f refl refl h.stands.settings s.ledger.steps w v step h.is.replays next in
        record {
          lives = ap (λ (l : ℕ → Bool). l m) p.lives ∙ was.0;
          computing = old.computing;
          after = old.after;
          before = omega (arith, old.before, hold.grouped.level m, drafted.later m, ap (λ (k : ℕ → nodes_of.Node). (k m).copies.applied) p.nodes, later.grouped.level m);
          objects = old.objects ∙ sym (goes.views m view.place old.before);
        }
