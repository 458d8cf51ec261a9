-- What the calls of a step ask, and which errors it answers.
use Rattle.std.proofs.Common.{◌≡◌, ◌<◌, ◌+◌, ◌-◌, ◌^◌, ◌∙◌, ◌⊎◌, inl, inr, ltb, ℕ, Bool, true, false, List, [], ◌∷◌, Option, None, Some, is_some, option_map, slice_get, map, Result, Err, ap, sym, subst, refl, arith, length}
use Rattle.std.proofs.lemmas.Bool.{ltb-true}
use Rattle.std.specs.List.{AllByRecursion as Each}
use Rattle.net_rules.proofs.Travelling.{seen_ready_copy}
use Rattle.net_rules.specs.Flights.{ready_copy, seen}
use Rattle.net_rules.specs.declared.flight.Flight.{Flight}
use Rattle.book_law.specs.Performed.{Performed}
use Rattle.world_law.specs.Holds.{Holds}
use Rattle.world_rules.specs.declared.event.Event.{Event}
use Rattle.world_rules.specs.declared.event.Event.TheVariants as event
use Rattle.world_rules.specs.declared.event.Step.{Step}
use Rattle.world_rules.specs.declared.standing.Standing.{Standing}
use Rattle.world_rules.specs.declared.standing.Standing.TheVariants.{Blocked, Faulted, Finished, Going, Limit, NoGroup, OutOfEvents, OutOfTurns}
use Rattle.world_rules.specs.Frame.{Frame}
use Rattle.world_rules.specs.Mail.{Mail}
use Rattle.world_rules.specs.Standings.{standing}
use Rattle.world_rules.specs.Steps.{Known, Replays, happens}
use Rattle.world_rules.specs.Worlds.{World, agreed, singles_in}
use Rattle.node_parts.specs.Shown.{Left, Stood}
use Rattle.node_core.specs.declared.node.Node.{Node}
use Rattle.world_parts.proofs.Worlds.{is_world}
use Rattle.world_parts.specs.Seen.{all_outs, tasks_out}
use Rattle.world_parts.specs.Standing.{HasNumbers, IsWorld, Stands, outs_of, seen_of, spelled}
use Rattle.world_parts.specs.declared.parts.Numbers.{Numbers}
use Rattle.world_parts.specs.declared.parts.Parts.{Parts}
use Rattle.world_core.specs.Closing.{HasLeft, HasRoomMade, MayEnd, MayLeave, flights_after}
use Rattle.world_core.specs.Drafting.{AreOutgoing, Drafts, IsDraft, MayNotBe}
use Rattle.world_core.specs.Stepping.{IsRefused, is_going}
use Rattle.world_core.specs.declared.draft.Draft.{Draft}
use Rattle.world_core.specs.declared.draft.Part.{Part}
use Rattle.letter_bytes.specs.declared.letters.Outgoing.{Outgoing}
use Rattle.world_core.specs.declared.step.StepError.{StepError}
use Rattle.world_core.specs.declared.step.StepError.TheVariants.{NoMemory as Without, NotEnabled}
use Rattle.world_core.proofs.Doing.{Here, within_of}
use Rattle.world_core.proofs.Numbering.{UpTo, after_low, numbered_low, seen_low}

-- ---- room was made

-- for the same world it stands still
pub room_stands : {P S : Type 0} (stood : Stood S) (left : Left S) (f : Frame) (s new : Parts P S) → HasRoomMade s new → Stands stood left f s → Stands stood left f new
room_stands {P} {S} stood left f s new h stands = record {
  numbers = subst (λ (n : Numbers). HasNumbers n f.settings) (sym h.numbers) stands.numbers;
  settings = stands.settings;
  laws = stands.laws;
  world = stands.world;
  is = record {
    replays = subst (λ l. Replays f l stands.world) (sym h.steps) stands.is.replays;
    members = ap length h.nodes ∙ stands.is.members;
    nodes = λ m node at. stands.is.nodes m node (ap (λ (l : List (Node P S)). slice_get l m) (sym h.nodes) ∙ at);
    all = ap length h.lives ∙ stands.is.all;
    living = λ m b at. stands.is.living m b (ap (λ (l : List Bool). slice_get l m) (sym h.lives) ∙ at);
    flights = h.flights ∙ stands.is.flights;
    read = stands.is.read;
    entries = h.entries ∙ stands.is.entries;
    performed = subst (λ l. Performed (singles_in f stands.world) f.performs (agreed f stands.world) stands.world.aside l) (sym h.performed) stands.is.performed;
    sent = h.sent ∙ stands.is.sent;
    swaps = h.swaps ∙ stands.is.swaps;
    idle = h.idle ∙ stands.is.idle;
    few = omega (arith, h.sent, stands.is.few, ap length h.steps);
    ticks = omega (arith, h.idle, stands.is.ticks, ap length h.steps);
    tasks = λ m i node r view at here out. stands.is.tasks m i node r view (ap (λ (l : List (Node P S)). slice_get l m) (sym h.nodes) ∙ at) here out;
    step_room = omega (arith, h.step_room, stands.is.step_room, same);
    piece_room = omega (arith, h.piece_room, stands.is.piece_room, same);
  };
}
  where
    same : tasks_out (seen_of new) ≡ tasks_out (seen_of s)
    same = ap (λ (l : List (Node P S)). all_outs (map outs_of l)) h.nodes

pub room_seen : {P S : Type 0} (s new : Parts P S) → HasRoomMade s new → seen_of new ≡ seen_of s
room_seen {P} {S} s new h =
    ap (λ (l : List Step). record { steps = l; out = map outs_of new.nodes.items }) h.steps ∙ ap (λ (l : List (Node P S)). record { steps = s.ledger.steps; out = map outs_of l }) h.nodes

-- ---- what calls ask

pub ready_there : {X Y : Type 0} (view : X → Y) (o : Option (Flight X)) → is_some o ≡ true → is_some (option_map (seen view) o) ≡ true
ready_there view None h = h
ready_there view (Some one) h = refl

-- a copy is ready here where it is in the world
pub ready_here : {P S : Type 0} (stood : Stood S) (left : Left S) (f : Frame) (s : Parts P S) (w : World) (packet copy : ℕ) → IsWorld stood left f s w
    → ready_copy packet copy s.net.flights ≡ option_map (seen (spelled f.settings.nodes)) (ready_copy packet copy w.flights)
ready_here stood left f s w packet copy is = ap (ready_copy packet copy) is.flights ∙ seen_ready_copy (spelled f.settings.nodes) packet copy w.flights

lt_of : (a b : ℕ) → ltb a b ≡ true → a < b
lt_of a b is = ltb-true a b is

pub may_leave : {P S : Type 0} (stood : Stood S) (left : Left S) (f : Frame) (s new : Parts P S) (w : World) (event : Event) (given : Known event) → Here stood left f s w event given → HasRoomMade s new
    → MayLeave event new
may_leave stood left f s new w (event.Deliver packet copy) given h room =
    ap (λ l. is_some (ready_copy packet copy l)) room.flights ∙ ap is_some (ready_here stood left f s w packet copy h.is) ∙ ready_there (spelled f.settings.nodes) (ready_copy packet copy w.flights) h.possible
may_leave stood left f s new w (event.Crash node) given h room = omega (arith, ap length room.lives, h.is.all, within_of f w node h.possible)
may_leave stood left f s new w event.Swap given h room =
    omega (arith, room.swaps, h.is.swaps, lt_of w.swaps (f.settings.wires - 1) h.possible, h.stands.settings.wires)
may_leave stood left f s new w event.Tick given h room = tt
may_leave stood left f s new w (event.Burst process place turns) given h room = tt
may_leave stood left f s new w (event.Act process) given h room = tt
may_leave stood left f s new w (event.Suspect node) given h room = tt

pub may_end : {P S : Type 0} (stood : Stood S) (left : Left S) (f : Frame) (s new : Parts P S) (w : World) (event : Event) (given : Known event) → Here stood left f s w event given
    → length new.nodes.items ≡ f.settings.nodes → MayEnd event new
may_end stood left f s new w (event.Crash node) given h many = omega (arith, many, within_of f w node h.possible)
may_end stood left f s new w (event.Deliver packet copy) given h many = tt
may_end stood left f s new w event.Tick given h many = tt
may_end stood left f s new w (event.Burst process place turns) given h many = tt
may_end stood left f s new w (event.Act process) given h many = tt
may_end stood left f s new w (event.Suspect node) given h many = tt
may_end stood left f s new w event.Swap given h many = tt

twins_of : (nodes : ℕ) (outgoing : List Outgoing) (mails : List Mail) → AreOutgoing nodes outgoing mails → Each (λ (one : Outgoing). one.twin ≡ one.bytes) outgoing
twins_of nodes [] [] h = tt
twins_of nodes (one ∷ outgoing) (mail ∷ mails) h = (h.0.twin, twins_of nodes outgoing mails h.1)
twins_of nodes [] (mail ∷ mails) h = absurd h
twins_of nodes (one ∷ outgoing) [] h = absurd h

each_within : {P S : Type 0} (a b : ℕ) (parts : List (Part P S)) → a ≡ b → Each (λ (part : Part P S). part.member < a) parts → Each (λ (part : Part P S). part.member < b) parts
each_within {P} {S} a b parts is h = subst (λ (n : ℕ). Each (λ (part : Part P S). part.member < n) parts) is h

-- what `close` asks of parts that the event left
pub record MayClose {P S : Type 0} (draft : Draft P S) (s : Parts P S) : Type 0 where
  pub members : Each (λ (part : Part P S). part.member < length s.nodes.items) draft.parts.items
  pub twins : Each (λ (one : Outgoing). one.twin ≡ one.bytes) draft.outgoing.items
  pub below : UpTo s.sent s.net.flights
  pub small : s.sent + length draft.outgoing.items < 2 ^ 63

-- few steps were stored yet
pub few_steps : {P S : Type 0} (stood : Stood S) (left : Left S) (f : Frame) (s : Parts P S) (w : World) → Stands stood left f s → IsWorld stood left f s w → standing f w ≡ Going
    → length s.ledger.steps < f.settings.events
few_steps stood left f s w h is going =
    let goes = ((h.laws.read f w).says Going going).0.events in
    omega (arith, goes, (h.laws.counted f s.ledger.steps w is.replays).steps)

pub idle_small : {P S : Type 0} (stood : Stood S) (left : Left S) (f : Frame) (s : Parts P S) (w : World) → Stands stood left f s → IsWorld stood left f s w → standing f w ≡ Going → s.idle < 2 ^ 63
idle_small stood left f s w h is going = omega (arith, is.ticks, few_steps stood left f s w h is going, h.settings.events)

pub may_close : {P S : Type 0} (stood : Stood S) (left : Left S) (f : Frame) (s s1 s2 : Parts P S) (w : World) (event : Event) (given : Known event) (draft : Draft P S) → Here stood left f s w event given
    → IsDraft stood left f s w event draft (happens f w event given) → HasRoomMade s s1 → HasLeft event s1 s2 → length draft.outgoing.items < 2 ^ 32 → MayClose draft s2
may_close {P} {S} stood left f s s1 s2 w event given draft h drafted room leaves few = record {
  members = each_within f.settings.nodes (length s2.nodes.items) draft.parts.items
      (sym (ap (λ (p : Parts P S). length p.nodes.items) leaves.others ∙ ap length room.nodes ∙ h.is.members)) drafted.members;
  twins = twins_of f.settings.nodes draft.outgoing.items (happens f w event given).mails drafted.letters;
  below = subst (UpTo s2.sent) (sym (leaves.flights ∙ ap (flights_after event) (room.flights ∙ h.is.flights)))
      (subst (λ (n : ℕ). UpTo n (flights_after event (map (seen (spelled f.settings.nodes)) w.flights))) (sym (sent ∙ h.is.sent))
      (after_low event w.sent (map (seen (spelled f.settings.nodes)) w.flights) (seen_low (spelled f.settings.nodes) w.sent w.flights (numbered_low f w.sent w.flights hold.numbered.each))));
  small = omega (arith, sent, h.is.few, few_steps stood left f s w h.stands h.is h.going, h.stands.settings.events, few);
}
  where
    hold : Holds f w
    hold = h.stands.laws.hold f refl refl h.stands.settings s.ledger.steps w h.is.replays

    sent : s2.sent ≡ s.sent
    sent = ap (λ (p : Parts P S). p.sent) leaves.others ∙ room.sent

-- ---- errors

pub refused_still : {P S : Type 0} (stood : Stood S) (left : Left S) (f : Frame) (s : Parts P S) (event : Event) → Stands stood left f s → ((w : World) → IsWorld stood left f s w → standing f w ≡ Going → ⊥)
    → IsRefused f event (seen_of s)
refused_still stood left f s event h not_going w replays may = not_going w (is_world stood left f s (seen_of s) refl h w replays) may.0

pub refused_by : {P S : Type 0} (stood : Stood S) (left : Left S) (f : Frame) (s : Parts P S) (event : Event) → Stands stood left f s → MayNotBe stood left f s event → IsRefused f event (seen_of s)
refused_by stood left f s event h may_not w replays may = may_not w (is_world stood left f s (seen_of s) refl h w replays) may.1.0 may.1.1

pub either_error : {A : Type 0} (e : StepError) → (◌≡◌ {A = Result A StepError} (Err e) (Err NotEnabled)) ⊎ (◌≡◌ {A = Result A StepError} (Err e) (Err Without))
either_error NotEnabled = inl refl
either_error Without = inr refl

-- an event that was done isn't refused
pub done_possible : {P S : Type 0} (stood : Stood S) (left : Left S) (f : Frame) (s : Parts P S) (event : Event) (draft : Draft P S) → (h : Stands stood left f s) → standing f h.world ≡ Going
    → Drafts stood left f s event draft → IsRefused f event (seen_of s) → ⊥
done_possible stood left f s event draft h going drafts refused = let d = drafts h.world h.is in refused h.world h.is.replays (going, (d.0, d.1))

-- ---- whether the run is going

pub going_of : (row : Standing) → is_going row ≡ true → row ≡ Going
going_of Going h = refl
going_of (Limit what number) h = absurd (cc h)
going_of OutOfTurns h = absurd (cc h)
going_of OutOfEvents h = absurd (cc h)
going_of NoGroup h = absurd (cc h)
going_of Faulted h = absurd (cc h)
going_of Blocked h = absurd (cc h)
going_of Finished h = absurd (cc h)

pub not_going : (row : Standing) → is_going row ≡ false → row ≡ Going → ⊥
not_going row h is = let e : ◌≡◌ {A = Bool} true false = ap is_going (sym is) ∙ h in cc e
