-- Each Ask is of a process that asks it, or that has its reply by now.
use Rattle.std.proofs.Common.{length-append, ◌≡◌, ℕ, zero, suc, Bool, true, false, cond, List, [], ◌∷◌, ◌++◌, Option, Some, None, refl, sym, subst, inl, inr, nat_lt, ◌==◌, ◌<◌, ◌+◌, length, ap, ◌∙◌, arith, ◌⊎◌, if◌then◌else◌, ◌||◌, nat_le}
use Rattle.std.proofs.lemmas.Bool.{cond_both}
use Rattle.std.specs.List.{find}
use Rattle.group_rules.specs.Sets.{with_at}
use Rattle.net_rules.specs.Flights.{copies, joined, ready_copy, ticked, without}
use Rattle.net_rules.specs.Script.{without_first}
use Rattle.net_rules.specs.declared.fate.Fate.{Fate}
use Rattle.net_rules.specs.declared.fate.Fate.TheVariants as fate
use Rattle.net_rules.specs.declared.flight.Flight.{Flight}
use Rattle.world_rules.specs.declared.event.Event as world
use Rattle.world_rules.specs.declared.event.Event.TheVariants as event
use Rattle.world_rules.specs.declared.event.Step.{Step}
use Rattle.world_rules.specs.Frame.{Frame, group}
use Rattle.world_rules.specs.Mail.{Carried, Mail, carried, cut_to, is_whole, receiver_of, Errand, place_of}
use Rattle.world_rules.specs.Nodes.{Node, NodeWork, idle, mails_of, does, joins, known, plays, becomes}
use Rattle.world_rules.specs.Parts.{acts, computes, receives, suspects, ticks, acts_at, acts_by, acts_of, asks, asks_again, calls, calls_as, catches_up, reads, receives_mail, submits, asks_again_at, asks_again_by, asks_again_of, asks_below, asks_owner}
use Rattle.world_rules.specs.Steps.{AtWork, Known, Leads, Next, after_part, closes, comes, comes_whole, happens, lives_in, posts, posts_all, ticks_below, untouched, Possible}
use Rattle.world_rules.specs.Worlds.{World, home_of, opening_world}
use Rattle.world_law.proofs.Maps.{at_both, at_here}
use Rattle.value_core.specs.declared.action.Action.{Action}
use Rattle.value_core.specs.declared.action.Action.TheVariants as action
use Rattle.value_core.specs.declared.action.Class.{Class}
use Rattle.value_core.specs.declared.action.Class.TheVariants.{Reads, Writes}
use Rattle.value_core.specs.declared.message.Message.{Message}
use Rattle.guard_queue.specs.declared.queue.Suspended.{Suspended}
use Rattle.object_manager.specs.State.{message_of}
use Rattle.group_rules.specs.Reset.{coordinate}
use Rattle.group_rules.specs.Steps.{deliver, submit, timer}
use Rattle.world_rules.specs.Applying.{applies_all}
use Rattle.world_rules.specs.Nodes.Deed.{Submits}
use Rattle.world_rules.specs.Owners.{performs_call, takes_reached, holds, is_held, sends, takes, takes_each}
use Rattle.world_rules.specs.Played.{Played, Stage, moves_to, next_call}
use Rattle.world_rules.specs.Played.Stage.{Computing, Acting, Submitted, Reading, Asking, Over}
use Rattle.world_rules.specs.Processes.{owner_in, singles_of}
use Rattle.world_law.specs.Going.{Later}
use Rattle.world_law.proofs.Going.{Goes, goes_again, goes_call, goes_on, later_same, same, goes_takes}
use Rattle.world_rules.specs.Mail.Errand.{Ask, Answer}
use Rattle.world_law.specs.Asks.{AskIsTrue, AskStands, AsksAreTrue, AsksTrue, FliesAsking, MailAsksTrue, WasAsked}
use Rattle.world_law.proofs.Quiet.{Quiet, asks_append, asks_in, quiet_call, quiet_joins, quiet_on, quiet_performed, quiet_read, quiet_rounds, quiet_takes}
use Rattle.world_law.proofs.Ages.{below_later, goes_calls_as, goes_mail, same_world, Ages, Fresh, On, ages_by, ages_part, ages_rounds, burst_later, goes_acts, goes_joins, goes_submits, moved, step_later, opening_fresh}
use Rattle.world_law.proofs.Once.{trichotomy}

-- ---- one Ask

abbrev pub MailsAsk : (ℕ → Node) → List Mail → Type 0
MailsAsk nodes [] = Unit {0}
MailsAsk nodes (mail ∷ mails) = MailAsksTrue nodes mail × MailsAsk nodes mails

abbrev AllStand : (ℕ → Node) → List (ℕ × Message) → Type 0
AllStand nodes [] = Unit {0}
AllStand nodes (ask ∷ asks) = AskStands nodes ask.0 ask.1 × AllStand nodes asks

-- it stays so as the process goes on
later_asked : (r t : Played) (place : ℕ) (x : Message) → Later r t → WasAsked r place x → WasAsked t place x
later_asked r t place x later (inl less) =
    let n : length t.replies ≡ length r.replies + length later.replies.0 = ap length later.replies.1 ∙ length-append r.replies later.replies.0 in
    inl (omega (arith, less, n))
later_asked r t place x later (inr asks) = by (trichotomy (length r.replies) (length t.replies))
  where
    n : length t.replies ≡ length r.replies + length later.replies.0
    n = ap length later.replies.1 ∙ length-append r.replies later.replies.0

    by : (length r.replies < length t.replies) ⊎ ((length r.replies ≡ length t.replies) ⊎ (length t.replies < length r.replies)) → WasAsked t place x
    by (inl less) = let e = asks.0 in inl (omega (arith, less, e))
    by (inr (inl same)) = inr (asks.0 ∙ same, later.asks (sym same) x.action asks.1, asks.2 ∙ sym (later.place (sym same)))
    by (inr (inr less)) = absurd (omega (arith, less, n))

-- ---- where processes go on at each member

abbrev Later_at : (ℕ → Node) → (ℕ → Node) → Type 0
Later_at one two = (m i : ℕ) (r : Played) → (one m).played i ≡ Some r → (t : Played) × ((two m).played i ≡ Some t) × Later r t

stands_later : (one two : ℕ → Node) → Later_at one two → (place : ℕ) (x : Message) → AskStands one place x → AskStands two place x
stands_later one two later place x h =
    let a = later h.member x.process.0 h.process h.here in
    record { member = h.member; process = a.0; here = a.1; was = later_asked h.process a.0 place x a.2 h.was }

ask_later : (one two : ℕ → Node) → Later_at one two → (errand : Errand) → AskIsTrue one errand → AskIsTrue two errand
ask_later one two later (Ask place x) h = stands_later one two later place x h
ask_later one two later (Answer place i n reply) h = tt

asks_later : (one two : ℕ → Node) → Later_at one two → (errands : List Errand) → AsksAreTrue one errands → AsksAreTrue two errands
asks_later one two later [] h = tt
asks_later one two later (errand ∷ errands) h = (ask_later one two later errand h.0, asks_later one two later errands h.1)

mail_later : (one two : ℕ → Node) → Later_at one two → (mail : Mail) → MailAsksTrue one mail → MailAsksTrue two mail
mail_later one two later (Mail.Grouped letter) h = tt
mail_later one two later (Mail.Sends incarnation from to errand) h = ask_later one two later errand h

mails_later : (one two : ℕ → Node) → Later_at one two → (mails : List Mail) → MailsAsk one mails → MailsAsk two mails
mails_later one two later [] h = tt
mails_later one two later (mail ∷ mails) h = (mail_later one two later mail h.0, mails_later one two later mails h.1)

asking_later : (one two : ℕ → Node) → Later_at one two → (flights : List (Flight Carried)) → FliesAsking one flights → FliesAsking two flights
asking_later one two later [] h = tt
asking_later one two later (flight ∷ flights) h = (mail_later one two later flight.packet.mail h.0, asking_later one two later flights h.1)

all_later : (one two : ℕ → Node) → Later_at one two → (asks : List (ℕ × Message)) → AllStand one asks → AllStand two asks
all_later one two later [] h = tt
all_later one two later (ask ∷ asks) h = (stands_later one two later ask.0 ask.1 h.0, all_later one two later asks h.1)

mails_ask : (nodes : ℕ → Node) (mails : List Mail) → AllStand nodes (asks_in mails) → MailsAsk nodes mails
mails_ask nodes [] h = tt
mails_ask nodes (Mail.Grouped letter ∷ mails) h = (tt, mails_ask nodes mails h)
mails_ask nodes (Mail.Sends incarnation from to (Ask place x) ∷ mails) h = (h.0, mails_ask nodes mails h.1)
mails_ask nodes (Mail.Sends incarnation from to (Answer place i n reply) ∷ mails) h = (tt, mails_ask nodes mails h)

all_append : (nodes : ℕ → Node) (one two : List (ℕ × Message)) → AllStand nodes one → AllStand nodes two → AllStand nodes (one ++ two)
all_append nodes [] two h k = k
all_append nodes (ask ∷ one) two h k = (h.0, all_append nodes one two h.1 k)

asks_join : (nodes : ℕ → Node) (one two : List Errand) → AsksAreTrue nodes one → AsksAreTrue nodes two → AsksAreTrue nodes (one ++ two)
asks_join nodes [] two h k = k
asks_join nodes (errand ∷ one) two h k = (h.0, asks_join nodes one two h.1 k)

mails_join : (nodes : ℕ → Node) (one two : List Mail) → MailsAsk nodes one → MailsAsk nodes two → MailsAsk nodes (one ++ two)
mails_join nodes [] two h k = k
mails_join nodes (mail ∷ one) two h k = (h.0, mails_join nodes one two h.1 k)

-- ---- a node at work

pub record Asked (b : ℕ → Node) (m : ℕ) (rest : List Errand) (v : NodeWork) : Type 0 where
  pub rest_true : AsksAreTrue (with_at b m v.node) rest
  pub held_true : AsksAreTrue (with_at b m v.node) v.node.held
  pub mails_true : AllStand (with_at b m v.node) (asks_in (mails_of v.deeds))

later_work : (b : ℕ → Node) (m : ℕ) (v u : NodeWork) → On v u → Later_at (with_at b m v.node) (with_at b m u.node)
later_work b m v u on k i r = at_both b m v.node k
    (λ (n : Node). n.played i ≡ Some r → (t : Played) × ((with_at b m u.node k).played i ≡ Some t) × Later r t)
    (λ e here. at_both b m u.node k (λ (n : Node). (t : Played) × (n.played i ≡ Some t) × Later r t) (λ d. on i r here) (λ no. absurd (no e)))
    (λ no here. at_both b m u.node k (λ (n : Node). (t : Played) × (n.played i ≡ Some t) × Later r t) (λ e. absurd (no e)) (λ d. (r, here, later_same r)))

asked_quiet : (b : ℕ → Node) (m : ℕ) (rest : List Errand) (v u : NodeWork) → Quiet v u → On v u → Asked b m rest v → Asked b m rest u
asked_quiet b m rest v u q on h =
    let later = later_work b m v u on in
    record {
      rest_true = asks_later (with_at b m v.node) (with_at b m u.node) later rest h.rest_true;
      held_true = subst (AsksAreTrue (with_at b m u.node)) (sym q.held) (asks_later (with_at b m v.node) (with_at b m u.node) later v.node.held h.held_true);
      mails_true = subst (AllStand (with_at b m u.node)) (sym q.mails)
          (all_later (with_at b m v.node) (with_at b m u.node) later (asks_in (mails_of v.deeds)) h.mails_true);
    }

-- it sends an Ask that stands
asked_sends : (b : ℕ → Node) (m to place : ℕ) (x : Message) (rest : List Errand) (v : NodeWork) → AskStands (with_at b m v.node) place x →
    Asked b m rest v → Asked b m rest (sends m to (Ask place x) v)
asked_sends b m to place x rest v is h = record {
  rest_true = h.rest_true;
  held_true = h.held_true;
  mails_true = subst (AllStand (with_at b m v.node)) (sym (asks_append (mails_of v.deeds) (Mail.Sends v.node.member.installed m to (Ask place x) ∷ [])))
      (all_append (with_at b m v.node) (asks_in (mails_of v.deeds)) ((place, x) ∷ []) h.mails_true (is, tt));
}

asked_holds : (b : ℕ → Node) (m : ℕ) (errand : Errand) (rest : List Errand) (v : NodeWork) → AskIsTrue (with_at b m v.node) errand →
    Asked b m rest v → Asked b m rest (holds errand v)
asked_holds b m errand rest v is h =
    let k : Asked b m rest v = h in
    let later = later_work b m v (holds errand v) (λ i r here. (r, here, later_same r)) in
    record {
      rest_true = asks_later (with_at b m v.node) (with_at b m (holds errand v).node) later rest h.rest_true;
      held_true = asks_join (with_at b m (holds errand v).node) v.node.held (errand ∷ [])
          (asks_later (with_at b m v.node) (with_at b m (holds errand v).node) later v.node.held h.held_true)
          (ask_later (with_at b m v.node) (with_at b m (holds errand v).node) later errand is, tt);
      mails_true = all_later (with_at b m v.node) (with_at b m (holds errand v).node) later (asks_in (mails_of v.deeds)) h.mails_true;
    }

asked_each : (b : ℕ → Node) (f : Frame) (m : ℕ) (errands : List Errand) (v : NodeWork) → Asked b m errands v → Asked b m [] (takes_each f m errands v)
asked_each b f m [] v h = h
asked_each b f m (errand ∷ errands) v h =
    let u : NodeWork = if nat_le (place_of errand) v.node.copies.applied then takes f m errand v else holds errand v in
    let k : Asked b m (errand ∷ errands) u =
    cond_both (nat_le (place_of errand) v.node.copies.applied) (takes f m errand v) (holds errand v) (Asked b m (errand ∷ errands))
    (λ e. asked_quiet b m (errand ∷ errands) v (takes f m errand v) (quiet_takes f m errand v) (goes_takes f m errand v).on h)
    (λ e. asked_holds b m errand (errand ∷ errands) v h.rest_true.0 h) in
    asked_each b f m errands u (record { rest_true = k.rest_true.1; held_true = k.held_true; mails_true = k.mails_true })

asked_reached : (b : ℕ → Node) (f : Frame) (m : ℕ) (v : NodeWork) → Asked b m [] v → Asked b m [] (takes_reached f m v)
asked_reached b f m v h = cond_both v.node.member.outside _ _ (Asked b m []) (λ e. h)
    (λ e.
    let u : NodeWork = becomes (record v.node { held = [] }) v in
    let later = later_work b m v u (λ i r here. (r, here, later_same r)) in
    asked_each b f m v.node.held u (record {
      rest_true = asks_later (with_at b m v.node) (with_at b m u.node) later v.node.held h.held_true;
      held_true = tt;
      mails_true = all_later (with_at b m v.node) (with_at b m u.node) later (asks_in (mails_of v.deeds)) h.mails_true;
    }))

pub asked_up : (b : ℕ → Node) (f : Frame) (m : ℕ) (v : NodeWork) → Fresh v.node → Asked b m [] v → Asked b m [] (catches_up f m v)
asked_up b f m v fresh h = asked_reached b f m (applies_all f m v)
    (asked_quiet b m [] v (applies_all f m v) (quiet_rounds f m v.node.member.waiting v) (ages_rounds f m v.node.member.waiting v fresh).on h)

-- ---- parts of events

-- the message is the process's next call
abbrev IsNext : ℕ → Played → Suspended → Type 0
IsNext i r call = (call.process.0 ≡ i) × (call.call.0 ≡ length r.replies)

asked_asks : (b : ℕ → Node) (f : Frame) (m i : ℕ) (r : Played) (was : Action) (call : Suspended) (v : NodeWork) → v.node.played i ≡ Some r →
    r.stage ≡ Acting was → IsNext i r call → Asked b m [] v → Asked b m [] (asks f m i r call v)
asked_asks b f m i r was call v here is next h =
    let t : Played = moves_to (Asking (message_of call).action) r in
    let u : NodeWork = plays i t v in
    let k : Asked b m [] u = asked_quiet b m [] v u (record { held = refl; mails = refl }) (moved i r was (Asking (message_of call).action) v here is).on h in
    let stands : AskStands (with_at b m u.node) r.place (message_of call) = record {
      member = m;
      process = t;
      here = ap (λ (n : Node). n.played call.process.0) (at_here b m u.node) ∙ ap u.node.played next.0 ∙ at_here v.node.played i (Some t);
      was = inr (next.1, refl, refl);
    } in
    cond_both (owner_in (known f v.node) call.object == m) _ _ (Asked b m [])
    (λ e. asked_quiet b m [] u (performs_call f m (message_of call) u) (quiet_call f m (message_of call) u) (goes_call f m (message_of call) u).on k)
    (λ e. asked_sends b m (owner_in (known f v.node) call.object) r.place (message_of call) [] u stands k)

asked_submits : (b : ℕ → Node) (f : Frame) (m i : ℕ) (r : Played) (act was : Action) (x : Message) (v : NodeWork) → v.node.played i ≡ Some r →
    r.stage ≡ Acting was → Asked b m [] v → Asked b m [] (submits f m i r act x v)
asked_submits b f m i r act was x v here is h =
    let u : NodeWork = does (Submits x) (plays i (moves_to (Submitted act) r) v) in
    asked_quiet b m [] v (submits f m i r act x v)
    (quiet_on (record { held = refl; mails = refl }) (quiet_joins (submit (group f) m x u.node.member) u))
    (goes_submits f m i r act was x v here is).on h

asked_calls_as : (b : ℕ → Node) (f : Frame) (m i : ℕ) (r : Played) (was : Action) (call : Suspended) (class : Class) (v : NodeWork) →
    v.node.played i ≡ Some r → r.stage ≡ Acting was → Asked b m [] v → Asked b m [] (calls_as f m i r call class v)
asked_calls_as b f m i r was call Reads v here is h =
    let u : NodeWork = plays i (moves_to (Reading (message_of call).action) r) v in
    asked_quiet b m [] v (reads f i r (message_of call).action v) (quiet_on (record { held = refl; mails = refl }) (quiet_read f i u))
    (goes_calls_as f m i r was call Reads v here is).on h
asked_calls_as b f m i r was call Writes v here is h = asked_submits b f m i r (message_of call).action was (message_of call) v here is h

asked_calls : (b : ℕ → Node) (f : Frame) (m i : ℕ) (r : Played) (was : Action) (call : Suspended) (v : NodeWork) → v.node.played i ≡ Some r →
    r.stage ≡ Acting was → IsNext i r call → Asked b m [] v → Asked b m [] (calls f m i r call v)
asked_calls b f m i r was call v here is next h = cond_both (singles_of f (known f v.node) call.object) _ _ (Asked b m [])
    (λ e. asked_asks b f m i r was call v here is next h)
    (λ e. asked_calls_as b f m i r was call (f.performs.class_of call.kind call.op) v here is h)

asked_by : (b : ℕ → Node) (f : Frame) (m i : ℕ) (r : Played) (was act : Action) (v : NodeWork) → v.node.played i ≡ Some r → r.stage ≡ Acting was →
    Asked b m [] v → Asked b m [] (acts_by f m i r act v)
asked_by b f m i r was (action.Make kind object) v here is h =
    let x : Message = record { process = record { 0 = i }; call = next_call r; action = action.Make kind object; performable = refl } in
    asked_submits b f m i r (action.Make kind object) was x v here is h
asked_by b f m i r was (action.Call kind op object args) v here is h =
    let call : Suspended = record { process = record { 0 = i }; call = next_call r; kind = kind; op = op; object = object; args = args } in
    asked_calls b f m i r was call v here is (refl, refl) h
asked_by b f m i r was (action.Fork text args place_on) v here is h =
    let x : Message = record { process = record { 0 = i }; call = next_call r; action = action.Fork text args place_on; performable = refl } in
    asked_submits b f m i r (action.Fork text args place_on) was x v here is h
asked_by b f m i r was action.Ended v here is h = h
asked_by b f m i r was (action.Faulted fault) v here is h = h

asked_at : (b : ℕ → Node) (f : Frame) (m i : ℕ) (r : Played) (stage : Stage) (v : NodeWork) → v.node.played i ≡ Some r → r.stage ≡ stage →
    Asked b m [] v → Asked b m [] (acts_at f m i r stage v)
asked_at b f m i r (Acting act) v here is h = asked_by b f m i r act act v here is h
asked_at b f m i r Computing v here is h = h
asked_at b f m i r (Submitted act) v here is h = h
asked_at b f m i r (Reading act) v here is h = h
asked_at b f m i r (Asking act) v here is h = h
asked_at b f m i r (Over act) v here is h = h

asked_acts : (b : ℕ → Node) (f : Frame) (m i : ℕ) (o : Option Played) (v : NodeWork) → v.node.played i ≡ o → Asked b m [] v →
    Asked b m [] (acts_of f m i o v)
asked_acts b f m i None v is h = h
asked_acts b f m i (Some r) v is h = asked_at b f m i r r.stage v is refl h

asked_mail : (b : ℕ → Node) (f : Frame) (m : ℕ) (mail : Mail) (v : NodeWork) → MailAsksTrue (with_at b m v.node) mail → Asked b m [] v →
    Asked b m [] (receives_mail f m mail v)
asked_mail b f m (Mail.Grouped letter) v is h =
    asked_quiet b m [] v (joins (deliver (group f) m letter.packet v.node.member) v) (quiet_joins (deliver (group f) m letter.packet v.node.member) v)
    (goes_joins (deliver (group f) m letter.packet v.node.member) v).on h
asked_mail b f m (Mail.Sends incarnation from to errand) v is h = cond_both (v.node.member.outside || is_held errand v.node.held) _ _ (Asked b m []) (λ e. h)
    (λ e. asked_holds b m errand [] v is h)

-- ---- Asks again

asked_owner : (b : ℕ → Node) (f : Frame) (m i : ℕ) (r : Played) (call : Suspended) (v : NodeWork) → v.node.played i ≡ Some r →
    r.stage ≡ Asking (message_of call).action → IsNext i r call → Asked b m [] v → Asked b m [] (asks_owner f m r call v)
asked_owner b f m i r call v here is next h =
    let stands : AskStands (with_at b m v.node) r.place (message_of call) = record {
      member = m;
      process = r;
      here = ap (λ (n : Node). n.played call.process.0) (at_here b m v.node) ∙ ap v.node.played next.0 ∙ here;
      was = inr (next.1, is, refl);
    } in
    cond_both (owner_in (known f v.node) call.object == m) _ _ (Asked b m []) (λ e. h)
    (λ e. asked_sends b m (owner_in (known f v.node) call.object) r.place (message_of call) [] v stands h)

asked_again_by : (b : ℕ → Node) (f : Frame) (m i : ℕ) (r : Played) (act : Action) (v : NodeWork) → v.node.played i ≡ Some r → r.stage ≡ Asking act →
    Asked b m [] v → Asked b m [] (asks_again_by f m i r act v)
asked_again_by b f m i r (action.Call kind op object args) v here is h =
    let call : Suspended = record { process = record { 0 = i }; call = next_call r; kind = kind; op = op; object = object; args = args } in
    asked_owner b f m i r call v here is (refl, refl) h
asked_again_by b f m i r (action.Make kind object) v here is h = h
asked_again_by b f m i r (action.Fork text args place_on) v here is h = h
asked_again_by b f m i r action.Ended v here is h = h
asked_again_by b f m i r (action.Faulted fault) v here is h = h

asked_again_at : (b : ℕ → Node) (f : Frame) (m i : ℕ) (r : Played) (stage : Stage) (v : NodeWork) → v.node.played i ≡ Some r → r.stage ≡ stage →
    Asked b m [] v → Asked b m [] (asks_again_at f m i r stage v)
asked_again_at b f m i r (Asking act) v here is h = asked_again_by b f m i r act v here is h
asked_again_at b f m i r Computing v here is h = h
asked_again_at b f m i r (Acting act) v here is h = h
asked_again_at b f m i r (Submitted act) v here is h = h
asked_again_at b f m i r (Reading act) v here is h = h
asked_again_at b f m i r (Over act) v here is h = h

asked_again_of : (b : ℕ → Node) (f : Frame) (m i : ℕ) (o : Option Played) (v : NodeWork) → v.node.played i ≡ o → Asked b m [] v →
    Asked b m [] (asks_again_of f m i o v)
asked_again_of b f m i None v is h = h
asked_again_of b f m i (Some r) v is h = asked_again_at b f m i r r.stage v is refl h

asked_below : (b : ℕ → Node) (f : Frame) (m n : ℕ) (v : NodeWork) → Asked b m [] v → Asked b m [] (asks_below f m n v)
asked_below b f m zero v h = h
asked_below b f m (suc i) v h =
    let u : NodeWork = asks_below f m i v in
    asked_again_of b f m i (u.node.played i) u refl (asked_below b f m i v h)

asked_again : (b : ℕ → Node) (f : Frame) (m : ℕ) (v : NodeWork) → Asked b m [] v → Asked b m [] (asks_again f m v)
asked_again b f m v h = cond_both v.node.member.outside _ _ (Asked b m []) (λ e. h) (λ e. asked_below b f m v.node.copies.processes v h)

-- ---- flights

asking_first : (nodes : ℕ → Node) (test : Flight Carried → Bool) (flights : List (Flight Carried)) → FliesAsking nodes flights →
    FliesAsking nodes (without_first test flights)
asking_first nodes test [] h = tt
asking_first nodes test (flight ∷ flights) h = cond_both (test flight) flights (flight ∷ without_first test flights) (FliesAsking nodes)
    (λ e. h.1) (λ e. (h.0, asking_first nodes test flights h.1))

pub asking_without : (nodes : ℕ → Node) (number copy : ℕ) (flights : List (Flight Carried)) → FliesAsking nodes flights →
    FliesAsking nodes (without number copy flights)
asking_without nodes number copy flights h = asking_first nodes _ flights h

asking_by : (nodes : ℕ → Node) (b : Bool) (one flight : Flight Carried) (rest : Option (Flight Carried)) →
    cond b (Some one) rest ≡ Some flight → MailAsksTrue nodes one.packet.mail → (rest ≡ Some flight → MailAsksTrue nodes flight.packet.mail) →
    MailAsksTrue nodes flight.packet.mail
asking_by nodes true one flight rest e h later =
    let same : one ≡ flight = cc in
    subst (λ (z : Flight Carried). MailAsksTrue nodes z.packet.mail) same h
asking_by nodes false one flight rest e h later = later e

pub asking_found : (nodes : ℕ → Node) (test : Flight Carried → Bool) (flights : List (Flight Carried)) (flight : Flight Carried) →
    find test flights ≡ Some flight → FliesAsking nodes flights → MailAsksTrue nodes flight.packet.mail
asking_found nodes test [] flight e h = cc e
asking_found nodes test (one ∷ flights) flight e h = asking_by nodes (test one) one flight (find test flights) e h.0
    (λ later. asking_found nodes test flights flight later h.1)

pub asking_ticked : (nodes : ℕ → Node) (flights : List (Flight Carried)) → FliesAsking nodes flights → FliesAsking nodes (ticked flights)
asking_ticked nodes [] h = tt
asking_ticked nodes (flight ∷ flights) h = (h.0, asking_ticked nodes flights h.1)

asking_append : (nodes : ℕ → Node) (one two : List (Flight Carried)) → FliesAsking nodes one → FliesAsking nodes two → FliesAsking nodes (one ++ two)
asking_append nodes [] two h k = k
asking_append nodes (flight ∷ one) two h k = (h.0, asking_append nodes one two h.1 k)

asking_joined : (nodes : ℕ → Node) (number : ℕ) (new flights : List (Flight Carried)) → FliesAsking nodes new → FliesAsking nodes flights →
    FliesAsking nodes (joined number new flights)
asking_joined nodes number new [] h k = h
asking_joined nodes number new (flight ∷ flights) h k = cond_both (nat_lt flight.number number) (flight ∷ joined number new flights) (new ++ flight ∷ flights)
    (FliesAsking nodes) (λ e. (k.0, asking_joined nodes number new flights h k.1)) (λ e. asking_append nodes new (flight ∷ flights) h k)

asking_copies : (nodes : ℕ → Node) (number from to : ℕ) (mail : Mail) (one : Fate) → MailAsksTrue nodes mail →
    FliesAsking nodes (copies cut_to number from to (carried mail) one)
asking_copies nodes number from to mail fate.Pass h = (h, tt)
asking_copies nodes number from to mail fate.Drop h = tt
asking_copies nodes number from to mail fate.Twice h = (h, (h, tt))
asking_copies nodes number from to mail (fate.Hold ticks) h = (h, tt)
asking_copies nodes number from to mail (fate.Cut length) h = (h, tt)

-- ---- what is posted

-- the members stay, and what flies is true
pub record PostedAsks (nodes : ℕ → Node) (w v : World) : Type 0 where
  pub stay : v.nodes ≡ w.nodes
  pub flies : FliesAsking nodes v.flights

pub posted_asks : (f : Frame) (nodes : ℕ → Node) (mails : List Mail) (fates : List Fate) (w : World) → MailsAsk nodes mails →
    FliesAsking nodes w.flights → PostedAsks nodes w (posts_all f w mails fates)
posted_asks f nodes [] fates w h k = record { stay = refl; flies = k }
posted_asks f nodes (mail ∷ mails) [] w h k = record { stay = refl; flies = k }
posted_asks f nodes (mail ∷ mails) (one ∷ fates) w h k =
    let rest = posted_asks f nodes mails fates (posts f w mail one) h.1
    (asking_joined nodes (suc w.sent) _ w.flights (asking_copies nodes _ _ _ mail one h.0) k) in
    record { stay = rest.stay; flies = rest.flies }

-- ---- a member's part

record Sent (u : AtWork) : Type 0 where
  asks : AsksTrue u.world
  mails : MailsAsk u.world.nodes u.mails

start : (w : World) (m : ℕ) → AsksTrue w → Asked w.nodes m [] (idle (w.nodes m))
start w m h = record {
  rest_true = tt;
  held_true = asks_later w.nodes (with_at w.nodes m (w.nodes m)) (λ k i r here. at_both w.nodes m (w.nodes m) k
      (λ (n : Node). (t : Played) × (n.played i ≡ Some t) × Later r t)
      (λ e. (r, ap (λ z. (w.nodes z).played i) (sym e) ∙ here, later_same r)) (λ no. (r, here, later_same r))) (w.nodes m).held (h.held m);
  mails_true = tt;
}

sent_part : (f : Frame) (m : ℕ) (v : NodeWork) (u : AtWork) → Sent u → On (idle (u.world.nodes m)) v → Asked u.world.nodes m [] v →
    Sent (after_part f m v u)
sent_part f m v u h on k =
    let b : ℕ → Node = u.world.nodes in
    let later : Later_at b (with_at b m v.node) = λ j i r here. at_both b m v.node j (λ (n : Node). (t : Played) × (n.played i ≡ Some t) × Later r t)
    (λ e. on i r (ap (λ z. (b z).played i) (sym e) ∙ here)) (λ no. (r, here, later_same r)) in
    record {
      asks = record {
        flights = asking_later b (with_at b m v.node) later u.world.flights h.asks.flights;
        held = λ j. at_both b m v.node j (λ (n : Node). AsksAreTrue (with_at b m v.node) n.held) (λ e. k.held_true)
            (λ no. asks_later b (with_at b m v.node) later (b j).held (h.asks.held j));
      };
      mails = mails_join (with_at b m v.node) u.mails (mails_of v.deeds) (mails_later b (with_at b m v.node) later u.mails h.mails)
          (mails_ask (with_at b m v.node) (mails_of v.deeds) k.mails_true);
    }

sent : (w : World) → AsksTrue w → Sent (untouched w)
sent w h = record { asks = h; mails = tt }

-- ---- events

sent_comes : (f : Frame) (w : World) (mail : Mail) → MailAsksTrue w.nodes mail → ((m : ℕ) → Fresh (w.nodes m)) → AsksTrue w → Sent (comes f w mail)
sent_comes f w mail is fresh h = cond_both (lives_in f w (receiver_of mail)) _ _ Sent
    (λ e.
    let m : ℕ = receiver_of mail in
    let v : NodeWork = idle (w.nodes m) in
    let u : NodeWork = receives_mail f m mail v in
    let a : Ages v u = ages_by v u (goes_mail f m mail v) (fresh m) in
    let same_nodes : Later_at w.nodes (with_at w.nodes m (w.nodes m)) = λ k i r here. at_both w.nodes m (w.nodes m) k
    (λ (n : Node). (t : Played) × (n.played i ≡ Some t) × Later r t)
    (λ d. (r, ap (λ z. (w.nodes z).played i) (sym d) ∙ here, later_same r)) (λ no. (r, here, later_same r)) in
    sent_part f m (receives f m mail (w.nodes m)) (untouched w) (sent w h) (ages_part f m v u (goes_mail f m mail v) (fresh m)).on
    (asked_up w.nodes f m u a.fresh (asked_mail w.nodes f m mail v (mail_later w.nodes (with_at w.nodes m (w.nodes m)) same_nodes mail is) (start w m h))))
    (λ e. sent w h)

sent_whole : (f : Frame) (w : World) (o : Option (Flight Carried)) → ((flight : Flight Carried) → o ≡ Some flight → MailAsksTrue w.nodes flight.packet.mail) →
    ((m : ℕ) → Fresh (w.nodes m)) → AsksTrue w → Sent (comes_whole f w o)
sent_whole f w None is fresh h = sent w h
sent_whole f w (Some flight) is fresh h = cond_both (is_whole f.settings.nodes flight.packet) _ _ Sent
    (λ e. sent_comes f w flight.packet.mail (is flight refl) fresh h) (λ e. sent w h)

sent_below : (f : Frame) (n : ℕ) (u : AtWork) → ((m : ℕ) → Fresh (u.world.nodes m)) → Sent u → Sent (ticks_below f n u)
sent_below f zero u fresh h = h
sent_below f (suc m) u fresh h =
    let k = sent_below f m u fresh h in
    let w : AtWork = ticks_below f m u in
    let now : (j : ℕ) → Fresh (w.world.nodes j) = (below_later f u.world m u (record { later = same_world u.world u.world refl; fresh = fresh })).fresh in
    let v : NodeWork = idle (w.world.nodes m) in
    let one : NodeWork = joins (timer (group f) m (w.world.nodes m).member) v in
    let two : NodeWork = asks_again f m one in
    let g : Goes v two = goes_on (goes_joins (timer (group f) m (w.world.nodes m).member) v) (goes_again f m one) in
    cond_both (w.world.lives m) _ _ Sent
    (λ e. sent_part f m (ticks f m (w.world.nodes m)) w k (ages_part f m v two g (now m)).on
    (asked_up w.world.nodes f m two (ages_by v two g (now m)).fresh
    (asked_again w.world.nodes f m one
    (asked_quiet w.world.nodes m [] v one (quiet_joins (timer (group f) m (w.world.nodes m).member) v)
    (goes_joins (timer (group f) m (w.world.nodes m).member) v).on (start w.world m k.asks)))))
    (λ e. k)

sent_happens : (f : Frame) (w : World) (event : world.Event) (given : Known event) → Possible f w event given → ((m : ℕ) → Fresh (w.nodes m)) →
    AsksTrue w → Sent (happens f w event given)
sent_happens f w (event.Burst process place turns) burst may fresh h =
    let m : ℕ = home_of f w process.0 in
    let v : NodeWork = computes process.0 place burst.reads burst.end (w.nodes m) in
    let g : Goes (idle (w.nodes m)) v = burst_later f w process place turns burst may in
    sent_part f m v (untouched w) (sent w h) g.on
    (asked_quiet w.nodes m [] (idle (w.nodes m)) v
    (quiet_on (quiet_performed place burst.reads (idle (w.nodes m))) (record { held = refl; mails = refl })) g.on (start w m h))
sent_happens f w (event.Act process) given may fresh h =
    let m : ℕ = home_of f w process.0 in
    let v : NodeWork = idle (w.nodes m) in
    let u : NodeWork = acts_of f m process.0 ((w.nodes m).played process.0) v in
    let g : Goes v u = goes_acts f m process.0 ((w.nodes m).played process.0) v refl in
    sent_part f m (acts f m process.0 (w.nodes m)) (untouched w) (sent w h) (ages_part f m v u g (fresh m)).on
    (asked_up w.nodes f m u (ages_by v u g (fresh m)).fresh (asked_acts w.nodes f m process.0 ((w.nodes m).played process.0) v refl (start w m h)))
sent_happens f w (event.Deliver packet copy) given may fresh h =
    sent_whole f (record w { flights = without packet copy w.flights }) (ready_copy packet copy w.flights)
    (λ flight e. asking_found w.nodes _ w.flights flight e h.flights) fresh
    (record { flights = asking_without w.nodes packet copy w.flights h.flights; held = h.held })
sent_happens f w event.Tick given may fresh h =
    sent_below f f.settings.nodes (untouched (record w { flights = ticked w.flights })) fresh
    (sent (record w { flights = ticked w.flights }) (record { flights = asking_ticked w.nodes w.flights h.flights; held = h.held }))
sent_happens f w (event.Crash node) given may fresh h = record { asks = record { flights = h.flights; held = h.held }; mails = tt }
sent_happens f w (event.Suspect node) given may fresh h =
    let v : NodeWork = idle (w.nodes node) in
    let u : NodeWork = joins (coordinate (group f) node (w.nodes node).member) v in
    let g : Goes v u = goes_joins (coordinate (group f) node (w.nodes node).member) v in
    sent_part f node (suspects f node (w.nodes node)) (untouched w) (sent w h) (ages_part f node v u g (fresh node)).on
    (asked_up w.nodes f node u (ages_by v u g (fresh node)).fresh
    (asked_quiet w.nodes node [] v u (quiet_joins (coordinate (group f) node (w.nodes node).member) v) g.on (start w node h)))
sent_happens f w event.Swap given may fresh h = record { asks = record { flights = h.flights; held = h.held }; mails = tt }

asks_closes : (f : Frame) (w : World) (step : Step) (u : AtWork) → Sent u → AsksTrue (closes f w step u)
asks_closes f w step u h =
    let p = posted_asks f u.world.nodes u.mails step.fates u.world h.mails h.asks.flights in
    let v : World = posts_all f u.world u.mails step.fates in
    record {
      flights = subst (λ nodes. FliesAsking nodes v.flights) (sym p.stay) p.flies;
      held = λ m. subst (λ (nodes : ℕ → Node). AsksAreTrue nodes (nodes m).held) (sym p.stay) (h.asks.held m);
    }

pub step_asks : (f : Frame) (w v : World) (step : Step) → Next f w step v → ((m : ℕ) → Fresh (w.nodes m)) → AsksTrue w → AsksTrue v
step_asks f w v step next fresh h = subst AsksTrue (sym next.after)
    (asks_closes f w step (happens f w step.event next.given) (sent_happens f w step.event next.given next.possible fresh h))

leads_asks : (f : Frame) (w : World) (steps : List Step) (v : World) → Leads f w steps v → ((m : ℕ) → Fresh (w.nodes m)) → AsksTrue w → AsksTrue v
leads_asks f w [] v leads fresh h = subst AsksTrue (sym leads) h
leads_asks f w (step ∷ steps) v leads fresh h = leads_asks f leads.0 steps v leads.2 (step_later f w leads.0 step leads.1 fresh).fresh
    (step_asks f w leads.0 step leads.1 fresh h)

pub all_asks : (f : Frame) (steps : List Step) (w : World) → Leads f (opening_world f) steps w → AsksTrue w
all_asks f steps w leads = leads_asks f (opening_world f) steps w leads (opening_fresh f) (record { flights = tt; held = λ m. tt })
