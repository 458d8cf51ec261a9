-- Each Answer reaches its process, along a run.
use Rattle.std.proofs.Common.{◌≡◌, ◌<◌, ◌*◌, ℕ, zero, suc, List, [], ◌∷◌, ◌++◌, Option, None, Some, refl, sym, ap, ◌∙◌, arith, subst}
use Rattle.std.proofs.lemmas.Bool.{cond_both}
use Rattle.std.specs.List.{AllByRecursion as Each}
use Rattle.orca_base.specs.declared.ids.CallNo.{CallNo}
use Rattle.orca_base.specs.declared.ids.ProcessNo.{ProcessNo}
use Rattle.group_law.specs.Agreed.{AgreedLaw}
use Rattle.value_core.specs.declared.action.Line.{Line}
use Rattle.value_core.specs.declared.message.Message.{Message}
use Rattle.guard_queue.specs.declared.queue.Suspended.{Suspended}
use Rattle.group_rules.specs.Reset.{coordinate}
use Rattle.group_rules.specs.Sets.{with_at}
use Rattle.group_rules.specs.Steps.{deliver, timer}
use Rattle.net_rules.specs.Flights.{ready_copy, ticked, without}
use Rattle.net_rules.specs.declared.flight.Flight.{Flight}
use Rattle.world_rules.specs.declared.event.Event as world
use Rattle.world_rules.specs.declared.event.Event.TheVariants as event
use Rattle.world_rules.specs.declared.event.Step.{Step}
use Rattle.world_rules.specs.Frame.{Frame, group}
use Rattle.world_rules.specs.Mail.{Carried, Errand, Mail, is_whole, receiver_of}
use Rattle.world_rules.specs.Mail.Errand.{Ask, Answer}
use Rattle.world_rules.specs.Nodes.{Given, Node, NodeWork, does, idle, joins, mails_of}
use Rattle.world_rules.specs.Nodes.Deed.{Performs}
use Rattle.world_rules.specs.Parts.{acts_of, asks_again, catches_up, computes, performs_all, receives, receives_mail}
use Rattle.world_rules.specs.Played.{Played}
use Rattle.world_rules.specs.Steps.{AtWork, Burst, IsBurst, Known, Leads, Next, Possible, after_part, closes, comes_whole, happens, lives_in, ticks_below, untouched}
use Rattle.world_rules.specs.Worlds.{World, home_of, opening_world}
use Rattle.world_law.specs.Asks.{AskIsTrue, AsksAreTrue, AsksTrue, FliesAsking, MailAsksTrue}
use Rattle.world_law.specs.Grouped.{Grouped}
use Rattle.world_law.specs.Homes.{AreHome}
use Rattle.world_law.specs.Packets.{PlacesWithin}
use Rattle.world_law.specs.Places.{AnswerStands, CallStands, CallsStand, MailReaches, MailStands, Plays, Reaches, ReachesOne, StepsReach, plays_of}
use Rattle.world_law.proofs.Ages.{Fresh, Going, On, ages_by, ages_part, below_later, burst_later, goes_acts, goes_joins, goes_mail, leads_later, opening_fresh, posted_nodes, same_world}
use Rattle.world_law.proofs.Asking.{all_asks}
use Rattle.world_law.proofs.Flying.{each_append, each_first, each_found, each_more, each_posted, each_ticked}
use Rattle.world_law.proofs.Going.{Goes, goes_again, goes_on}
use Rattle.world_law.proofs.Grouping.{Laws}
use Rattle.world_law.proofs.Homing.{home_is}
use Rattle.world_law.proofs.Maps.{at_both, at_image, at_self}
use Rattle.world_law.proofs.Reaching.{ErrandFits, Even, Fits, FitsOf, LaterAll, MailFits, call_later, errand_later, errands_in, even_joins, fits_acts, fits_again, fits_arrives, fits_even, fits_up, later_on_all, mail_fits_later}

-- ---- a world at work

record Calling (u : AtWork) : Type 0 where
  flights : Each (λ (flight : Flight Carried). MailFits (plays_of u.world) flight.packet.mail) u.world.flights
  held : (k : ℕ) → Each (ErrandFits (plays_of u.world)) (u.world.nodes k).held
  given : (k i : ℕ) (one : Given) → (u.world.nodes k).given i ≡ Some one → CallStands (plays_of u.world) one.place i one.call
  waits :
      (k : ℕ) → Each (λ (call : Suspended). CallStands (plays_of u.world) (u.world.nodes k).copies.applied call.process.0 call.call)
      (u.world.nodes k).copies.waits
  mails : Each (MailFits (plays_of u.world)) u.mails

all_mails : (all : Plays) (mails : List Mail) → Each (MailFits all) (errands_in mails) → Each (MailFits all) mails
all_mails all [] h = tt
all_mails all (Mail.Grouped letter ∷ mails) h = (tt, all_mails all mails h)
all_mails all (Mail.Sends incarnation from to errand ∷ mails) h = (h.0, all_mails all mails h.1)

-- the members' parts, by who plays
record Parts (all : Plays) (nodes : ℕ → Node) (flying : List (Flight Carried)) (sent : List Mail) : Type 0 where
  flights : Each (λ (flight : Flight Carried). MailFits all flight.packet.mail) flying
  held : (k : ℕ) → Each (ErrandFits all) (nodes k).held
  given : (k i : ℕ) (one : Given) → (nodes k).given i ≡ Some one → CallStands all one.place i one.call
  waits : (k : ℕ) → Each (λ (call : Suspended). CallStands all (nodes k).copies.applied call.process.0 call.call) (nodes k).copies.waits
  mails : Each (MailFits all) sent

starts : (f : Frame) (u : AtWork) (m : ℕ) → Calling u → Fits (plays_of u.world) f m [] (idle (u.world.nodes m))
starts f u m h =
    let node : Node = u.world.nodes m in
    subst (λ all. FitsOf all node.given node.copies.applied node.copies.waits node.held [] []) (sym (at_self (plays_of u.world) m))
    (record { rest_fit = tt; held_fit = h.held m; given_fit = h.given m; waits_fit = h.waits m; mails_fit = tt })

calling_part : (f : Frame) (m : ℕ) (v : NodeWork) (u : AtWork) → On (idle (u.world.nodes m)) v → Fits (plays_of u.world) f m [] v → Calling u →
    Calling (after_part f m v u)
calling_part f m v u on fits h =
    let all : Plays = plays_of u.world in
    let new : Plays = with_at all m v.node.played in
    let nodes : ℕ → Node = with_at u.world.nodes m v.node in
    let later : LaterAll all new =
    subst (λ z. LaterAll z new) (at_self all m) (later_on_all all f m (idle (u.world.nodes m)) v on) in
    let same : new ≡ plays_of (after_part f m v u).world = sym (at_image (λ (n : Node). n.played) u.world.nodes m v.node) in
    let parts : Parts new nodes u.world.flights (u.mails ++ mails_of v.deeds) = record {
      flights = each_more (λ (flight : Flight Carried). MailFits all flight.packet.mail) (λ (flight : Flight Carried). MailFits new flight.packet.mail)
          (λ flight k. mail_fits_later all new later flight.packet.mail k) u.world.flights h.flights;
      held = λ k. at_both u.world.nodes m v.node k (λ (n : Node). Each (ErrandFits new) n.held) (λ e. fits.held_fit)
          (λ no. each_more (ErrandFits all) (ErrandFits new) (errand_later all new later) (u.world.nodes k).held (h.held k));
      given = λ k i one. at_both u.world.nodes m v.node k (λ (n : Node). n.given i ≡ Some one → CallStands new one.place i one.call)
          (λ e found. fits.given_fit i one found)
          (λ no found. call_later all new later one.place one.place i one.call (omega arith) (h.given k i one found));
      waits = λ k. at_both u.world.nodes m v.node k
          (λ (n : Node). Each (λ (call : Suspended). CallStands new n.copies.applied call.process.0 call.call) n.copies.waits) (λ e. fits.waits_fit)
          (λ no. each_more (λ (call : Suspended). CallStands all (u.world.nodes k).copies.applied call.process.0 call.call)
          (λ (call : Suspended). CallStands new (u.world.nodes k).copies.applied call.process.0 call.call)
          (λ call is. call_later all new later (u.world.nodes k).copies.applied (u.world.nodes k).copies.applied call.process.0 call.call (omega arith) is)
          (u.world.nodes k).copies.waits (h.waits k));
      mails = each_append (MailFits new) u.mails (mails_of v.deeds) (each_more (MailFits all) (MailFits new) (mail_fits_later all new later) u.mails h.mails)
          (all_mails new (mails_of v.deeds) fits.mails_fit);
    } in
    let p = subst (λ z. Parts z nodes u.world.flights (u.mails ++ mails_of v.deeds)) same parts in
    record { flights = p.flights; held = p.held; given = p.given; waits = p.waits; mails = p.mails }

-- a part that begins so, and then catches up
calling_up : (f : Frame) (m : ℕ) (v : NodeWork) (u : AtWork) → Fresh (u.world.nodes m) → Goes (idle (u.world.nodes m)) v →
    Fits (plays_of u.world) f m [] v → Calling u → Calling (after_part f m (catches_up f m v) u)
calling_up f m v u fresh goes fits h =
    calling_part f m (catches_up f m v) u (ages_part f m (idle (u.world.nodes m)) v goes fresh).on
    (fits_up (plays_of u.world) f m v (ages_by (idle (u.world.nodes m)) v goes fresh).fresh fits) h

-- ---- events

even_performed : (place : ℕ) (lines : List Line) (v : NodeWork) → Even v (performs_all place lines v)
even_performed place [] v = record { given = refl; waits = refl; held = refl; mails = refl; applied = omega arith }
even_performed place (l ∷ ls) v =
    let e = even_performed place ls (does (Performs (record { place = place; line = l })) v) in
    let applied = e.applied in
    record { given = e.given; waits = e.waits; held = e.held; mails = e.mails; applied = omega (arith, applied) }

calling_burst : (f : Frame) (w : World) (i : ProcessNo) (place turns : ℕ) (burst : Burst) → IsBurst f w i place turns burst → Calling (untouched w) →
    Calling (happens f w (event.Burst i place turns) burst)
calling_burst f w i place turns burst is h =
    let m : ℕ = home_of f w i.0 in
    let v : NodeWork = computes i.0 place burst.reads burst.end (w.nodes m) in
    let goes : Goes (idle (w.nodes m)) v = burst_later f w i place turns burst is in
    let e : Even (idle (w.nodes m)) (performs_all place burst.reads (idle (w.nodes m))) = even_performed place burst.reads (idle (w.nodes m)) in
    calling_part f m v (untouched w) goes.on
    (fits_even (plays_of w) f m [] (idle (w.nodes m)) v goes.on
    (record { given = e.given; waits = e.waits; held = e.held; mails = e.mails; applied = e.applied }) (starts f (untouched w) m h)) h

calling_comes : (f : Frame) (w : World) (mail : Mail) → ((m : ℕ) → Fresh (w.nodes m)) → MailFits (plays_of w) mail → Calling (untouched w) →
    Calling (after_part f (receiver_of mail) (receives f (receiver_of mail) mail (w.nodes (receiver_of mail))) (untouched w))
calling_comes f w (Mail.Grouped letter) fresh is h =
    let m : ℕ = letter.to in
    let v : NodeWork = joins (deliver (group f) m letter.packet (w.nodes m).member) (idle (w.nodes m)) in
    let goes : Goes (idle (w.nodes m)) v = goes_joins (deliver (group f) m letter.packet (w.nodes m).member) (idle (w.nodes m)) in
    calling_up f m v (untouched w) (fresh m) goes
    (fits_even (plays_of w) f m [] (idle (w.nodes m)) v goes.on (even_joins (deliver (group f) m letter.packet (w.nodes m).member) (idle (w.nodes m)))
    (starts f (untouched w) m h)) h
calling_comes f w (Mail.Sends incarnation from to errand) fresh is h =
    let v : NodeWork = receives_mail f to (Mail.Sends incarnation from to errand) (idle (w.nodes to)) in
    calling_up f to v (untouched w) (fresh to) (goes_mail f to (Mail.Sends incarnation from to errand) (idle (w.nodes to)))
    (fits_arrives (plays_of w) f to errand (idle (w.nodes to))
    (subst (λ all. ErrandFits all errand) (sym (at_self (plays_of w) to)) is) (starts f (untouched w) to h)) h

calling_whole : (f : Frame) (w : World) (o : Option (Flight Carried)) → ((m : ℕ) → Fresh (w.nodes m)) →
    ((flight : Flight Carried) → o ≡ Some flight → MailFits (plays_of w) flight.packet.mail) → Calling (untouched w) → Calling (comes_whole f w o)
calling_whole f w None fresh is h = h
calling_whole f w (Some flight) fresh is h = cond_both (is_whole f.settings.nodes flight.packet) _ _ Calling
    (λ e. cond_both (lives_in f w (receiver_of flight.packet.mail)) _ _ Calling
    (λ d. calling_comes f w flight.packet.mail fresh (is flight refl) h) (λ d. h))
    (λ e. h)

calling_below : (f : Frame) (n : ℕ) (u : AtWork) → ((m : ℕ) → Fresh (u.world.nodes m)) → Calling u → Calling (ticks_below f n u)
calling_below f zero u fresh h = h
calling_below f (suc m) u fresh h =
    let v : AtWork = ticks_below f m u in
    let k : Calling v = calling_below f m u fresh h in
    let old : Going u.world v = below_later f u.world m u (record { later = same_world u.world u.world refl; fresh = fresh }) in
    let node : Node = v.world.nodes m in
    let timed : NodeWork = joins (timer (group f) m node.member) (idle node) in
    let first : Goes (idle node) timed = goes_joins (timer (group f) m node.member) (idle node) in
    cond_both (v.world.lives m) _ _ Calling
    (λ e. calling_up f m (asks_again f m timed) v (old.fresh m) (goes_on first (goes_again f m timed))
    (fits_again (plays_of v.world) f m timed
    (fits_even (plays_of v.world) f m [] (idle node) timed first.on (even_joins (timer (group f) m node.member) (idle node)) (starts f v m k))) k)
    (λ e. k)

calling_happens : (f : Frame) (w : World) (event : world.Event) (given : Known event) → Possible f w event given → ((m : ℕ) → Fresh (w.nodes m)) →
    PlacesWithin w → Calling (untouched w) → Calling (happens f w event given)
calling_happens f w (event.Burst process place turns) burst is fresh places h = calling_burst f w process place turns burst is h
calling_happens f w (event.Act process) given may fresh places h =
    let m : ℕ = home_of f w process.0 in
    let v : NodeWork = acts_of f m process.0 ((w.nodes m).played process.0) (idle (w.nodes m)) in
    calling_up f m v (untouched w) (fresh m) (goes_acts f m process.0 ((w.nodes m).played process.0) (idle (w.nodes m)) refl)
    (fits_acts (plays_of w) f m process.0 ((w.nodes m).played process.0) (idle (w.nodes m)) refl (λ r found. places.processes m process.0 r found)
    (starts f (untouched w) m h)) h
calling_happens f w (event.Deliver packet copy) given may fresh places h =
    calling_whole f (record w { flights = without packet copy w.flights }) (ready_copy packet copy w.flights) fresh
    (λ flight e. each_found (λ (one : Flight Carried). MailFits (plays_of w) one.packet.mail) _ w.flights flight e h.flights)
    (record {
      flights = each_first (λ (one : Flight Carried). MailFits (plays_of w) one.packet.mail) _ w.flights h.flights;
      held = h.held;
      given = h.given;
      waits = h.waits;
      mails = tt;
    })
calling_happens f w event.Tick given may fresh places h =
    calling_below f f.settings.nodes (untouched (record w { flights = ticked w.flights })) fresh
    (record {
      flights = each_ticked (λ (one : Flight Carried). MailFits (plays_of w) one.packet.mail) (λ flight k. k) w.flights h.flights;
      held = h.held;
      given = h.given;
      waits = h.waits;
      mails = tt;
    })
calling_happens f w (event.Crash node) given may fresh places h =
    record { flights = h.flights; held = h.held; given = h.given; waits = h.waits; mails = tt }
calling_happens f w (event.Suspect node) given may fresh places h =
    let v : NodeWork = joins (coordinate (group f) node (w.nodes node).member) (idle (w.nodes node)) in
    let goes : Goes (idle (w.nodes node)) v = goes_joins (coordinate (group f) node (w.nodes node).member) (idle (w.nodes node)) in
    calling_up f node v (untouched w) (fresh node) goes
    (fits_even (plays_of w) f node [] (idle (w.nodes node)) v goes.on (even_joins (coordinate (group f) node (w.nodes node).member) (idle (w.nodes node)))
    (starts f (untouched w) node h)) h
calling_happens f w event.Swap given may fresh places h =
    record { flights = h.flights; held = h.held; given = h.given; waits = h.waits; mails = tt }

-- ---- with the Asks, which are true in every run

errand_fits : (nodes : ℕ → Node) (errand : Errand) → AskIsTrue nodes errand → AnswerStands (λ m. (nodes m).played) errand → ErrandFits (λ m. (nodes m).played) errand
errand_fits nodes (Ask place x) asks h = record { member = asks.member; process = asks.process; here = asks.here; was = asks.was }
errand_fits nodes (Answer place i call reply) asks h = h

errands_fit : (nodes : ℕ → Node) (errands : List Errand) → AsksAreTrue nodes errands → Each (AnswerStands (λ m. (nodes m).played)) errands →
    Each (ErrandFits (λ m. (nodes m).played)) errands
errands_fit nodes [] asks h = tt
errands_fit nodes (errand ∷ errands) asks h = (errand_fits nodes errand asks.0 h.0, errands_fit nodes errands asks.1 h.1)

mail_fits : (nodes : ℕ → Node) (mail : Mail) → MailAsksTrue nodes mail → MailStands (λ m. (nodes m).played) mail → MailFits (λ m. (nodes m).played) mail
mail_fits nodes (Mail.Grouped letter) asks h = tt
mail_fits nodes (Mail.Sends incarnation from to errand) asks h = errand_fits nodes errand asks h

flights_fit : (nodes : ℕ → Node) (flights : List (Flight Carried)) → FliesAsking nodes flights →
    Each (λ (flight : Flight Carried). MailStands (λ m. (nodes m).played) flight.packet.mail) flights →
    Each (λ (flight : Flight Carried). MailFits (λ m. (nodes m).played) flight.packet.mail) flights
flights_fit nodes [] asks h = tt
flights_fit nodes (flight ∷ flights) asks h = (mail_fits nodes flight.packet.mail asks.0 h.0, flights_fit nodes flights asks.1 h.1)

errand_stands : (all : Plays) (errand : Errand) → ErrandFits all errand → AnswerStands all errand
errand_stands all (Ask place x) h = tt
errand_stands all (Answer place i call reply) h = h

mail_stands : (all : Plays) (mail : Mail) → MailFits all mail → MailStands all mail
mail_stands all (Mail.Grouped letter) h = tt
mail_stands all (Mail.Sends incarnation from to errand) h = errand_stands all errand h

calls_begin : (w : World) → AsksTrue w → CallsStand w → Calling (untouched w)
calls_begin w asks h = record {
  flights = flights_fit w.nodes w.flights asks.flights h.flights;
  held = λ k. errands_fit w.nodes (w.nodes k).held (asks.held k) (h.held k);
  given = h.given;
  waits = h.waits;
  mails = tt;
}

-- so of these nodes and flights
record Stood (nodes : ℕ → Node) (flying : List (Flight Carried)) : Type 0 where
  flights : Each (λ (flight : Flight Carried). MailStands (λ m. (nodes m).played) flight.packet.mail) flying
  held : (m : ℕ) → Each (AnswerStands (λ k. (nodes k).played)) (nodes m).held
  given : (m i : ℕ) (one : Given) → (nodes m).given i ≡ Some one → CallStands (λ k. (nodes k).played) one.place i one.call
  waits : (m : ℕ) → Each (λ (call : Suspended). CallStands (λ k. (nodes k).played) (nodes m).copies.applied call.process.0 call.call) (nodes m).copies.waits

pub stands_after : (f : Frame) (w v : World) (step : Step) → Next f w step v → ((m : ℕ) → Fresh (w.nodes m)) → AsksTrue w → PlacesWithin w →
    CallsStand w → CallsStand v
stands_after f w v step next fresh asks places h =
    let u : AtWork = happens f w step.event next.given in
    let c : World = closes f w step u in
    let k : Calling u = calling_happens f w step.event next.given next.possible fresh places (calls_begin w asks h) in
    let all : Plays = plays_of u.world in
    let flies : Each (λ (flight : Flight Carried). MailFits all flight.packet.mail) c.flights =
    each_posted f (MailFits all) u.mails step.fates u.world k.mails k.flights in
    let nodes : c.nodes ≡ u.world.nodes = posted_nodes f u.mails step.fates u.world in
    let stood : Stood u.world.nodes c.flights = record {
      flights = each_more (λ (flight : Flight Carried). MailFits all flight.packet.mail) (λ (flight : Flight Carried). MailStands all flight.packet.mail)
          (λ flight is. mail_stands all flight.packet.mail is) c.flights flies;
      held = λ m. each_more (ErrandFits all) (AnswerStands all) (errand_stands all) (u.world.nodes m).held (k.held m);
      given = k.given;
      waits = k.waits;
    } in
    let now : Stood c.nodes c.flights = subst (λ n. Stood n c.flights) (sym nodes) stood in
    subst CallsStand (sym next.after) (record { flights = now.flights; held = now.held; given = now.given; waits = now.waits })

step_stands : (f : Frame) (steps : List Step) (w v : World) (step : Step) → Leads f (opening_world f) steps w → Next f w step v → PlacesWithin w →
    CallsStand w → CallsStand v
step_stands f steps w v step leads next places h =
    stands_after f w v step next (leads_later f (opening_world f) steps w leads (opening_fresh f)).fresh (all_asks f steps w leads) places h

-- ---- so each Answer reaches its process

call_reaches : (laws : Laws) (law : AgreedLaw Message) (f : Frame) → 2 * (group f).resilience < (group f).nodes → (w : World) → Grouped f w → AreHome f w →
    (m place i : ℕ) (r : Played) (call : CallNo) → CallStands (plays_of w) place i call → (w.nodes m).played i ≡ Some r → Reaches r place call
call_reaches laws law f small w grouped home m place i r call h found =
    let here = home_is laws law f small w m i r grouped home found in
    let there = home_is laws law f small w h.member i h.process grouped home h.here in
    let one : h.member ≡ m = sym there ∙ here in
    let same : Some h.process ≡ Some r = sym h.here ∙ ap (λ k. (w.nodes k).played i) one ∙ found in
    let e : h.process ≡ r = cc same in
    subst (λ (z : Played). Reaches z place call) e h.reaches

errand_reaches : (laws : Laws) (law : AgreedLaw Message) (f : Frame) → 2 * (group f).resilience < (group f).nodes → (w : World) → Grouped f w → AreHome f w →
    (m : ℕ) (errand : Errand) → AnswerStands (plays_of w) errand → ReachesOne (w.nodes m).played errand
errand_reaches laws law f small w grouped home m (Ask place x) h = tt
errand_reaches laws law f small w grouped home m (Answer place i call reply) h = λ r found. call_reaches laws law f small w grouped home m place i.0 r call h found

mail_reaches : (laws : Laws) (law : AgreedLaw Message) (f : Frame) → 2 * (group f).resilience < (group f).nodes → (w : World) → Grouped f w → AreHome f w →
    (mail : Mail) → MailStands (plays_of w) mail → MailReaches w.nodes mail
mail_reaches laws law f small w grouped home (Mail.Grouped letter) h = tt
mail_reaches laws law f small w grouped home (Mail.Sends incarnation from to errand) h = errand_reaches laws law f small w grouped home to errand h

pub steps_reach : (laws : Laws) (law : AgreedLaw Message) (f : Frame) → 2 * (group f).resilience < (group f).nodes → StepsReach f
steps_reach laws law f small = record {
  opening = record { flights = tt; held = λ m. tt; given = λ m i one found. absurd (cc found); waits = λ m. tt };
  step = step_stands f;
  reach = λ w grouped home h. record {
    held = λ m. each_more (AnswerStands (plays_of w)) (ReachesOne (w.nodes m).played) (errand_reaches laws law f small w grouped home m) (w.nodes m).held (h.held m);
    flights = each_more (λ (flight : Flight Carried). MailStands (plays_of w) flight.packet.mail) (λ (flight : Flight Carried). MailReaches w.nodes flight.packet.mail)
        (λ flight is. mail_reaches laws law f small w grouped home flight.packet.mail is) w.flights h.flights;
  };
}
