-- Letters are sent by members to members, places are within what was applied, and packets are numbered, along a run.
use Rattle.std.proofs.Common.{◌≡◌, ◌≤◌, ◌<◌, ◌*◌, ℕ, zero, suc, List, [], ◌∷◌, ◌++◌, Some, refl, sym, ap, ◌∙◌, arith, subst, nat_lt}
use Rattle.std.proofs.lemmas.Bool.{and_parts, ltb-true}
use Rattle.std.specs.List.{AllByRecursion as Each}
use Rattle.orca_base.specs.declared.ids.ProcessNo.{ProcessNo}
use Rattle.value_core.specs.History.{Objects}
use Rattle.value_core.specs.declared.action.Line.{Line}
use Rattle.value_core.specs.declared.message.Message.{Message}
use Rattle.group_law.specs.Agreed.{Forward, GoesOn}
use Rattle.group_law.specs.Promise.{Conditions}
use Rattle.group_law.specs.Sends.{ByRoute, RoutesLaw}
use Rattle.group_rules.specs.Member.{Member, nobody}
use Rattle.group_rules.specs.Steps.{deliver, timer}
use Rattle.group_rules.specs.Reset.{coordinate}
use Rattle.group_rules.specs.World.{GroupWorld, opening, run}
use Rattle.group_rules.specs.Work.{Work}
use Rattle.net_rules.specs.declared.fate.Fate.{Fate}
use Rattle.net_rules.specs.declared.flight.Flight.{Flight}
use Rattle.world_rules.specs.declared.event.Event as world
use Rattle.world_rules.specs.declared.event.Event.TheVariants as event
use Rattle.world_rules.specs.declared.event.Step.{Step}
use Rattle.world_rules.specs.Bursts.{Ran, reads_on}
use Rattle.world_rules.specs.Frame.{Frame, group}
use Rattle.world_rules.specs.Mail.{Carried, Mail, place_of}
use Rattle.world_rules.specs.Mail.Errand.{Ask, Answer}
use Rattle.world_rules.specs.Nodes.{Given, Node, NodeWork, idle, joins, mails_of, opening_node}
use Rattle.world_rules.specs.Parts.{catches_up, computes, performs_all}
use Rattle.world_rules.specs.Played.{Played, newborn}
use Rattle.world_rules.specs.Steps.{AtWork, Burst, IsBurst, Known, Next, Possible, after_part, asked_of, closes, crashes, happens, posts, posts_all, swaps, untouched}
use Rattle.world_rules.specs.Processes.{first_process}
use Rattle.world_rules.specs.Worlds.{Told, World, group_world, home_of}
use Rattle.world_law.specs.Gives.{timed}
use Rattle.world_law.specs.Grouped.{AllFly, Come, Grouped}
use Rattle.world_law.specs.Grouped.{Submits as MayAll}
use Rattle.world_law.specs.Moments.{Lives}
use Rattle.world_law.specs.Packets.{AreNumbered, IsNumbered, IsSent, PlacesWithin, StepsNumber, TellsWire}
use Rattle.world_law.proofs.AtWork.{at_work}
use Rattle.world_law.proofs.Events.{Going, going_happens}
use Rattle.world_law.proofs.Ages.{posted_nodes}
use Rattle.world_law.proofs.Flying.{Counts, CountsOf, asked_others, counts_post, each_append, each_first, each_more, each_posted, each_ticked, none_travels, order_first, order_ticked, posts_tell}
use Rattle.world_law.proofs.Grouping.{Laws, Rounded, caught_up, members_at}
use Rattle.world_law.proofs.Lists.{run_append}
use Rattle.world_law.proofs.Maps.{at_both}
use Rattle.world_law.proofs.Sending.{AllFrom, Says, Sends, StandsBy, from_acts, sends_acts, sends_again, sends_arrives, sends_up}
use Rattle.world_law.proofs.Travels.{AllCome}
use Rattle.world_law.proofs.Walking.{Allowed, Start, Walks, begun, good_begun, performed_mails, performed_node, walk_event}

-- ---- members go forward

-- what each member applied, and the incarnation that it installed, don't fall
abbrev Forth : (ℕ → Node) → (ℕ → Node) → Type 0
Forth before after =
    (m : ℕ) → ((before m).copies.applied ≤ (after m).copies.applied) × ((before m).member.installed ≤ (after m).member.installed)

forward_part : (laws : Laws) (f : Frame) → 2 * (group f).resilience < (group f).nodes → (w : World) (m : ℕ) (v : NodeWork) (h : Grouped f w) →
    Rounded (group f) h.events w m v → ((w.nodes m).copies.applied ≤ v.node.copies.applied) × ((w.nodes m).member.installed ≤ v.node.member.installed)
forward_part laws f small w m v h r =
    let g = group f in
    let more = r.good.reached.more in
    let goes : GoesOn (run g opening h.events) (run g (run g opening h.events) more) = laws.forward g small h.events more in
    let after : at_work g w m v ≡ run g (run g opening h.events) more = r.good.reached.run ∙ sym (run_append g opening h.events more) in
    let forward : Forward ((run g opening h.events).members m) ((run g (run g opening h.events) more).members m) = goes.forward m in
    let from : Forward ((group_world w).members m) ((run g (run g opening h.events) more).members m) =
    subst (λ (z : GroupWorld Message). Forward (z.members m) ((run g (run g opening h.events) more).members m)) (sym h.run) forward in
    let to : Forward (w.nodes m).member v.node.member =
    subst (λ (s : Member Message). Forward (w.nodes m).member s) (members_at g w m v)
    (subst (λ (z : GroupWorld Message). Forward (w.nodes m).member (z.members m)) (sym after) from) in
    let applied = to.applied in
    let before = h.level m in
    let level = r.level in
    (omega (arith, applied, before, level), to.installed)

-- ---- what an event sends

-- an Ask or Answer in this world, with S of the message of an Ask
abbrev pub Sent_by : (Message → Type 0) → Frame → (ℕ → Node) → Mail → Type 0
Sent_by S f nodes (Mail.Grouped letter) = Unit {0}
Sent_by S f nodes (Mail.Sends incarnation from to errand) =
    IsSent f nodes (Mail.Sends incarnation from to errand) × Says S errand

sent_forth : (S : Message → Type 0) (f : Frame) (one two : ℕ → Node) → Forth one two → (mail : Mail) → Sent_by S f one mail → Sent_by S f two mail
sent_forth S f one two forth (Mail.Grouped letter) h = tt
sent_forth S f one two forth (Mail.Sends incarnation from to errand) h =
    let place = h.0.2 in
    let known = h.0.3 in
    let applied = (forth from).0 in
    let installed = (forth from).1 in
    ((h.0.0, h.0.1, omega (arith, place, applied), omega (arith, known, installed)), h.1)

all_sent : (S : Message → Type 0) (f : Frame) (nodes : ℕ → Node) (m applied installed : ℕ) (mails : List Mail) → m < f.settings.nodes →
    applied ≡ (nodes m).copies.applied → installed ≡ (nodes m).member.installed → AllFrom S f.settings.nodes m applied installed mails →
    Each (Sent_by S f nodes) mails
all_sent S f nodes m applied installed [] low a k h = tt
all_sent S f nodes m applied installed (Mail.Grouped letter ∷ mails) low a k h = (tt, all_sent S f nodes m applied installed mails low a k h)
all_sent S f nodes m applied installed (Mail.Sends incarnation from to errand ∷ mails) low a k h =
    let is : from ≡ m = h.0.sender in
    let place = h.0.place in
    let known = h.0.known in (
      (
        (
          omega (arith, is, low),
          h.0.receiver,
          subst (λ n. place_of errand ≤ (nodes n).copies.applied) (sym is) (omega (arith, place, a)),
          subst (λ n. incarnation ≤ (nodes n).member.installed) (sym is) (omega (arith, known, k)),
        ),
        h.0.says,
      ),
      all_sent S f nodes m applied installed mails low a k h.1,
    )

-- ---- a world at work

pub record Placed_so (S : Message → Type 0) (f : Frame) (u : AtWork) : Type 0 where
  pub here : (m i : ℕ) (r : Played) → (u.world.nodes m).played i ≡ Some r → StandsBy S (u.world.nodes m).copies.applied i r
  pub given : (m i : ℕ) (one : Given) → (u.world.nodes m).given i ≡ Some one → one.place ≤ (u.world.nodes m).copies.applied
  pub flights : Each (λ (flight : Flight Carried). Sent_by S f u.world.nodes flight.packet.mail) u.world.flights
  pub mails : Each (Sent_by S f u.world.nodes) u.mails

pub record Left_so (S : Message → Type 0) (f : Frame) (u : AtWork) : Type 0 where
  pub places : PlacesWithin u.world
  pub flights : Each (λ (flight : Flight Carried). Sent_by S f u.world.nodes flight.packet.mail) u.world.flights
  pub mails : Each (Sent_by S f u.world.nodes) u.mails

module _ (S : Message → Type 0) (laws : Laws) (f : Frame) (small : 2 * (group f).resilience < (group f).nodes) where
  some : 0 < f.settings.nodes
  some = omega (arith, small)

  starts : (u : AtWork) (m : ℕ) → Placed_so S f u → Sends S f m (idle (u.world.nodes m))
  starts u m h = record { here = h.here m; answered = h.given m; from = tt }

  -- a first step of the group
  first : (w : World) (m : ℕ) (work : Work Message) → Sends S f m (idle (w.nodes m)) → Sends S f m (joins work (idle (w.nodes m)))
  first w m work h = record {
    here = h.here;
    answered = h.answered;
    from = from_acts S f.settings.nodes m (w.nodes m).copies.applied work.state.installed work.acts [] tt;
  }

  sends_begun : (w : World) (m : ℕ) (start : Start) → Sends S f m (idle (w.nodes m)) → Sends S f m (begun f w m start)
  sends_begun w m (Start.Acted i) h = sends_acts S f m some i ((w.nodes m).played i) (idle (w.nodes m)) refl refl h
  sends_begun w m (Start.Came (Mail.Grouped letter)) h = first w m (deliver (group f) m letter.packet (w.nodes m).member) h
  sends_begun w m (Start.Came (Mail.Sends incarnation from to errand)) h = sends_arrives S f m some errand (idle (w.nodes m)) h
  sends_begun w m Start.Timed h = sends_again S f m some (timed f m w) (first w m (timer (group f) m (w.nodes m).member) h)
  sends_begun w m Start.Coordinated h = first w m (coordinate (group f) m (w.nodes m).member) h

  part : (start : Start) (u : AtWork) (m : ℕ) → Grouped f u.world → Lives f u.world m → Allowed f u.world m start → Placed_so S f u →
      Placed_so S f (after_part f m (catches_up f m (begun f u.world m start)) u)
  part start u m grouped on may h =
      let w : World = u.world in
      let v : NodeWork = catches_up f m (begun f w m start) in
      let sent : Sends S f m v = sends_up S f m some (begun f w m start) (sends_begun w m start (starts u m h)) in
      let rounded : Rounded (group f) grouped.events w m v =
      caught_up laws f w m (begun f w m start) small on (good_begun laws f w m start small on grouped may) in
      let on_it = forward_part laws f small w m v grouped rounded in
      let nodes : ℕ → Node = (after_part f m v u).world.nodes in
      let low : m < f.settings.nodes = ltb-true m f.settings.nodes (and_parts (nat_lt m f.settings.nodes) (w.lives m) on).0 in
      let same : nodes m ≡ v.node = at_both w.nodes m v.node m (λ (n : Node). n ≡ v.node) (λ e. refl) (λ no. absurd (no refl)) in
      let forth : Forth w.nodes nodes = λ k. at_both w.nodes m v.node k
      (λ (n : Node). ((w.nodes k).copies.applied ≤ n.copies.applied) × ((w.nodes k).member.installed ≤ n.member.installed))
      (λ e. subst (λ i. ((w.nodes i).copies.applied ≤ v.node.copies.applied) × ((w.nodes i).member.installed ≤ v.node.member.installed)) (sym e) on_it)
      (λ no. (omega arith, omega arith)) in
      record {
        here = λ k i r. at_both w.nodes m v.node k (λ (n : Node). n.played i ≡ Some r → StandsBy S n.copies.applied i r)
            (λ e found. sent.here i r found) (λ no found. h.here k i r found);
        given = λ k i one. at_both w.nodes m v.node k (λ (n : Node). n.given i ≡ Some one → one.place ≤ n.copies.applied)
            (λ e found. sent.answered i one found) (λ no found. h.given k i one found);
        flights = each_more (λ (flight : Flight Carried). Sent_by S f w.nodes flight.packet.mail)
            (λ (flight : Flight Carried). Sent_by S f nodes flight.packet.mail) (λ flight. sent_forth S f w.nodes nodes forth flight.packet.mail) w.flights h.flights;
        mails = each_append (Sent_by S f nodes) u.mails (mails_of v.deeds)
            (each_more (Sent_by S f w.nodes) (Sent_by S f nodes) (sent_forth S f w.nodes nodes forth) u.mails h.mails)
            (all_sent S f nodes m v.node.copies.applied v.node.member.installed (mails_of v.deeds) low
            (ap (λ (n : Node). n.copies.applied) (sym same)) (ap (λ (n : Node). n.member.installed) (sym same)) sent.from);
      }

  -- ---- a burst

  ran_place : (objects : Objects) (place : ℕ) (i : ProcessNo) (last : ℕ) (r : Played) (lines : List Line) (end : Played) →
      r.place ≤ place → Ran f objects place i last r lines end → end.place ≤ place
  ran_place objects place i last r [] end le ran = subst (λ (z : Played). z.place ≤ place) (sym ran.4) le
  ran_place objects place i last r (line ∷ lines) end le ran =
      ran_place objects place i last (reads_on place ran.1 line r) lines end (omega arith) ran.5

  burst_left : (w : World) (i : ProcessNo) (place turns : ℕ) (burst : Burst) → Grouped f w → IsBurst f w i place turns burst →
      Placed_so S f (untouched w) → Left_so S f (happens f w (event.Burst i place turns) burst)
  burst_left w i place turns burst grouped is h =
      let m : ℕ = home_of f w i.0 in
      let v : NodeWork = computes i.0 place burst.reads burst.end (w.nodes m) in
      let u : NodeWork = performs_all place burst.reads (idle (w.nodes m)) in
      let same : u.node ≡ w.nodes m = performed_node place burst.reads (idle (w.nodes m)) in
      let level = grouped.level m in
      let before = is.before in
      let end : burst.end.place ≤ place = ran_place _ place i _ is.start burst.reads burst.end is.after is.ran in
      let applied : u.node.copies.applied ≡ (w.nodes m).copies.applied = ap (λ (n : Node). n.copies.applied) same in
      let installed : u.node.member.installed ≡ (w.nodes m).member.installed = ap (λ (n : Node). n.member.installed) same in
      let nodes : ℕ → Node = (after_part f m v (untouched w)).world.nodes in
      let forth : Forth w.nodes nodes = λ k. at_both w.nodes m v.node k
      (λ (n : Node). ((w.nodes k).copies.applied ≤ n.copies.applied) × ((w.nodes k).member.installed ≤ n.member.installed))
      (λ e. subst (λ j. ((w.nodes j).copies.applied ≤ v.node.copies.applied) × ((w.nodes j).member.installed ≤ v.node.member.installed)) (sym e)
      (omega (arith, applied), omega (arith, installed)))
      (λ no. (omega arith, omega arith)) in
      record {
        places = record {
          processes = λ k j r. at_both w.nodes m v.node k (λ (n : Node). n.played j ≡ Some r → r.place ≤ n.copies.applied)
              (λ e. at_both u.node.played i.0 (Some burst.end) j (λ z. z ≡ Some r → r.place ≤ u.node.copies.applied)
              (λ d found.
              let same_one : burst.end ≡ r = cc found in
              let last = ap (λ (z : Played). z.place) same_one in
              omega (arith, end, before, level, applied, last))
              (λ d found.
              let old = (h.here m j r (ap (λ (n : Node). n.played j) (sym same) ∙ found)).place in
              omega (arith, old, applied)))
              (λ no found. (h.here k j r found).place);
          given = λ k j one. at_both w.nodes m v.node k (λ (n : Node). n.given j ≡ Some one → one.place ≤ n.copies.applied)
              (λ e found. let old = h.given m j one (ap (λ (n : Node). n.given j) (sym same) ∙ found) in omega (arith, old, applied))
              (λ no found. h.given k j one found);
        };
        flights = each_more (λ (flight : Flight Carried). Sent_by S f w.nodes flight.packet.mail)
            (λ (flight : Flight Carried). Sent_by S f nodes flight.packet.mail) (λ flight. sent_forth S f w.nodes nodes forth flight.packet.mail) w.flights h.flights;
        mails = subst (Each (Sent_by S f nodes)) (sym (performed_mails place burst.reads (idle (w.nodes m)))) tt;
      }

  places_of : (u : AtWork) → Placed_so S f u → Left_so S f u
  places_of u h = record {
    places = record { processes = λ m i r found. (h.here m i r found).place; given = h.given };
    flights = h.flights;
    mails = h.mails;
  }

  sending_walks : Walks f (λ s c u. Placed_so S f u) (λ s c u. Left_so S f u)
  sending_walks = record {
    weaken = λ s t c d u more rest h. h;
    ends = λ s c u h. places_of u h;
    burst = λ w i place turns burst s c grouped is h. burst_left w i place turns burst grouped is h;
    taken = λ w number copy s c h. record {
      here = h.here;
      given = h.given;
      flights = each_first (λ (flight : Flight Carried). Sent_by S f w.nodes flight.packet.mail) _ w.flights h.flights;
      mails = h.mails;
    };
    waited = λ w s c h. record {
      here = h.here;
      given = h.given;
      flights = each_ticked (λ (flight : Flight Carried). Sent_by S f w.nodes flight.packet.mail) (λ flight k. k) w.flights h.flights;
      mails = h.mails;
    };
    crashed = λ w m s c h. places_of (crashes w m) (record { here = h.here; given = h.given; flights = h.flights; mails = h.mails });
    swapped = λ w s c h. places_of (swaps w) (record { here = h.here; given = h.given; flights = h.flights; mails = h.mails });
    part = λ start u m s c grouped on may h. part start u m grouped on may h;
  }

  pub left_happens : (w : World) (event : world.Event) (given : Known event) → Grouped f w → Possible f w event given → MayAll f w event →
      Placed_so S f (untouched w) → Left_so S f (happens f w event given)
  left_happens w event given grouped may submit h =
      walk_event laws f (λ s c u. Placed_so S f u) (λ s c u. Left_so S f u) small sending_walks w event given 0 0 grouped may submit h

-- ---- the numbers of packets

-- what is in flight is numbered, and the wires were asked as before
record Telling (f : Frame) (w : World) (flights : List (Flight Carried)) (sent : ℕ) (told : List Told) : Type 0 where
  counts : CountsOf f flights sent told
  told_same : told ≡ w.told
  sent_same : sent ≡ w.sent

abbrev Tells : Frame → World → AtWork → Type 0
Tells f w u = Telling f w u.world.flights u.world.sent u.world.told

telling_walks : (f : Frame) (w : World) → Walks f (λ s c u. Tells f w u) (λ s c u. Tells f w u)
telling_walks f w = record {
  weaken = λ s t c d u more rest h. h;
  ends = λ s c u h. h;
  burst = λ x i place turns burst s c grouped is h. h;
  taken = λ x number copy s c h. record {
    counts = record {
      order = order_first _ x.flights h.counts.order;
      each = each_first (IsNumbered f x.sent) _ x.flights h.counts.each;
      asked_so = h.counts.asked_so;
      as_many = h.counts.as_many;
    };
    told_same = h.told_same;
    sent_same = h.sent_same;
  };
  waited = λ x s c h. record {
    counts = record {
      order = order_ticked x.flights h.counts.order;
      each = each_ticked (IsNumbered f x.sent) (λ flight is. record { some = is.some; known = is.known; from = is.from; to = is.to }) x.flights h.counts.each;
      asked_so = h.counts.asked_so;
      as_many = h.counts.as_many;
    };
    told_same = h.told_same;
    sent_same = h.sent_same;
  };
  crashed = λ x m s c h. h;
  swapped = λ x s c h. h;
  part = λ start u m s c grouped on may h. h;
}

telling : (laws : Laws) (f : Frame) → 2 * (group f).resilience < (group f).nodes → (w : World) (event : world.Event) (given : Known event) →
    Grouped f w → Possible f w event given → MayAll f w event → AreNumbered f w → Tells f w (happens f w event given)
telling laws f small w event given grouped may submit h =
    walk_event laws f (λ s c u. Tells f w u) (λ s c u. Tells f w u) small (telling_walks f w) w event given 0 0 grouped may submit
    (record { counts = record { order = h.order; each = h.each; asked_so = h.asked; as_many = h.told }; told_same = refl; sent_same = refl })

-- ---- letters go from members to members

sent_of : (laws : Laws) (routes : RoutesLaw Message) (f : Frame) → 2 * (group f).resilience < (group f).nodes → (w : World) → Grouped f w →
    (S : Message → Type 0) (nodes : ℕ → Node) (mail : Mail) → Come w.past.letters mail → Sent_by S f nodes mail → IsSent f nodes mail
sent_of laws routes f small w grouped S nodes (Mail.Grouped letter) come h =
    let conditions : Conditions (group f) (group_world w) = subst (Conditions (group f)) (sym grouped.run) (laws.calls (group f) small grouped.events) in
    let by_route : ByRoute (group f) (group_world w) = subst (ByRoute (group f)) (sym grouped.run) (routes (group f) small grouped.events) in
    (conditions.sender letter.packet (laws.packets w.past.letters letter come.sent), by_route.to letter come.sent)
sent_of laws routes f small w grouped S nodes (Mail.Sends incarnation from to errand) come h = h.0

flights_sent : (laws : Laws) (routes : RoutesLaw Message) (f : Frame) → 2 * (group f).resilience < (group f).nodes → (w : World) → Grouped f w →
    (S : Message → Type 0) (nodes : ℕ → Node) (flights : List (Flight Carried)) → AllFly w.past.letters flights →
    Each (λ (flight : Flight Carried). Sent_by S f nodes flight.packet.mail) flights →
    Each (λ (flight : Flight Carried). IsSent f nodes flight.packet.mail) flights
flights_sent laws routes f small w grouped S nodes [] fly h = tt
flights_sent laws routes f small w grouped S nodes (flight ∷ flights) fly h = (
  sent_of laws routes f small w grouped S nodes flight.packet.mail fly.0 h.0,
  flights_sent laws routes f small w grouped S nodes flights fly.1 h.1,
)

mails_sent : (laws : Laws) (routes : RoutesLaw Message) (f : Frame) → 2 * (group f).resilience < (group f).nodes → (w : World) → Grouped f w →
    (S : Message → Type 0) (nodes : ℕ → Node) (mails : List Mail) → AllCome w.past.letters mails → Each (Sent_by S f nodes) mails → Each (IsSent f nodes) mails
mails_sent laws routes f small w grouped S nodes [] come h = tt
mails_sent laws routes f small w grouped S nodes (mail ∷ mails) come h = (
  sent_of laws routes f small w grouped S nodes mail come.0 h.0,
  mails_sent laws routes f small w grouped S nodes mails come.1 h.1,
)

-- ---- a step

-- nothing is asked of a message here
abbrev Whatever : Message → Type 0
Whatever x = Unit {0}

-- what is in flight was sent so, whatever its message
sent_whatever : (f : Frame) (nodes : ℕ → Node) (mail : Mail) → IsSent f nodes mail → Sent_by Whatever f nodes mail
sent_whatever f nodes (Mail.Grouped letter) h = tt
sent_whatever f nodes (Mail.Sends incarnation from to (Ask place x)) h = (h, tt)
sent_whatever f nodes (Mail.Sends incarnation from to (Answer place i n reply)) h = (h, tt)

placed_so : (f : Frame) (w : World) → PlacesWithin w → AreNumbered f w → Placed_so Whatever f (untouched w)
placed_so f w places h = record {
  here = λ m i r found. record { place = places.processes m i r found; holds = λ act out x process call same. tt };
  given = places.given;
  flights = each_more (λ (flight : Flight Carried). IsSent f w.nodes flight.packet.mail)
      (λ (flight : Flight Carried). Sent_by Whatever f w.nodes flight.packet.mail) (λ flight. sent_whatever f w.nodes flight.packet.mail) w.flights h.mails;
  mails = tt;
}

-- after an event
event_numbered : (laws : Laws) (routes : RoutesLaw Message) (f : Frame) → 2 * (group f).resilience < (group f).nodes → (w : World) (event : world.Event)
    (given : Known event) → Possible f w event given → MayAll f w event → Grouped f w → PlacesWithin w → AreNumbered f w →
    AreNumbered f (happens f w event given).world × PlacesWithin (happens f w event given).world
event_numbered laws routes f small w event given may submit grouped places h =
    let u : AtWork = happens f w event given in
    let left : Left_so Whatever f u = left_happens Whatever laws f small w event given grouped may submit (placed_so f w places h) in
    let told : Tells f w u = telling laws f small w event given grouped may submit h in
    let after : Grouped f u.world = (going_happens laws f w event given small may submit grouped).grouped in (
      record {
        order = told.counts.order;
        each = told.counts.each;
        mails = flights_sent laws routes f small u.world after Whatever u.world.nodes u.world.flights after.travels left.flights;
        asked = told.counts.asked_so;
        told = told.counts.as_many;
        new = none_travels f u.world.sent u.world.flights told.counts.each;
      },
      left.places,
    )

-- a letter is posted
post_numbered : (f : Frame) (w : World) (mail : Mail) (one : Fate) → IsSent f w.nodes mail → AreNumbered f w → AreNumbered f (posts f w mail one)
post_numbered f w mail one sent h =
    let counts : Counts f (posts f w mail one) = counts_post f w mail one (record { order = h.order; each = h.each; asked_so = h.asked; as_many = h.told }) in
    record {
      order = counts.order;
      each = counts.each;
      mails = each_posted f (IsSent f w.nodes) (mail ∷ []) (one ∷ []) w (sent, tt) h.mails;
      asked = counts.asked_so;
      told = counts.as_many;
      new = none_travels f (suc w.sent) (posts f w mail one).flights counts.each;
    }

posts_numbered : (f : Frame) (mails : List Mail) (fates : List Fate) (w : World) → Each (IsSent f w.nodes) mails → AreNumbered f w →
    AreNumbered f (posts_all f w mails fates)
posts_numbered f [] fates w sent h = h
posts_numbered f (mail ∷ mails) [] w sent h = h
posts_numbered f (mail ∷ mails) (one ∷ fates) w sent h = posts_numbered f mails fates (posts f w mail one) sent.1 (post_numbered f w mail one sent.0 h)

pub letters_sent : (laws : Laws) (routes : RoutesLaw Message) (f : Frame) → 2 * (group f).resilience < (group f).nodes → (w : World) (event : world.Event)
    (given : Known event) → Possible f w event given → MayAll f w event → Grouped f w → PlacesWithin w → AreNumbered f w →
    Each (IsSent f (happens f w event given).world.nodes) (happens f w event given).mails
letters_sent laws routes f small w event given may submit grouped places h =
    let u : AtWork = happens f w event given in
    let going : Going f grouped.events u = going_happens laws f w event given small may submit grouped in
    let left : Left_so Whatever f u = left_happens Whatever laws f small w event given grouped may submit (placed_so f w places h) in
    mails_sent laws routes f small u.world going.grouped Whatever u.world.nodes u.mails going.mails left.mails

step_numbered : (laws : Laws) (routes : RoutesLaw Message) (f : Frame) → 2 * (group f).resilience < (group f).nodes → (w v : World) (step : Step) →
    Next f w step v → MayAll f w step.event → Grouped f w → PlacesWithin w → AreNumbered f w → AreNumbered f v × PlacesWithin v
step_numbered laws routes f small w v step next submit grouped places h =
    let u : AtWork = happens f w step.event next.given in
    let c : World = closes f w step u in
    let event = event_numbered laws routes f small w step.event next.given next.possible submit grouped places h in
    let sent = letters_sent laws routes f small w step.event next.given next.possible submit grouped places h in
    let nodes : c.nodes ≡ u.world.nodes = posted_nodes f u.mails step.fates u.world in
    let posted_so : AreNumbered f (posts_all f u.world u.mails step.fates) = posts_numbered f u.mails step.fates u.world sent event.0 in
    subst (λ z. AreNumbered f z × PlacesWithin z) (sym next.after) (
      record {
        order = posted_so.order;
        each = posted_so.each;
        mails = posted_so.mails;
        asked = posted_so.asked;
        told = posted_so.told;
        new = posted_so.new;
      },
      record {
        processes = λ m i r. subst (λ (n : ℕ → Node). (n m).played i ≡ Some r → r.place ≤ (n m).copies.applied) (sym nodes) (event.1.processes m i r);
        given = λ m i one. subst (λ (n : ℕ → Node). (n m).given i ≡ Some one → one.place ≤ (n m).copies.applied) (sym nodes) (event.1.given m i one);
      },
    )

step_tells : (laws : Laws) (f : Frame) → 2 * (group f).resilience < (group f).nodes → (w v : World) (step : Step) → Next f w step v →
    MayAll f w step.event → Grouped f w → AreNumbered f w → TellsWire w v step
step_tells laws f small w v step next submit grouped h =
    let u : AtWork = happens f w step.event next.given in
    let told : Tells f w u = telling laws f small w step.event next.given grouped next.possible submit h in
    let p = posts_tell f u.mails step.fates u.world next.fates in
    let sent = p.sent in
    let before = told.sent_same in
    subst (λ z. TellsWire w z step) (sym next.after) (record {
      more = p.more;
      told = p.told ∙ ap (λ xs. xs ++ p.more) told.told_same;
      fates = p.of_fates;
      wire = subst (λ k. Each (λ (one : Told). one.wire ≡ k) p.more) (sym p.swaps) p.wire;
      sent = omega (arith, sent, before);
      others = λ wire apart.
          asked_others u.world (posts_all f u.world u.mails step.fates) step.fates p wire (λ e. apart (e ∙ sym p.swaps)) ∙ ap (asked_of wire) told.told_same;
    })

-- ---- the opening world

opening_place : (f : Frame) (m i : ℕ) (r : Played) → (opening_node f m).played i ≡ Some r → r.place ≤ 0
opening_place f zero i r = at_both nobody 0 (Some (newborn (first_process f))) i (λ z. z ≡ Some r → r.place ≤ 0)
    (λ e found. let same : newborn (first_process f) ≡ r = cc found in subst (λ (z : Played). z.place ≤ 0) same (omega arith))
    (λ no found. cc found)
opening_place f (suc m) i r = λ found. cc found

pub steps_number : (laws : Laws) (routes : RoutesLaw Message) (f : Frame) → 2 * (group f).resilience < (group f).nodes → StepsNumber f
steps_number laws routes f small = record {
  opening = (
    record { order = tt; each = tt; mails = tt; asked = tt; told = refl; new = refl },
    record { processes = opening_place f; given = λ m i one found. cc found },
  );
  event = event_numbered laws routes f small;
  letters = letters_sent laws routes f small;
  posts = post_numbered f;
  step = step_numbered laws routes f small;
  tells = step_tells laws f small;
}
