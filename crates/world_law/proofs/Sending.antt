-- Asks and Answers that a member sends: they are its own, go to members, and bear places up to what it applied, and the incarnation that it
-- installed. With that, the places of its processes.
use Rattle.std.proofs.Common.{◌≡◌, ◌==◌, ◌||◌, ◌+◌, ◌≤◌, ◌<◌, if◌then◌else◌, ℕ, zero, suc, List, [], ◌∷◌, ◌++◌, map, length, Option, None, Some, refl, sym, ap, ◌∙◌, arith, subst, nat_lt, nat_le}
use Rattle.std.proofs.lemmas.Bool.{cond_both, leb-true}
use Rattle.orca_base.specs.declared.ids.CallNo.{CallNo}
use Rattle.value_core.specs.declared.action.Action.{Action}
use Rattle.value_core.specs.declared.action.Action.TheVariants as action
use Rattle.value_core.specs.declared.action.Class.{Class}
use Rattle.value_core.specs.declared.action.Class.TheVariants.{Reads, Writes}
use Rattle.value_core.specs.declared.action.Line.{Line}
use Rattle.value_core.specs.declared.action.Reply.{Reply}
use Rattle.value_core.specs.declared.meaning.Tried.{Tried}
use Rattle.value_core.specs.declared.message.Message.{Message}
use Rattle.guard_queue.specs.Settles.{is_blocked}
use Rattle.guard_queue.specs.declared.queue.Suspended.{Suspended}
use Rattle.object_manager.specs.Singles.{after_single, lines_single}
use Rattle.object_manager.specs.State.{message_of}
use Rattle.book_law.specs.Passes.{lines_after}
use Rattle.group_rules.specs.Member.{Waiting}
use Rattle.group_rules.specs.Sets.{with_at}
use Rattle.group_rules.specs.Steps.{note, submit}
use Rattle.group_rules.specs.Work.{Act, Work}
use Rattle.world_rules.specs.Applying.{answers, applies, applies_all, applies_each, applies_one, begins, copies_take, due_entries, notes, passes_limit, performs_read, round, rounds, tries_as, tries_of, tries_read, tries_reads}
use Rattle.world_rules.specs.Frame.{Frame, group}
use Rattle.world_rules.specs.Mail.{Errand, Mail, place_of}
use Rattle.world_rules.specs.Mail.Errand.{Ask, Answer}
use Rattle.world_rules.specs.Nodes.{Deed, Given, NodeWork, becomes, changes, does, entries_of, if_played, joins, known, mails_of, plays}
use Rattle.world_rules.specs.Nodes.Deed.{Acts, Performs, Submits}
use Rattle.world_rules.specs.Owners.{arrives, hands, hands_all, hands_to, hears_as, hears_of, holds, is_held, performs_call, sends, takes, takes_asked, takes_call, takes_each, takes_reached, waits_here}
use Rattle.world_rules.specs.Parts.{acts_at, acts_by, acts_of, asks, asks_again, asks_again_at, asks_again_by, asks_again_of, asks_below, asks_owner, calls_as, catches_up, performs_all, submits}
use Rattle.world_rules.specs.Played.{Played, Stage, moves_to, newborn, next_call, receives}
use Rattle.world_rules.specs.Played.Stage.{Computing, Acting, Submitted, Reading, Asking, Over}
use Rattle.world_rules.specs.Processes.{Begun, begun_by, home_in, owner_in, singles_of}
use Rattle.world_law.proofs.Applied.{one_more}
use Rattle.world_law.proofs.Homes.{known_low}
use Rattle.world_law.proofs.Maps.{at_both}
use Rattle.world_law.proofs.Noted.{note_noted}

-- ---- what is said of one letter, and of one process

-- S holds of the message of an Ask
abbrev pub Says : (Message → Type 0) → Errand → Type 0
Says S (Ask place x) = S x
Says S (Answer place i n reply) = Unit {0}

pub record IsFrom (S : Message → Type 0) (nodes m applied installed incarnation from to : ℕ) (errand : Errand) : Type 0 where
  pub sender : from ≡ m
  pub receiver : to < nodes
  pub place : place_of errand ≤ applied
  pub known : incarnation ≤ installed
  pub says : Says S errand

abbrev pub AllFrom : (Message → Type 0) → ℕ → ℕ → ℕ → ℕ → List Mail → Type 0
AllFrom S nodes m applied installed [] = Unit {0}
AllFrom S nodes m applied installed (Mail.Grouped letter ∷ mails) = AllFrom S nodes m applied installed mails
AllFrom S nodes m applied installed (Mail.Sends incarnation from to errand ∷ mails) =
    IsFrom S nodes m applied installed incarnation from to errand × AllFrom S nodes m applied installed mails

-- the action at which a process is, or that it asks an owner for
abbrev pub out_of : Stage → Option Action
out_of (Acting act) = Some act
out_of (Asking act) = Some act
out_of Computing = None
out_of (Submitted act) = None
out_of (Reading act) = None
out_of (Over act) = None

-- S holds of this action as the process's next message
abbrev pub Holds : (Message → Type 0) → ℕ → Played → Action → Type 0
Holds S i r act = (x : Message) → x.process.0 ≡ i → x.call.0 ≡ length r.replies → x.action ≡ act → S x

-- a process's place is within what was applied; and S holds of the message that it has out
pub record StandsBy (S : Message → Type 0) (applied i : ℕ) (r : Played) : Type 0 where
  pub place : r.place ≤ applied
  pub holds : (act : Action) → out_of r.stage ≡ Some act → Holds S i r act

-- ---- with more applied

from_more : (S : Message → Type 0) (nodes m applied more installed : ℕ) (mails : List Mail) → applied ≤ more →
    AllFrom S nodes m applied installed mails → AllFrom S nodes m more installed mails
from_more S nodes m applied more installed [] le h = tt
from_more S nodes m applied more installed (Mail.Grouped letter ∷ mails) le h = from_more S nodes m applied more installed mails le h
from_more S nodes m applied more installed (Mail.Sends incarnation from to errand ∷ mails) le h =
    let place = h.0.place in (
      record { sender = h.0.sender; receiver = h.0.receiver; place = omega (arith, place, le); known = h.0.known; says = h.0.says },
      from_more S nodes m applied more installed mails le h.1,
    )

from_append : (S : Message → Type 0) (nodes m applied installed : ℕ) (one two : List Mail) → AllFrom S nodes m applied installed one →
    AllFrom S nodes m applied installed two → AllFrom S nodes m applied installed (one ++ two)
from_append S nodes m applied installed [] two h k = k
from_append S nodes m applied installed (Mail.Grouped letter ∷ one) two h k = from_append S nodes m applied installed one two h k
from_append S nodes m applied installed (Mail.Sends incarnation from to errand ∷ one) two h k =
    (h.0, from_append S nodes m applied installed one two h.1 k)

-- the group's letters are none of these
pub from_acts : (S : Message → Type 0) (nodes m applied installed : ℕ) (acts : List (Act Message)) (deeds : List Deed) →
    AllFrom S nodes m applied installed (mails_of deeds) → AllFrom S nodes m applied installed (mails_of (map Acts acts ++ deeds))
from_acts S nodes m applied installed [] deeds h = h
from_acts S nodes m applied installed (Act.Sends letter ∷ acts) deeds h =
    from_append S nodes m applied installed (mails_of (map Acts acts ++ deeds)) (Mail.Grouped letter ∷ []) (from_acts S nodes m applied installed acts deeds h) tt
from_acts S nodes m applied installed (Act.Keeps packet ∷ acts) deeds h = from_acts S nodes m applied installed acts deeds h
from_acts S nodes m applied installed (Act.Orders k x ∷ acts) deeds h = from_acts S nodes m applied installed acts deeds h
from_acts S nodes m applied installed (Act.Begins k log answers ∷ acts) deeds h = from_acts S nodes m applied installed acts deeds h

-- a process that has none out
pub stands_free : (S : Message → Type 0) (applied i : ℕ) (r : Played) → r.place ≤ applied → out_of r.stage ≡ None → StandsBy S applied i r
stands_free S applied i r le none = record {
  place = le;
  holds = λ act out. absurd (none_some act (sym none ∙ out));
}
  where
    none_some : (act : Action) → None ≡ Some act → ⊥
    none_some act e = cc e

-- ---- a node at work

pub record SendsOf (S : Message → Type 0) (nodes m : ℕ) (played : ℕ → Option Played) (given : ℕ → Option Given) (applied installed : ℕ)
    (mails : List Mail) : Type 0 where
  pub here : (i : ℕ) (r : Played) → played i ≡ Some r → StandsBy S applied i r
  pub answered : (i : ℕ) (one : Given) → given i ≡ Some one → one.place ≤ applied
  pub from : AllFrom S nodes m applied installed mails

pub applied_if : (change : Played → Played) (i : ℕ) (r : Option Played) (v : NodeWork) →
    (if_played change i r v).node.copies.applied ≡ v.node.copies.applied
applied_if change i None v = refl
applied_if change i (Some r) v = refl

pub applied_answers : (place : ℕ) (lines : List Line) (v : NodeWork) → (answers place lines v).node.copies.applied ≡ v.node.copies.applied
applied_answers place [] v = refl
applied_answers place (l ∷ ls) v =
    applied_answers place ls (changes (receives place l.reply) l.process.0 v)
    ∙ applied_if (receives place l.reply) l.process.0 (v.node.played l.process.0) v

-- processes that begin here at this place
abbrev AreAt : ℕ → List Begun → Type 0
AreAt place [] = Unit {0}
AreAt place (process ∷ processes) = process.place ≡ place

born_at : (nodes parent place : ℕ) (act : Action) → AreAt place (begun_by nodes parent place act)
born_at nodes parent place (action.Fork text args place_on) = refl
born_at nodes parent place (action.Make kind object) = tt
born_at nodes parent place (action.Call kind op object args) = tt
born_at nodes parent place action.Ended = tt
born_at nodes parent place (action.Faulted fault) = tt

module _ (S : Message → Type 0) (f : Frame) (m : ℕ) where
  abbrev pub Sends : NodeWork → Type 0
  Sends v = SendsOf S f.settings.nodes m v.node.played v.node.given v.node.copies.applied v.node.member.installed (mails_of v.deeds)

  -- ---- processes

  sends_plays : (i : ℕ) (t : Played) (v : NodeWork) → StandsBy S v.node.copies.applied i t → Sends v → Sends (plays i t v)
  sends_plays i t v is h = record {
    here = λ j r. at_both v.node.played i (Some t) j (λ z. z ≡ Some r → StandsBy S v.node.copies.applied j r)
        (λ same found.
        let e : t ≡ r = cc found in
        subst (λ k. StandsBy S v.node.copies.applied k r) (sym same) (subst (StandsBy S v.node.copies.applied i) e is))
        (λ no found. h.here j r found);
    answered = h.answered;
    from = h.from;
  }

  sends_if : (place : ℕ) (reply : Reply) (i : ℕ) (r : Option Played) (v : NodeWork) → place ≤ v.node.copies.applied → Sends v →
      Sends (if_played (receives place reply) i r v)
  sends_if place reply i None v le h = h
  sends_if place reply i (Some r) v le h =
      sends_plays i (receives place reply r) v (stands_free S v.node.copies.applied i (receives place reply r) le refl) h

  sends_changes : (place : ℕ) (reply : Reply) (i : ℕ) (v : NodeWork) → place ≤ v.node.copies.applied → Sends v →
      Sends (changes (receives place reply) i v)
  sends_changes place reply i v le h = sends_if place reply i (v.node.played i) v le h

  sends_performs : (i : ℕ) (r : Played) (act : Action) (t : Tried) (v : NodeWork) → Sends v → Sends (performs_read i r act t v)
  sends_performs i r act t v h = cond_both (is_blocked t) _ _ Sends (λ e. h)
      (λ e. sends_plays i _ v (stands_free S v.node.copies.applied i _ (omega arith) refl) h)

  sends_as : (i : ℕ) (r : Played) (stage : Stage) (v : NodeWork) → Sends v → Sends (tries_as f i r stage v)
  sends_as i r (Reading act) v h = sends_performs i r act _ v h
  sends_as i r Computing v h = h
  sends_as i r (Acting act) v h = h
  sends_as i r (Submitted act) v h = h
  sends_as i r (Asking act) v h = h
  sends_as i r (Over act) v h = h

  sends_tries : (i : ℕ) (r : Option Played) (v : NodeWork) → Sends v → Sends (tries_of f i r v)
  sends_tries i None v h = h
  sends_tries i (Some r) v h = sends_as i r r.stage v h

  sends_read : (i : ℕ) (v : NodeWork) → Sends v → Sends (tries_read f i v)
  sends_read i v h = sends_tries i (v.node.played i) v h

  sends_reads : (n : ℕ) (v : NodeWork) → Sends v → Sends (tries_reads f n v)
  sends_reads zero v h = h
  sends_reads (suc i) v h = sends_read i (tries_reads f i v) (sends_reads i v h)

  -- ---- entries

  sends_answers : (place : ℕ) (lines : List Line) (v : NodeWork) → place ≤ v.node.copies.applied → Sends v → Sends (answers place lines v)
  sends_answers place [] v le h = h
  sends_answers place (l ∷ ls) v le h =
      let u : NodeWork = changes (receives place l.reply) l.process.0 v in
      let same = applied_if (receives place l.reply) l.process.0 (v.node.played l.process.0) v in
      sends_answers place ls u (omega (arith, le, same)) (sends_changes place l.reply l.process.0 v le h)

  sends_begins : (i place : ℕ) (born : List Begun) (v : NodeWork) → AreAt place born → place ≤ v.node.copies.applied → Sends v → Sends (begins m i born v)
  sends_begins i place [] v born le h = h
  sends_begins i place (process ∷ processes) v born le h = cond_both (process.home == m) _ _ Sends
      (λ e. sends_plays i (newborn process) v
      (stands_free S v.node.copies.applied i (newborn process) (omega (arith, born, le)) refl) h)
      (λ e. h)

  sends_one : (x : Message) (v : NodeWork) → Sends v → Sends (applies_one f m x v)
  sends_one x v h =
      let ps : List Begun = known f v.node in
      let place : ℕ = suc v.node.copies.applied in
      let taken : NodeWork = copies_take f m ps x v in
      let lines : List Line = lines_after (singles_of f ps) f.performs v.node.copies x in
      let told : NodeWork = answers place lines taken in
      let born : List Begun = begun_by f.settings.nodes (home_in ps x.process.0) place x.action in
      let u : NodeWork = begins m v.node.copies.processes born told in
      let new : taken.node.copies.applied ≡ v.node.copies.applied + 1 =
      one_more (singles_of f ps) f.performs v.node.copies x (home_in ps x.process.0 == m) in
      let same = applied_answers place lines taken in
      let begun : Sends taken = record {
        here = λ i r found.
            let s = h.here i r found in
            let low = s.place in
            record { place = omega (arith, low, new); holds = s.holds };
        answered = λ i one found. let low = h.answered i one found in omega (arith, low, new);
        from = from_more S f.settings.nodes m v.node.copies.applied taken.node.copies.applied v.node.member.installed (mails_of v.deeds) (omega (arith, new)) h.from;
      } in
      sends_reads u.node.copies.processes u
      (sends_begins v.node.copies.processes place born told (born_at f.settings.nodes (home_in ps x.process.0) place x.action) (omega (arith, new, same))
      (sends_answers place lines taken (omega (arith, new)) begun))

  sends_each : (xs : List Message) (v : NodeWork) → Sends v → Sends (applies_each f m xs v)
  sends_each [] v h = h
  sends_each (x ∷ xs) v h = cond_both (passes_limit f v.node x) _ _ Sends (λ e. h)
      (λ e. sends_each xs (applies_one f m x v) (sends_one x v h))

  -- a step of the group that leaves the incarnation
  pub sends_joins : (work : Work Message) (v : NodeWork) → work.state.installed ≡ v.node.member.installed → Sends v → Sends (joins work v)
  sends_joins work v same h = subst (λ k. SendsOf S f.settings.nodes m v.node.played v.node.given v.node.copies.applied k (mails_of (map Acts work.acts ++ v.deeds)))
      (sym same)
      (record { here = h.here; answered = h.answered; from = from_acts S f.settings.nodes m v.node.copies.applied v.node.member.installed work.acts v.deeds h.from })

  sends_notes : (v : NodeWork) → Sends v → Sends (notes f m v)
  sends_notes v h = cond_both (nat_lt v.node.member.applied v.node.copies.applied) _ _ Sends
      (λ e. sends_joins (note (group f) m v.node.copies.applied v.node.member) v (note_noted (group f) m v.node.copies.applied v.node.member).grows.installed h)
      (λ e. h)

  sends_round : (v : NodeWork) → Sends v → Sends (round f m v)
  sends_round v h = sends_notes (applies f m v) (sends_each (due_entries v.node) v h)

  sends_rounds : (waiting : List (Waiting Message)) (v : NodeWork) → Sends v → Sends (rounds f m waiting v)
  sends_rounds [] v h = sends_round v h
  sends_rounds (one ∷ more) v h = sends_rounds more (round f m v) (sends_round v h)

  -- ---- owners

  module _ (some : 0 < f.settings.nodes) where
    sends_errand : (to : ℕ) (errand : Errand) (v : NodeWork) → to < f.settings.nodes → place_of errand ≤ v.node.copies.applied → Says S errand →
        Sends v → Sends (sends m to errand v)
    sends_errand to errand v low le says h = record {
      here = h.here;
      answered = h.answered;
      from = from_append S f.settings.nodes m v.node.copies.applied v.node.member.installed (mails_of v.deeds) (Mail.Sends v.node.member.installed m to errand ∷ [])
          h.from
          (record { sender = refl; receiver = low; place = le; known = omega arith; says = says }, tt);
    }

    sends_hands_to : (home place : ℕ) (l : Line) (v : NodeWork) → home < f.settings.nodes → place ≤ v.node.copies.applied → Sends v →
        Sends (hands_to m home place l v)
    sends_hands_to home place l v low le h = cond_both (home == m) _ _ Sends
        (λ e. sends_changes place l.reply l.process.0 v le h)
        (λ e.
        let given : Given = record { place = place; call = l.call; reply = l.reply } in
        let u : NodeWork = becomes (record v.node { given = with_at v.node.given l.process.0 (Some given) }) v in
        sends_errand home (Answer place l.process l.call l.reply) u low le tt
        (record {
          here = h.here;
          answered = λ i one. at_both v.node.given l.process.0 (Some given) i (λ z. z ≡ Some one → one.place ≤ v.node.copies.applied)
              (λ same found. let e : given ≡ one = cc found in subst (λ (z : Given). z.place ≤ v.node.copies.applied) e le)
              (λ no found. h.answered i one found);
          from = h.from;
        }))

    sends_hands : (l : Line) (v : NodeWork) → Sends v → Sends (hands f m l v)
    sends_hands l v h =
        sends_hands_to (home_in (known f v.node) l.process.0) v.node.copies.applied l
        (does (Performs (record { place = v.node.copies.applied; line = l })) v)
        (known_low f (entries_of v.node) l.process.0 some) (omega arith) h

    sends_hands_all : (ls : List Line) (v : NodeWork) → Sends v → Sends (hands_all f m ls v)
    sends_hands_all [] v h = h
    sends_hands_all (l ∷ ls) v h = sends_hands_all ls (hands f m l v) (sends_hands l v h)

    sends_call : (x : Message) (v : NodeWork) → Sends v → Sends (performs_call f m x v)
    sends_call x v h = sends_hands_all (lines_single f.performs v.node.copies x)
        (becomes (record v.node { copies = after_single f.performs v.node.copies x }) v) h

    sends_takes_call : (x : Message) (v : NodeWork) → Sends v → Sends (takes_call f m x v)
    sends_takes_call x v h = cond_both (waits_here x v.node.copies.waits) _ _ Sends (λ e. h) (λ e. sends_call x v h)

    sends_asked : (x : Message) (o : Option Given) (v : NodeWork) → v.node.given x.process.0 ≡ o → Sends v → Sends (takes_asked f m x o v)
    sends_asked x None v is h = sends_takes_call x v h
    sends_asked x (Some given) v is h = cond_both (nat_lt given.call.0 x.call.0) _ _ Sends (λ e. sends_takes_call x v h)
        (λ e. cond_both (given.call.0 == x.call.0) _ _ Sends
        (λ d. sends_errand (home_in (known f v.node) x.process.0) (Answer given.place x.process given.call given.reply) v
        (known_low f (entries_of v.node) x.process.0 some) (h.answered x.process.0 given is) tt h)
        (λ d. h))

    sends_hears_as : (place i : ℕ) (call : CallNo) (reply : Reply) (r : Played) (stage : Stage) (v : NodeWork) → place ≤ v.node.copies.applied →
        Sends v → Sends (hears_as place i call reply r stage v)
    sends_hears_as place i call reply r (Asking act) v le h = cond_both (call.0 == length r.replies) _ _ Sends
        (λ e. sends_plays i (receives place reply r) v (stands_free S v.node.copies.applied i (receives place reply r) le refl) h) (λ e. h)
    sends_hears_as place i call reply r Computing v le h = h
    sends_hears_as place i call reply r (Acting act) v le h = h
    sends_hears_as place i call reply r (Submitted act) v le h = h
    sends_hears_as place i call reply r (Reading act) v le h = h
    sends_hears_as place i call reply r (Over act) v le h = h

    sends_hears : (place i : ℕ) (call : CallNo) (reply : Reply) (o : Option Played) (v : NodeWork) → place ≤ v.node.copies.applied →
        Sends v → Sends (hears_of place i call reply o v)
    sends_hears place i call reply None v le h = h
    sends_hears place i call reply (Some r) v le h = sends_hears_as place i call reply r r.stage v le h

    sends_takes : (errand : Errand) (v : NodeWork) → place_of errand ≤ v.node.copies.applied → Sends v → Sends (takes f m errand v)
    sends_takes (Ask place x) v le h = sends_asked x (v.node.given x.process.0) v refl h
    sends_takes (Answer place i call reply) v le h = sends_hears place i.0 call reply (v.node.played i.0) v le h

    sends_each_errand : (errands : List Errand) (v : NodeWork) → Sends v → Sends (takes_each f m errands v)
    sends_each_errand [] v h = h
    sends_each_errand (errand ∷ errands) v h =
        sends_each_errand errands (if nat_le (place_of errand) v.node.copies.applied then takes f m errand v else holds errand v)
        (cond_both (nat_le (place_of errand) v.node.copies.applied) (takes f m errand v) (holds errand v) Sends
        (λ e. sends_takes errand v (leb-true (place_of errand) v.node.copies.applied e) h) (λ e. h))

    sends_reached : (v : NodeWork) → Sends v → Sends (takes_reached f m v)
    sends_reached v h = cond_both v.node.member.outside _ _ Sends (λ e. h)
        (λ e. sends_each_errand v.node.held (becomes (record v.node { held = [] }) v) h)

    pub sends_up : (v : NodeWork) → Sends v → Sends (catches_up f m v)
    sends_up v h = sends_reached (applies_all f m v) (sends_rounds v.node.member.waiting v h)

    -- ---- parts of events

    pub sends_arrives : (errand : Errand) (v : NodeWork) → Sends v → Sends (arrives errand v)
    sends_arrives errand v h = cond_both (v.node.member.outside || is_held errand v.node.held) _ _ Sends (λ e. h) (λ e. h)

    pub sends_performed : (place : ℕ) (lines : List Line) (v : NodeWork) → Sends v → Sends (performs_all place lines v)
    sends_performed place [] v h = h
    sends_performed place (l ∷ ls) v h = sends_performed place ls (does (Performs (record { place = place; line = l })) v) h

    sends_owner : (r : Played) (call : Suspended) (v : NodeWork) → r.place ≤ v.node.copies.applied → S (message_of call) → Sends v →
        Sends (asks_owner f m r call v)
    sends_owner r call v le says h = cond_both (owner_in (known f v.node) call.object == m) _ _ Sends (λ e. h)
        (λ e. sends_errand (owner_in (known f v.node) call.object) (Ask r.place (message_of call)) v
        (known_low f (entries_of v.node) call.object.process some) le says h)

    sends_again_by : (i : ℕ) (r : Played) (act : Action) (v : NodeWork) → out_of r.stage ≡ Some act → StandsBy S v.node.copies.applied i r →
        Sends v → Sends (asks_again_by f m i r act v)
    sends_again_by i r (action.Call kind op object args) v is stands h =
        let call : Suspended = record { process = record { 0 = i }; call = next_call r; kind = kind; op = op; object = object; args = args } in
        sends_owner r call v stands.place (stands.holds (action.Call kind op object args) is (message_of call) refl refl refl) h
    sends_again_by i r (action.Make kind object) v is stands h = h
    sends_again_by i r (action.Fork text args place_on) v is stands h = h
    sends_again_by i r action.Ended v is stands h = h
    sends_again_by i r (action.Faulted fault) v is stands h = h

    sends_again_at : (i : ℕ) (r : Played) (stage : Stage) (v : NodeWork) → r.stage ≡ stage → StandsBy S v.node.copies.applied i r →
        Sends v → Sends (asks_again_at f m i r stage v)
    sends_again_at i r (Asking act) v is stands h = sends_again_by i r act v (ap out_of is) stands h
    sends_again_at i r Computing v is stands h = h
    sends_again_at i r (Acting act) v is stands h = h
    sends_again_at i r (Submitted act) v is stands h = h
    sends_again_at i r (Reading act) v is stands h = h
    sends_again_at i r (Over act) v is stands h = h

    sends_again_of : (i : ℕ) (o : Option Played) (v : NodeWork) → v.node.played i ≡ o → Sends v → Sends (asks_again_of f m i o v)
    sends_again_of i None v is h = h
    sends_again_of i (Some r) v is h = sends_again_at i r r.stage v refl (h.here i r is) h

    sends_below : (n : ℕ) (v : NodeWork) → Sends v → Sends (asks_below f m n v)
    sends_below zero v h = h
    sends_below (suc i) v h = sends_again_of i ((asks_below f m i v).node.played i) (asks_below f m i v) refl (sends_below i v h)

    pub sends_again : (v : NodeWork) → Sends v → Sends (asks_again f m v)
    sends_again v h = cond_both v.node.member.outside _ _ Sends (λ e. h) (λ e. sends_below v.node.copies.processes v h)

    -- a process that goes on with nothing out
    moved : (i : ℕ) (r : Played) (stage : Stage) (v : NodeWork) → v.node.played i ≡ Some r → out_of stage ≡ None → Sends v →
        Sends (plays i (moves_to stage r) v)
    moved i r stage v here none h =
        sends_plays i (moves_to stage r) v (stands_free S v.node.copies.applied i (moves_to stage r) (h.here i r here).place none) h

    sends_asks : (i : ℕ) (r : Played) (call : Suspended) (v : NodeWork) → v.node.played i ≡ Some r → call.process.0 ≡ i → call.call.0 ≡ length r.replies →
        out_of r.stage ≡ Some (message_of call).action → Sends v → Sends (asks f m i r call v)
    sends_asks i r call v here process number is h =
        let t : Played = moves_to (Asking (message_of call).action) r in
        let u : NodeWork = plays i t v in
        let old : StandsBy S v.node.copies.applied i r = h.here i r here in
        let stands : StandsBy S v.node.copies.applied i t = record { place = old.place; holds = λ act out. old.holds act (is ∙ out) } in
        let k : Sends u = sends_plays i t v stands h in
        cond_both (owner_in (known f v.node) call.object == m) _ _ Sends
        (λ e. sends_call (message_of call) u k)
        (λ e. sends_errand (owner_in (known f v.node) call.object) (Ask r.place (message_of call)) u
        (known_low f (entries_of v.node) call.object.process some) old.place (old.holds (message_of call).action is (message_of call) process number refl) k)

    -- a message goes to the group: whichever incarnation the member is in then, it sent nothing before
    sends_submits : (i : ℕ) (r : Played) (act : Action) (x : Message) (v : NodeWork) → v.node.played i ≡ Some r → v.deeds ≡ [] → Sends v →
        Sends (submits f m i r act x v)
    sends_submits i r act x v here none h =
        let u : NodeWork = does (Submits x) (plays i (moves_to (Submitted act) r) v) in
        let work : Work Message = submit (group f) m x u.node.member in
        let k : Sends u = moved i r (Submitted act) v here refl h in
        record {
          here = k.here;
          answered = k.answered;
          from = from_acts S f.settings.nodes m v.node.copies.applied work.state.installed work.acts (Submits x ∷ v.deeds)
              (subst (λ deeds. AllFrom S f.settings.nodes m v.node.copies.applied work.state.installed (mails_of deeds)) (sym none) tt);
        }

    sends_calls_as : (i : ℕ) (r : Played) (call : Suspended) (class : Class) (v : NodeWork) → v.node.played i ≡ Some r → v.deeds ≡ [] → Sends v →
        Sends (calls_as f m i r call class v)
    sends_calls_as i r call Reads v here none h =
        sends_read i (plays i (moves_to (Reading (message_of call).action) r) v) (moved i r (Reading (message_of call).action) v here refl h)
    sends_calls_as i r call Writes v here none h = sends_submits i r (message_of call).action (message_of call) v here none h

    sends_by : (i : ℕ) (r : Played) (act : Action) (v : NodeWork) → v.node.played i ≡ Some r → v.deeds ≡ [] → out_of r.stage ≡ Some act → Sends v →
        Sends (acts_by f m i r act v)
    sends_by i r (action.Make kind object) v here none is h = sends_submits i r (action.Make kind object) _ v here none h
    sends_by i r (action.Call kind op object args) v here none is h =
        let call : Suspended = record { process = record { 0 = i }; call = next_call r; kind = kind; op = op; object = object; args = args } in
        cond_both (singles_of f (known f v.node) call.object) _ _ Sends
        (λ e. sends_asks i r call v here refl refl is h)
        (λ e. sends_calls_as i r call (f.performs.class_of call.kind call.op) v here none h)
    sends_by i r (action.Fork text args place_on) v here none is h = sends_submits i r (action.Fork text args place_on) _ v here none h
    sends_by i r action.Ended v here none is h = h
    sends_by i r (action.Faulted fault) v here none is h = h

    sends_at : (i : ℕ) (r : Played) (stage : Stage) (v : NodeWork) → v.node.played i ≡ Some r → v.deeds ≡ [] → r.stage ≡ stage → Sends v →
        Sends (acts_at f m i r stage v)
    sends_at i r (Acting act) v here none is h = sends_by i r act v here none (ap out_of is) h
    sends_at i r Computing v here none is h = h
    sends_at i r (Submitted act) v here none is h = h
    sends_at i r (Reading act) v here none is h = h
    sends_at i r (Asking act) v here none is h = h
    sends_at i r (Over act) v here none is h = h

    pub sends_acts : (i : ℕ) (o : Option Played) (v : NodeWork) → v.node.played i ≡ o → v.deeds ≡ [] → Sends v → Sends (acts_of f m i o v)
    sends_acts i None v is none h = h
    sends_acts i (Some r) v is none h = sends_at i r r.stage v is none refl h
