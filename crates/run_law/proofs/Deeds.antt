-- What a member does in its part of an event, deed by deed: what stays with each deed holds at the part's end.
use Rattle.std.proofs.Common.{◌≡◌, ◌==◌, ◌||◌, ◌<◌, ℕ, suc, false, List, [], ◌∷◌, ◌++◌, map, length, Option, None, Some, sym, subst, nat_lt}
use Rattle.std.proofs.lemmas.Bool.{cond_both}
use Rattle.orca_base.specs.declared.ids.CallNo.{CallNo}
use Rattle.value_core.specs.declared.action.Action.{Action}
use Rattle.value_core.specs.declared.action.Action.TheVariants as action
use Rattle.value_core.specs.declared.action.Class.{Class}
use Rattle.value_core.specs.declared.action.Class.TheVariants.{Reads, Writes}
use Rattle.value_core.specs.declared.action.Line.{Line}
use Rattle.value_core.specs.declared.action.Reply.{Reply}
use Rattle.value_core.specs.declared.meaning.Tried.{Tried}
use Rattle.value_core.specs.declared.message.Message.{Message}
use Rattle.guard_queue.specs.Settles.{is_blocked}
use Rattle.guard_queue.specs.declared.queue.Suspended.{Suspended}
use Rattle.object_manager.specs.Singles.{after_single, lines_single}
use Rattle.object_manager.specs.State.{message_of}
use Rattle.group_law.specs.Sends.{RowsSend, Use}
use Rattle.group_law.specs.Sends.{Sends as SendsIn}
use Rattle.group_rules.specs.Member.{Kind, Letter}
use Rattle.group_rules.specs.Member.Kind.{Request, Body, Order, Entry, Ack, Accept, Nack, Status, Invite, Join, News}
use Rattle.group_rules.specs.Messages.{Group}
use Rattle.group_rules.specs.Steps.{deliver_kind, note, submit}
use Rattle.group_rules.specs.Work.{Act}
use Rattle.group_rules.specs.World.{Sent}
use Rattle.world_rules.specs.Applying.{notes, passes_limit, performs_read, tries_as, tries_of, tries_read}
use Rattle.world_rules.specs.Bursts.{read_line}
use Rattle.world_rules.specs.Frame.{Frame, group}
use Rattle.world_rules.specs.Mail.{Errand, Mail}
use Rattle.world_rules.specs.Mail.Errand.{Ask, Answer}
use Rattle.world_rules.specs.Nodes.{Deed, Given, NodeWork, becomes, does, idle, if_played, joins, known, plays}
use Rattle.world_rules.specs.Nodes.Deed.{Acts, Applies, Mails, Performs, Submits}
use Rattle.world_rules.specs.Owners.{arrives, hands, hands_all, hands_to, hears_as, hears_of, is_held, performs_call, takes, takes_asked, takes_call, waits_here}
use Rattle.world_rules.specs.Parts.{acts_at, acts_by, acts_of, asks, asks_again_at, asks_again_by, asks_again_of, asks_owner, calls, calls_as, receives_mail, submits}
use Rattle.world_rules.specs.Played.{Played, Stage, moves_to, receives}
use Rattle.world_rules.specs.Played.Stage.{Computing, Acting, Submitted, Reading, Asking, Over}
use Rattle.world_rules.specs.Processes.{home_in, owner_in, singles_of}
use Rattle.world_rules.specs.Worlds.{World, group_world}
use Rattle.world_course.proofs.Working.{entry_only}
use Rattle.node_rules.specs.Moments.{Goes, IsDue, Moment, Walks, entry_lines, takes_entry, works}
use Rattle.node_rules.specs.Moments.{at_work as at_moment}
use Rattle.node_rules.specs.Moments.Goes.{Takes_entry, Tries_read, Notes, Opens, Takes, Holds, Asks_again}
use Rattle.node_rules.specs.Starts.{Start, begun, part}
use Rattle.node_rules.specs.Starts.Start.{Acts as ActsOf, Comes, Ticks, Suspects}
use Rattle.node_rules.proofs.Walking.{parts_walk}
use Rattle.world_calls.proofs.Beginning.{MayStart}
use Rattle.world_calls.proofs.Going.{entry_number}

-- it stays with each deed of member m but the application of an entry, where its copies applied n entries
pub record StaysWith (g : Group Message) (m : ℕ) (D : ℕ → List Deed → Type 0) : Type 0 where
  pub submits : (n : ℕ) (x : Message) (deeds : List Deed) → D n deeds → D n (Submits x ∷ deeds)
  pub acts : (n : ℕ) (uses : List Use) (acts : List (Act Message)) (deeds : List Deed) → SendsIn g m uses acts → D n deeds → D n (map Acts acts ++ deeds)
  pub mails :
      (n incarnation to : ℕ) (errand : Errand) (deeds : List Deed) → D n deeds → D n (Mails (Mail.Sends incarnation m to errand) ∷ deeds)
  pub performs : (n : ℕ) (line : Line) (deeds : List Deed) → D n deeds → D n (Performs (record { place = n; line = line }) ∷ deeds)

-- what is known of the group where the part begins: what its rows send, and that who sent a letter is a member
pub record Rows (f : Frame) (w : World) (m : ℕ) : Type 0 where
  pub rows : RowsSend (group f) (group_world w)
  pub low : m < f.settings.nodes
  pub sent : (letter : Letter Message) → MayStart f w m (Comes (Mail.Grouped letter)) → Sent w.past.letters letter.packet
  pub known : (letter : Letter Message) → MayStart f w m (Comes (Mail.Grouped letter)) → letter.packet.from < f.settings.nodes

module _ (f : Frame) (w : World) (m : ℕ) (D : ℕ → List Deed → Type 0) (stays : StaysWith (group f) m D) (known_rows : Rows f w m) where
  abbrev pub Has : NodeWork → Type 0
  Has v = D v.node.copies.applied v.deeds

  rows : RowsSend (group f) (group_world w)
  rows = known_rows.rows

  -- ---- processes

  has_if : (change : Played → Played) (i : ℕ) (o : Option Played) (v : NodeWork) → Has v → Has (if_played change i o v)
  has_if change i None v h = h
  has_if change i (Some r) v h = h

  has_performs : (i : ℕ) (r : Played) (act : Action) (t : Tried) (v : NodeWork) → Has v → Has (performs_read i r act t v)
  has_performs i r act t v h = cond_both (is_blocked t) _ _ Has (λ e. h)
      (λ e. stays.performs v.node.copies.applied (read_line (record { 0 = i }) r act t) v.deeds h)

  has_as : (i : ℕ) (r : Played) (stage : Stage) (v : NodeWork) → Has v → Has (tries_as f i r stage v)
  has_as i r (Reading act) v h = has_performs i r act _ v h
  has_as i r Computing v h = h
  has_as i r (Acting act) v h = h
  has_as i r (Submitted act) v h = h
  has_as i r (Asking act) v h = h
  has_as i r (Over act) v h = h

  has_tries : (i : ℕ) (o : Option Played) (v : NodeWork) → Has v → Has (tries_of f i o v)
  has_tries i None v h = h
  has_tries i (Some r) v h = has_as i r r.stage v h

  has_read : (i : ℕ) (v : NodeWork) → Has v → Has (tries_read f i v)
  has_read i v h = has_tries i (v.node.played i) v h

  -- ---- entries and notes

  -- what is so with one entry more, at a moment
  pub has_entry : (x : Message) (v : NodeWork) → D (suc v.node.copies.applied) (Applies (entry_lines f v.node x) ∷ v.deeds) → Has (takes_entry f m x v)
  has_entry x v h =
      let only = entry_only f m (known f v.node) v.node.copies.processes (suc v.node.copies.applied) x v in
      subst (λ n. D n (takes_entry f m x v).deeds) (sym (entry_number f m x v)) (subst (D (suc v.node.copies.applied)) (sym only.deeds) h)

  has_notes : (v : NodeWork) → Has v → Has (notes f m v)
  has_notes v h = cond_both (nat_lt v.node.member.applied v.node.copies.applied) _ _ Has
      (λ e. stays.acts v.node.copies.applied _ (note (group f) m v.node.copies.applied v.node.member).acts v.deeds
      (rows.note m v.node.copies.applied v.node.member known_rows.low) h)
      (λ e. h)

  -- ---- owners

  has_errand : (to : ℕ) (errand : Errand) (v : NodeWork) → Has v → Has (does (Mails (Mail.Sends v.node.member.installed m to errand)) v)
  has_errand to errand v h = stays.mails v.node.copies.applied v.node.member.installed to errand v.deeds h

  has_hands_to : (home place : ℕ) (l : Line) (v : NodeWork) → Has v → Has (hands_to m home place l v)
  has_hands_to home place l v h = cond_both (home == m) _ _ Has
      (λ e. has_if (receives place l.reply) l.process.0 (v.node.played l.process.0) v h)
      (λ e. stays.mails v.node.copies.applied v.node.member.installed home (Answer place l.process l.call l.reply) v.deeds h)

  has_hands : (l : Line) (v : NodeWork) → Has v → Has (hands f m l v)
  has_hands l v h =
      has_hands_to (home_in (known f v.node) l.process.0) v.node.copies.applied l
      (does (Performs (record { place = v.node.copies.applied; line = l })) v)
      (stays.performs v.node.copies.applied l v.deeds h)

  has_hands_all : (ls : List Line) (v : NodeWork) → Has v → Has (hands_all f m ls v)
  has_hands_all [] v h = h
  has_hands_all (l ∷ ls) v h = has_hands_all ls (hands f m l v) (has_hands l v h)

  has_call : (x : Message) (v : NodeWork) → Has v → Has (performs_call f m x v)
  has_call x v h = has_hands_all (lines_single f.performs v.node.copies x)
      (becomes (record v.node { copies = after_single f.performs v.node.copies x }) v) h

  has_takes_call : (x : Message) (v : NodeWork) → Has v → Has (takes_call f m x v)
  has_takes_call x v h = cond_both (waits_here x v.node.copies.waits) _ _ Has (λ e. h) (λ e. has_call x v h)

  has_asked : (x : Message) (o : Option Given) (v : NodeWork) → Has v → Has (takes_asked f m x o v)
  has_asked x None v h = has_takes_call x v h
  has_asked x (Some given) v h = cond_both (nat_lt given.call.0 x.call.0) _ _ Has (λ e. has_takes_call x v h)
      (λ e. cond_both (given.call.0 == x.call.0) _ _ Has
      (λ d. has_errand (home_in (known f v.node) x.process.0) (Answer given.place x.process given.call given.reply) v h)
      (λ d. h))

  has_hears_as : (place i : ℕ) (call : CallNo) (reply : Reply) (r : Played) (stage : Stage) (v : NodeWork) → Has v →
      Has (hears_as place i call reply r stage v)
  has_hears_as place i call reply r (Asking act) v h = cond_both (call.0 == length r.replies) _ _ Has (λ e. h) (λ e. h)
  has_hears_as place i call reply r Computing v h = h
  has_hears_as place i call reply r (Acting act) v h = h
  has_hears_as place i call reply r (Submitted act) v h = h
  has_hears_as place i call reply r (Reading act) v h = h
  has_hears_as place i call reply r (Over act) v h = h

  has_hears : (place i : ℕ) (call : CallNo) (reply : Reply) (o : Option Played) (v : NodeWork) → Has v → Has (hears_of place i call reply o v)
  has_hears place i call reply None v h = h
  has_hears place i call reply (Some r) v h = has_hears_as place i call reply r r.stage v h

  has_takes : (errand : Errand) (v : NodeWork) → Has v → Has (takes f m errand v)
  has_takes (Ask place x) v h = has_asked x (v.node.given x.process.0) v h
  has_takes (Answer place i call reply) v h = has_hears place i.0 call reply (v.node.played i.0) v h

  -- ---- Asks again

  has_owner : (r : Played) (call : Suspended) (v : NodeWork) → Has v → Has (asks_owner f m r call v)
  has_owner r call v h = cond_both (owner_in (known f v.node) call.object == m) _ _ Has (λ e. h)
      (λ e. has_errand (owner_in (known f v.node) call.object) (Ask r.place (message_of call)) v h)

  has_again_by : (i : ℕ) (r : Played) (act : Action) (v : NodeWork) → Has v → Has (asks_again_by f m i r act v)
  has_again_by i r (action.Call kind op object args) v h = has_owner r _ v h
  has_again_by i r (action.Make kind object) v h = h
  has_again_by i r (action.Fork text args place_on) v h = h
  has_again_by i r action.Ended v h = h
  has_again_by i r (action.Faulted fault) v h = h

  has_again_at : (i : ℕ) (r : Played) (stage : Stage) (v : NodeWork) → Has v → Has (asks_again_at f m i r stage v)
  has_again_at i r (Asking act) v h = has_again_by i r act v h
  has_again_at i r Computing v h = h
  has_again_at i r (Acting act) v h = h
  has_again_at i r (Submitted act) v h = h
  has_again_at i r (Reading act) v h = h
  has_again_at i r (Over act) v h = h

  has_again : (i : ℕ) (o : Option Played) (v : NodeWork) → Has v → Has (asks_again_of f m i o v)
  has_again i None v h = h
  has_again i (Some r) v h = has_again_at i r r.stage v h

  -- ---- from moment to moment

  -- it goes on wherever it does with an entry
  abbrev pub WithEntry : Moment → Moment → Type 0
  WithEntry u v =
      (x : Message) → IsDue u.work.node x → passes_limit f u.work.node x ≡ false → v ≡ works (takes_entry f m x u.work) u → Has u.work → Has v.work

  pub has_goes : (u v : Moment) → WithEntry u v → Goes f m u v → Has u.work → Has v.work
  has_goes u v entry (Takes_entry x due within is) h = entry x due within is h
  has_goes u v entry (Tries_read i is) h = subst (λ (z : Moment). Has z.work) (sym is) (has_read i u.work h)
  has_goes u v entry (Notes is) h = subst (λ (z : Moment). Has z.work) (sym is) (has_notes u.work h)
  has_goes u v entry (Opens none inside is) h = subst (λ (z : Moment). Has z.work) (sym is) h
  has_goes u v entry (Takes e es hand reached is) h = subst (λ (z : Moment). Has z.work) (sym is) (has_takes e u.work h)
  has_goes u v entry (Holds e es hand is) h = subst (λ (z : Moment). Has z.work) (sym is) h
  has_goes u v entry (Asks_again i is) h = subst (λ (z : Moment). Has z.work) (sym is) (has_again i (u.work.node.played i) u.work h)

  -- ---- where a part begins

  has_asks : (i : ℕ) (r : Played) (call : Suspended) (v : NodeWork) → Has v → Has (asks f m i r call v)
  has_asks i r call v h =
      let u : NodeWork = plays i (moves_to (Asking (message_of call).action) r) v in
      cond_both (owner_in (known f v.node) call.object == m) _ _ Has
      (λ e. has_call (message_of call) u h)
      (λ e. has_errand (owner_in (known f v.node) call.object) (Ask r.place (message_of call)) u h)

  has_submits : (i : ℕ) (r : Played) (act : Action) (x : Message) (v : NodeWork) → Has v → Has (submits f m i r act x v)
  has_submits i r act x v h =
      stays.acts v.node.copies.applied _ (submit (group f) m x v.node.member).acts (Submits x ∷ v.deeds)
      (rows.submit m x v.node.member known_rows.low) (stays.submits v.node.copies.applied x v.deeds h)

  has_calls_as : (i : ℕ) (r : Played) (call : Suspended) (class : Class) (v : NodeWork) → Has v → Has (calls_as f m i r call class v)
  has_calls_as i r call Reads v h = has_read i (plays i (moves_to (Reading (message_of call).action) r) v) h
  has_calls_as i r call Writes v h = has_submits i r (message_of call).action (message_of call) v h

  has_calls : (i : ℕ) (r : Played) (call : Suspended) (v : NodeWork) → Has v → Has (calls f m i r call v)
  has_calls i r call v h = cond_both (singles_of f (known f v.node) call.object) _ _ Has
      (λ e. has_asks i r call v h)
      (λ e. has_calls_as i r call (f.performs.class_of call.kind call.op) v h)

  has_by : (i : ℕ) (r : Played) (act : Action) (v : NodeWork) → Has v → Has (acts_by f m i r act v)
  has_by i r (action.Make kind object) v h = has_submits i r (action.Make kind object) _ v h
  has_by i r (action.Call kind op object args) v h = has_calls i r _ v h
  has_by i r (action.Fork text args place_on) v h = has_submits i r (action.Fork text args place_on) _ v h
  has_by i r action.Ended v h = h
  has_by i r (action.Faulted fault) v h = h

  has_at : (i : ℕ) (r : Played) (stage : Stage) (v : NodeWork) → Has v → Has (acts_at f m i r stage v)
  has_at i r (Acting act) v h = has_by i r act v h
  has_at i r Computing v h = h
  has_at i r (Submitted act) v h = h
  has_at i r (Reading act) v h = h
  has_at i r (Asking act) v h = h
  has_at i r (Over act) v h = h

  has_acts : (i : ℕ) (o : Option Played) (v : NodeWork) → Has v → Has (acts_of f m i o v)
  has_acts i None v h = h
  has_acts i (Some r) v h = has_at i r r.stage v h

  has_arrives : (errand : Errand) (v : NodeWork) → Has v → Has (arrives errand v)
  has_arrives errand v h = cond_both (v.node.member.outside || is_held errand v.node.held) _ _ Has (λ e. h) (λ e. h)

  -- a letter of the group comes
  has_kind : (from k : ℕ) (kind : Kind Message) → from < f.settings.nodes → (from ≡ m → ⊥) →
      Sent w.past.letters (record { inc = k; from = from; kind = kind }) → Has (idle (w.nodes m)) →
      Has (joins (deliver_kind (group f) m from k kind (w.nodes m).member) (idle (w.nodes m)))
  has_kind from k Invite low other sent h = stays.acts _ _ _ _ (rows.invited m from k (w.nodes m).member known_rows.low) h
  has_kind from k (Join report) low other sent h = stays.acts _ _ _ _ (rows.joined m from k report (w.nodes m).member known_rows.low) h
  has_kind from k (News accepted base members log) low other sent h =
      stays.acts _ _ _ _ (rows.announced m from k accepted base members log known_rows.low sent) h
  has_kind from k (Request applied x) low other sent h = stays.acts _ _ _ _ (rows.receive m from k (Request applied x) (w.nodes m).member known_rows.low low other) h
  has_kind from k (Body applied x) low other sent h = stays.acts _ _ _ _ (rows.receive m from k (Body applied x) (w.nodes m).member known_rows.low low other) h
  has_kind from k (Order number process call accepted stable) low other sent h =
      stays.acts _ _ _ _ (rows.receive m from k (Order number process call accepted stable) (w.nodes m).member known_rows.low low other) h
  has_kind from k (Entry number accepted stable x) low other sent h =
      stays.acts _ _ _ _ (rows.receive m from k (Entry number accepted stable x) (w.nodes m).member known_rows.low low other) h
  has_kind from k (Ack count applied) low other sent h = stays.acts _ _ _ _ (rows.receive m from k (Ack count applied) (w.nodes m).member known_rows.low low other) h
  has_kind from k (Accept accepted stable) low other sent h = stays.acts _ _ _ _ (rows.receive m from k (Accept accepted stable) (w.nodes m).member known_rows.low low other) h
  has_kind from k (Nack first applied whole) low other sent h = stays.acts _ _ _ _ (rows.receive m from k (Nack first applied whole) (w.nodes m).member known_rows.low low other) h
  has_kind from k (Status count applied) low other sent h = stays.acts _ _ _ _ (rows.receive m from k (Status count applied) (w.nodes m).member known_rows.low low other) h

  has_mail : (mail : Mail) → MayStart f w m (Comes mail) → Has (idle (w.nodes m)) → Has (receives_mail f m mail (idle (w.nodes m)))
  has_mail (Mail.Grouped letter) may h =
      let comes = may.1 in
      has_kind letter.packet.from letter.packet.inc letter.packet.kind (known_rows.known letter may) (λ e. comes.other (sym (subst (λ k. letter.packet.from ≡ k) may.0 e))) (known_rows.sent letter may) h
  has_mail (Mail.Sends incarnation from to errand) may h = has_arrives errand (idle (w.nodes m)) h

  pub has_begun : (start : Start) → MayStart f w m start → Has (idle (w.nodes m)) → Has (begun f m start (w.nodes m))
  has_begun (ActsOf i) may h = has_acts i ((w.nodes m).played i) (idle (w.nodes m)) h
  has_begun (Comes mail) may h = has_mail mail may h
  has_begun Ticks may h = stays.acts _ _ _ _ (rows.timer m (w.nodes m).member known_rows.low) h
  has_begun Suspects may h = stays.acts _ _ _ _ (rows.coordinate m (w.nodes m).member known_rows.low) h

  -- ---- the whole part, where it stays with each entry too

  module _ (applies : (n : ℕ) (lines : List Line) (deeds : List Deed) → D n deeds → D (suc n) (Applies lines ∷ deeds)) where
    has_walks : (u v : Moment) → Walks f m u v → Has u.work → Has v.work
    has_walks u v (Walks.Stays x) h = h
    has_walks u v (Walks.Then x y z go rest) h =
        has_walks y v rest
        (has_goes u y (λ x due within is k. subst (λ (z : Moment). Has z.work) (sym is)
        (has_entry x u.work (applies u.work.node.copies.applied (entry_lines f u.work.node x) u.work.deeds k))) go h)

    pub has_part : (start : Start) → MayStart f w m start → D (w.nodes m).copies.applied [] → Has (part f m start (w.nodes m))
    has_part start may h =
        has_walks (at_moment (begun f m start (w.nodes m))) (at_moment (part f m start (w.nodes m))) (parts_walk f m start (w.nodes m))
        (has_begun start may h)
