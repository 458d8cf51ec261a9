-- What owners do with Asks and Answers leaves replicated objects, and who waits with a read did so before.
use Rattle.std.proofs.Common.{◌≡◌, ◌==◌, ◌||◌, nat_le, nat_lt, ℕ, ⊎_elim, List, [], ◌∷◌, length, Option, Some, None, refl, sym, ap, ◌∙◌, subst, if◌then◌else◌}
use Rattle.std.proofs.lemmas.Bool.{cases_eq, cond_both}
use Rattle.orca_base.specs.declared.ids.CallNo.{CallNo}
use Rattle.value_core.specs.declared.action.Action.{Action}
use Rattle.value_core.specs.declared.action.Line.{Line}
use Rattle.value_core.specs.declared.action.Reply.{Reply}
use Rattle.value_core.specs.declared.message.Message.{Message}
use Rattle.value_core.specs.History.{Objects}
use Rattle.object_manager.specs.Singles.{after_single, lines_single}
use Rattle.object_manager.specs.State.{message_of}
use Rattle.guard_queue.specs.declared.queue.Suspended.{Suspended}
use Rattle.book_law.proofs.Courses.{at_other, at_own}
use Rattle.world_rules.specs.Frame.{Frame}
use Rattle.world_rules.specs.Mail.{Errand, place_of}
use Rattle.world_rules.specs.Mail.Errand.{Ask, Answer}
use Rattle.world_rules.specs.Nodes.{Given, NodeWork, becomes, does, if_played, known, plays}
use Rattle.world_rules.specs.Nodes.Deed.{Performs}
use Rattle.world_rules.specs.Owners.{arrives, hands, hands_all, hears_as, hears_of, holds, is_held, performs_call, takes, takes_asked, takes_call, takes_each, takes_reached, waits_here}
use Rattle.world_rules.specs.Applying.{applies_all}
use Rattle.world_rules.specs.Parts.{asks, catches_up}
use Rattle.world_rules.specs.Played.{Played, Stage, moves_to, receives}
use Rattle.world_rules.specs.Played.Stage.{Computing, Acting, Submitted, Reading, Asking, Over}
use Rattle.world_rules.specs.Processes.{home_in, owner_in}
use Rattle.world_law.proofs.Ages.{Fresh}
use Rattle.world_book.proofs.Reading.{AllBlocked, WaitsBlocked, blocked_rounds}

pub record Stays (v u : NodeWork) : Type 0 where
  pub objects : u.node.copies.objects ≡ v.node.copies.objects
  pub reads : (i : ℕ) (r : Played) (act : Action) → u.node.played i ≡ Some r → r.stage ≡ Reading act → v.node.played i ≡ Some r

stays : (v : NodeWork) → Stays v v
stays v = record { objects = refl; reads = λ i r act is reads. is }

pub stays_on : (v u t : NodeWork) → Stays v u → Stays u t → Stays v t
stays_on v u t one two = record {
  objects = two.objects ∙ one.objects;
  reads = λ i r act is reads. one.reads i r act (two.reads i r act is reads) reads;
}

-- so who waits with a read is blocked still
pub blocked_stays : (f : Frame) (v u : NodeWork) → Stays v u → AllBlocked f v.node → AllBlocked f u.node
blocked_stays f v u s all i r here act reads = subst (λ (o : Objects). WaitsBlocked f o r) (sym s.objects) (all i r (s.reads i r act here reads)) act reads

-- one process is set, and doesn't read
pub stays_plays : (i : ℕ) (t : Played) (v : NodeWork) → ((act : Action) → t.stage ≡ Reading act → ⊥) → Stays v (plays i t v)
stays_plays i t v never = record {
  objects = refl;
  reads = λ j r act is reads. ⊎_elim
      (λ (e : j ≡ i).
      let g : Some t ≡ Some r = sym (ap (plays i t v).node.played e ∙ at_own v.node.played i (Some t)) ∙ is in
      let same : t ≡ r = cc in
      absurd (never act (ap (λ (z : Played). z.stage) same ∙ reads)))
      (λ apart. sym (at_other v.node.played i (Some t) j apart) ∙ is)
      (cases_eq j i);
}

computes : (act : Action) → Computing ≡ Reading act → ⊥
computes act e = absurd (cc e)

-- ---- an owner

stays_if : (place i : ℕ) (reply : Reply) (o : Option Played) (v : NodeWork) → Stays v (if_played (receives place reply) i o v)
stays_if place i reply None v = stays v
stays_if place i reply (Some r) v = stays_plays i (receives place reply r) v computes

stays_hands : (f : Frame) (m : ℕ) (l : Line) (v : NodeWork) → Stays v (hands f m l v)
stays_hands f m l v =
    let u : NodeWork = does (Performs (record { place = v.node.copies.applied; line = l })) v in
    let t : Stays u (hands f m l v) = cond_both (home_in (known f v.node) l.process.0 == m) _ _ (λ (z : NodeWork). Stays u z)
    (λ e. stays_if v.node.copies.applied l.process.0 l.reply (u.node.played l.process.0) u) (λ e. record { objects = refl; reads = λ i r act is reads. is }) in
    record { objects = t.objects; reads = t.reads }

stays_hands_all : (f : Frame) (m : ℕ) (ls : List Line) (v : NodeWork) → Stays v (hands_all f m ls v)
stays_hands_all f m [] v = stays v
stays_hands_all f m (l ∷ ls) v = stays_on v (hands f m l v) (hands_all f m ls (hands f m l v)) (stays_hands f m l v) (stays_hands_all f m ls (hands f m l v))

pub stays_call : (f : Frame) (m : ℕ) (x : Message) (v : NodeWork) → Stays v (performs_call f m x v)
stays_call f m x v =
    let u : NodeWork = becomes (record v.node { copies = after_single f.performs v.node.copies x }) v in
    stays_on v u (performs_call f m x v) (record { objects = refl; reads = λ i r act is reads. is }) (stays_hands_all f m (lines_single f.performs v.node.copies x) u)

stays_takes_call : (f : Frame) (m : ℕ) (x : Message) (v : NodeWork) → Stays v (takes_call f m x v)
stays_takes_call f m x v = cond_both (waits_here x v.node.copies.waits) _ _ (λ u. Stays v u) (λ e. stays v) (λ e. stays_call f m x v)

stays_asked : (f : Frame) (m : ℕ) (x : Message) (o : Option Given) (v : NodeWork) → Stays v (takes_asked f m x o v)
stays_asked f m x None v = stays_takes_call f m x v
stays_asked f m x (Some given) v = cond_both (nat_lt given.call.0 x.call.0) _ _ (λ u. Stays v u) (λ e. stays_takes_call f m x v)
    (λ e. cond_both (given.call.0 == x.call.0) _ _ (λ u. Stays v u) (λ d. record { objects = refl; reads = λ i r act is reads. is }) (λ d. stays v))

stays_hears : (place i : ℕ) (call : CallNo) (reply : Reply) (r : Played) (stage : Stage) (v : NodeWork) → Stays v (hears_as place i call reply r stage v)
stays_hears place i call reply r (Asking act) v = cond_both (call.0 == length r.replies) _ _ (λ u. Stays v u) (λ e. stays_plays i (receives place reply r) v computes) (λ e. stays v)
stays_hears place i call reply r Computing v = stays v
stays_hears place i call reply r (Acting act) v = stays v
stays_hears place i call reply r (Submitted act) v = stays v
stays_hears place i call reply r (Reading act) v = stays v
stays_hears place i call reply r (Over act) v = stays v

stays_hears_of : (place i : ℕ) (call : CallNo) (reply : Reply) (o : Option Played) (v : NodeWork) → Stays v (hears_of place i call reply o v)
stays_hears_of place i call reply None v = stays v
stays_hears_of place i call reply (Some r) v = stays_hears place i call reply r r.stage v

stays_takes : (f : Frame) (m : ℕ) (errand : Errand) (v : NodeWork) → Stays v (takes f m errand v)
stays_takes f m (Ask place x) v = stays_asked f m x (v.node.given x.process.0) v
stays_takes f m (Answer place i call reply) v = stays_hears_of place i.0 call reply (v.node.played i.0) v

stays_each : (f : Frame) (m : ℕ) (errands : List Errand) (v : NodeWork) → Stays v (takes_each f m errands v)
stays_each f m [] v = stays v
stays_each f m (errand ∷ errands) v =
    let u : NodeWork = if nat_le (place_of errand) v.node.copies.applied then takes f m errand v else holds errand v in
    stays_on v u (takes_each f m errands u)
    (cond_both (nat_le (place_of errand) v.node.copies.applied) _ _ (λ z. Stays v z) (λ e. stays_takes f m errand v) (λ e. record { objects = refl; reads = λ i r act is reads. is }))
    (stays_each f m errands u)

pub stays_reached : (f : Frame) (m : ℕ) (v : NodeWork) → Stays v (takes_reached f m v)
stays_reached f m v =
    let u : NodeWork = becomes (record v.node { held = [] }) v in
    cond_both v.node.member.outside _ _ (λ z. Stays v z) (λ e. stays v)
    (λ e. stays_on v u (takes_each f m v.node.held u) (record { objects = refl; reads = λ i r act is reads. is }) (stays_each f m v.node.held u))

pub stays_arrives : (errand : Errand) (v : NodeWork) → Stays v (arrives errand v)
stays_arrives errand v = cond_both (v.node.member.outside || is_held errand v.node.held) _ _ (λ z. Stays v z) (λ e. stays v) (λ e. record { objects = refl; reads = λ i r act is reads. is })

-- ---- a process that asks

pub stays_asks : (f : Frame) (m i : ℕ) (r : Played) (call : Suspended) (v : NodeWork) → Stays v (asks f m i r call v)
stays_asks f m i r call v =
    let u : NodeWork = plays i (moves_to (Asking (message_of call).action) r) v in
    stays_on v u (asks f m i r call v) (stays_plays i (moves_to (Asking (message_of call).action) r) v (λ act e. cc e))
    (cond_both (owner_in (known f v.node) call.object == m) _ _ (λ z. Stays u z) (λ e. stays_call f m (message_of call) u) (λ e. record { objects = refl; reads = λ j s act is reads. is }))

-- ---- a member catches up

pub blocked_caught : (f : Frame) (m : ℕ) (v : NodeWork) → Fresh v.node → AllBlocked f v.node → AllBlocked f (catches_up f m v).node
blocked_caught f m v fresh all =
    blocked_stays f (applies_all f m v) (catches_up f m v) (stays_reached f m (applies_all f m v)) (blocked_rounds f m v.node.member.waiting v fresh all)
