-- Processes go on, in each act of a member.
use Rattle.std.proofs.Common.{◌≡◌, ◌==◌, ◌||◌, ◌+◌, if◌then◌else◌, ℕ, zero, suc, List, [], ◌∷◌, ◌++◌, length, length-append, Option, Some, None, append_assoc, append-nil, refl, sym, ap, ◌∙◌, arith, subst, nat_lt, nat_le}
use Rattle.std.proofs.lemmas.Bool.{cond_both}
use Rattle.orca_base.specs.declared.ids.CallNo.{CallNo}
use Rattle.value_core.specs.declared.action.Action.{Action}
use Rattle.value_core.specs.declared.action.Action.TheVariants as action
use Rattle.value_core.specs.declared.action.Line.{Line}
use Rattle.value_core.specs.declared.action.Reply.{Reply}
use Rattle.value_core.specs.declared.meaning.Tried.{Tried}
use Rattle.value_core.specs.declared.message.Message.{Message}
use Rattle.guard_queue.specs.Settles.{is_blocked}
use Rattle.guard_queue.specs.declared.queue.Suspended.{Suspended}
use Rattle.object_manager.specs.Singles.{after_single, lines_single}
use Rattle.world_rules.specs.Applying.{answers, performs_read, tries_as, tries_of, tries_read, tries_reads}
use Rattle.world_rules.specs.Bursts.{read_line}
use Rattle.world_rules.specs.Frame.{Frame}
use Rattle.world_rules.specs.Mail.{Errand, place_of}
use Rattle.world_rules.specs.Mail.Errand.{Ask, Answer}
use Rattle.world_rules.specs.Nodes.{Given, NodeWork, becomes, changes, does, if_played, known, plays}
use Rattle.world_rules.specs.Nodes.Deed.{Performs}
use Rattle.world_rules.specs.Owners.{arrives, hands, hands_all, hands_to, hears_as, hears_of, holds, is_held, performs_call, takes, takes_asked, takes_call, takes_each, takes_reached, waits_here}
use Rattle.world_rules.specs.Parts.{asks_again, asks_again_at, asks_again_by, asks_again_of, asks_below, asks_owner}
use Rattle.world_rules.specs.Played.{Played, Stage, moves_to, next_call, receives}
use Rattle.world_rules.specs.Played.Stage.{Computing, Acting, Submitted, Reading, Asking, Over}
use Rattle.world_rules.specs.Processes.{home_in, owner_in}
use Rattle.world_law.specs.Going.{Later}
use Rattle.world_law.proofs.Maps.{at_both}

-- ---- one process

pub later_same : (r : Played) → Later r r
later_same r = record {
  text = refl;
  args = refl;
  replies = ([], sym (append-nil r.replies));
  turns = omega arith;
  place = λ e. refl;
  asks = λ e act is. is;
}

-- as many replies as there are more
longer : (r t : Played) → (h : Later r t) → length t.replies ≡ length r.replies + length h.replies.0
longer r t h = ap length h.replies.1 ∙ length-append r.replies h.replies.0

pub later_on : (r s t : Played) → Later r s → Later s t → Later r t
later_on r s t one two =
    let a = longer r s one in
    let b = longer s t two in
    record {
      text = two.text ∙ one.text;
      args = two.args ∙ one.args;
      replies = (one.replies.0 ++ two.replies.0, two.replies.1 ∙ ap (λ xs. xs ++ two.replies.0) one.replies.1 ∙ append_assoc r.replies one.replies.0 two.replies.0);
      turns = omega (arith, one.turns, two.turns);
      place = λ e. two.place (omega (arith, a, b, e)) ∙ one.place (omega (arith, a, b, e));
      asks = λ e act is. two.asks (omega (arith, a, b, e)) act (one.asks (omega (arith, a, b, e)) act is);
    }

-- one more reply isn't as many
no_more : (xs : List Reply) (reply : Reply) → length (xs ++ reply ∷ []) ≡ length xs → ⊥
no_more xs reply e = let f = length-append xs (reply ∷ []) in omega (arith, e, f)

pub later_receives : (place : ℕ) (reply : Reply) (r : Played) → Later r (receives place reply r)
later_receives place reply r = record {
  text = refl;
  args = refl;
  replies = (reply ∷ [], refl);
  turns = omega arith;
  place = λ e. absurd (no_more r.replies reply e);
  asks = λ e act is. absurd (no_more r.replies reply e);
}

-- a process at an action that wasn't carried out asks nobody
pub later_moves : (stage : Stage) (act : Action) (r : Played) → r.stage ≡ Acting act → Later r (moves_to stage r)
later_moves stage act r is = record {
  text = refl;
  args = refl;
  replies = ([], sym (append-nil r.replies));
  turns = omega arith;
  place = λ e. refl;
  asks = λ e other asks. let f : Acting act ≡ Asking other = sym is ∙ asks in cc f;
}

-- ---- a node at work

pub record Goes (v u : NodeWork) : Type 0 where
  pub on : (i : ℕ) (r : Played) → v.node.played i ≡ Some r → (t : Played) × (u.node.played i ≡ Some t) × Later r t
  pub none : (i : ℕ) → v.node.played i ≡ None → u.node.played i ≡ None
  pub count : u.node.copies.processes ≡ v.node.copies.processes

pub same : (v u : NodeWork) → u.node.played ≡ v.node.played → u.node.copies.processes ≡ v.node.copies.processes → Goes v u
same v u played count = record {
  on = λ i r is. (r, ap (λ p. p i) played ∙ is, later_same r);
  none = λ i is. ap (λ p. p i) played ∙ is;
  count = count;
}

pub idles : (v : NodeWork) → Goes v v
idles v = same v v refl refl

pub goes_on : {v u t : NodeWork} → Goes v u → Goes u t → Goes v t
goes_on one two = record {
  on = λ i r is.
      let a = one.on i r is in
      let b = two.on i a.0 a.1 in
      (b.0, b.1, later_on r a.0 b.0 a.2 b.2);
  none = λ i is. two.none i (one.none i is);
  count = two.count ∙ one.count;
}

-- a process that is here changes
pub goes_plays : (i : ℕ) (r t : Played) (v : NodeWork) → v.node.played i ≡ Some r → Later r t → Goes v (plays i t v)
goes_plays i r t v here later = record {
  on = λ j s is. at_both v.node.played i (Some t) j (λ z. (x : Played) × (z ≡ Some x) × Later s x)
      (λ e.
      let found : Some r ≡ Some s = sym here ∙ ap v.node.played (sym e) ∙ is in
      let f : r ≡ s = cc in
      (t, refl, subst (λ (z : Played). Later z t) f later))
      (λ no. (s, is, later_same s));
  none = λ j is. at_both v.node.played i (Some t) j (λ z. z ≡ None)
      (λ e. let found : None ≡ Some r = sym is ∙ ap v.node.played e ∙ here in cc found)
      (λ no. is);
  count = refl;
}

pub goes_if : (change : Played → Played) (i : ℕ) (o : Option Played) (v : NodeWork) → ((r : Played) → Later r (change r)) → v.node.played i ≡ o →
    Goes v (if_played change i o v)
goes_if change i None v later is = idles v
goes_if change i (Some r) v later is = goes_plays i r (change r) v is (later r)

pub goes_changes : (place : ℕ) (reply : Reply) (i : ℕ) (v : NodeWork) → Goes v (changes (receives place reply) i v)
goes_changes place reply i v = goes_if (receives place reply) i (v.node.played i) v (later_receives place reply) refl

-- ---- reads and entries

pub goes_performs : (i : ℕ) (r : Played) (act : Action) (t : Tried) (v : NodeWork) → v.node.played i ≡ Some r → Goes v (performs_read i r act t v)
goes_performs i r act t v here = cond_both (is_blocked t) _ _ (Goes v) (λ e. idles v)
    (λ e.
    let line : Line = read_line (record { 0 = i }) r act t in
    let u : NodeWork = does (Performs (record { place = v.node.copies.applied; line = line })) v in
    goes_on (same v u refl refl) (goes_plays i r (receives v.node.copies.applied line.reply r) u here (later_receives v.node.copies.applied line.reply r)))

pub goes_as : (f : Frame) (i : ℕ) (r : Played) (stage : Stage) (v : NodeWork) → v.node.played i ≡ Some r → Goes v (tries_as f i r stage v)
goes_as f i r (Reading act) v here = goes_performs i r act _ v here
goes_as f i r Computing v here = idles v
goes_as f i r (Acting act) v here = idles v
goes_as f i r (Submitted act) v here = idles v
goes_as f i r (Asking act) v here = idles v
goes_as f i r (Over act) v here = idles v

pub goes_of : (f : Frame) (i : ℕ) (o : Option Played) (v : NodeWork) → v.node.played i ≡ o → Goes v (tries_of f i o v)
goes_of f i None v is = idles v
goes_of f i (Some r) v is = goes_as f i r r.stage v is

pub goes_read : (f : Frame) (i : ℕ) (v : NodeWork) → Goes v (tries_read f i v)
goes_read f i v = goes_of f i (v.node.played i) v refl

pub goes_reads : (f : Frame) (n : ℕ) (v : NodeWork) → Goes v (tries_reads f n v)
goes_reads f zero v = idles v
goes_reads f (suc i) v = goes_on (goes_reads f i v) (goes_read f i (tries_reads f i v))

pub goes_answers : (place : ℕ) (lines : List Line) (v : NodeWork) → Goes v (answers place lines v)
goes_answers place [] v = idles v
goes_answers place (l ∷ ls) v = goes_on (goes_changes place l.reply l.process.0 v) (goes_answers place ls (changes (receives place l.reply) l.process.0 v))

-- ---- single copies

pub goes_hands_to : (m home place : ℕ) (l : Line) (v : NodeWork) → Goes v (hands_to m home place l v)
goes_hands_to m home place l v = cond_both (home == m) _ _ (Goes v) (λ e. goes_changes place l.reply l.process.0 v) (λ e. same v _ refl refl)

pub goes_hands : (f : Frame) (m : ℕ) (l : Line) (v : NodeWork) → Goes v (hands f m l v)
goes_hands f m l v =
    let u : NodeWork = does (Performs (record { place = v.node.copies.applied; line = l })) v in
    goes_on (same v u refl refl) (goes_hands_to m (home_in (known f v.node) l.process.0) v.node.copies.applied l u)

pub goes_hands_all : (f : Frame) (m : ℕ) (ls : List Line) (v : NodeWork) → Goes v (hands_all f m ls v)
goes_hands_all f m [] v = idles v
goes_hands_all f m (l ∷ ls) v = goes_on (goes_hands f m l v) (goes_hands_all f m ls (hands f m l v))

pub goes_call : (f : Frame) (m : ℕ) (x : Message) (v : NodeWork) → Goes v (performs_call f m x v)
goes_call f m x v =
    let u : NodeWork = becomes (record v.node { copies = after_single f.performs v.node.copies x }) v in
    goes_on (same v u refl refl) (goes_hands_all f m (lines_single f.performs v.node.copies x) u)

pub goes_takes_call : (f : Frame) (m : ℕ) (x : Message) (v : NodeWork) → Goes v (takes_call f m x v)
goes_takes_call f m x v = cond_both (waits_here x v.node.copies.waits) _ _ (Goes v) (λ e. idles v) (λ e. goes_call f m x v)

pub goes_asked : (f : Frame) (m : ℕ) (x : Message) (given : Option Given) (v : NodeWork) → Goes v (takes_asked f m x given v)
goes_asked f m x None v = goes_takes_call f m x v
goes_asked f m x (Some given) v = cond_both (nat_lt given.call.0 x.call.0) _ _ (Goes v) (λ e. goes_takes_call f m x v)
    (λ e. cond_both (given.call.0 == x.call.0) _ _ (Goes v) (λ d. same v _ refl refl) (λ d. idles v))

pub goes_hears_as : (place i : ℕ) (call : CallNo) (reply : Reply) (r : Played) (stage : Stage) (v : NodeWork) → v.node.played i ≡ Some r →
    Goes v (hears_as place i call reply r stage v)
goes_hears_as place i call reply r (Asking act) v here = cond_both (call.0 == length r.replies) _ _ (Goes v)
    (λ e. goes_plays i r (receives place reply r) v here (later_receives place reply r)) (λ e. idles v)
goes_hears_as place i call reply r Computing v here = idles v
goes_hears_as place i call reply r (Acting act) v here = idles v
goes_hears_as place i call reply r (Submitted act) v here = idles v
goes_hears_as place i call reply r (Reading act) v here = idles v
goes_hears_as place i call reply r (Over act) v here = idles v

pub goes_hears : (place i : ℕ) (call : CallNo) (reply : Reply) (o : Option Played) (v : NodeWork) → v.node.played i ≡ o →
    Goes v (hears_of place i call reply o v)
goes_hears place i call reply None v is = idles v
goes_hears place i call reply (Some r) v is = goes_hears_as place i call reply r r.stage v is

pub goes_takes : (f : Frame) (m : ℕ) (errand : Errand) (v : NodeWork) → Goes v (takes f m errand v)
goes_takes f m (Ask place x) v = goes_asked f m x (v.node.given x.process.0) v
goes_takes f m (Answer place i call reply) v = goes_hears place i.0 call reply (v.node.played i.0) v refl

pub goes_each : (f : Frame) (m : ℕ) (errands : List Errand) (v : NodeWork) → Goes v (takes_each f m errands v)
goes_each f m [] v = idles v
goes_each f m (errand ∷ errands) v =
    goes_on
    (cond_both (nat_le (place_of errand) v.node.copies.applied) (takes f m errand v) (holds errand v) (Goes v)
    (λ e. goes_takes f m errand v) (λ e. same v (holds errand v) refl refl))
    (goes_each f m errands (if nat_le (place_of errand) v.node.copies.applied then takes f m errand v else holds errand v))

pub goes_reached : (f : Frame) (m : ℕ) (v : NodeWork) → Goes v (takes_reached f m v)
goes_reached f m v = cond_both v.node.member.outside _ _ (Goes v) (λ e. idles v)
    (λ e. goes_on (same v (becomes (record v.node { held = [] }) v) refl refl) (goes_each f m v.node.held (becomes (record v.node { held = [] }) v)))

pub goes_arrives : (errand : Errand) (v : NodeWork) → Goes v (arrives errand v)
goes_arrives errand v = cond_both (v.node.member.outside || is_held errand v.node.held) _ _ (Goes v) (λ e. idles v)
    (λ e. same v (holds errand v) refl refl)

-- ---- Asks again

pub goes_owner : (f : Frame) (m : ℕ) (r : Played) (call : Suspended) (v : NodeWork) → Goes v (asks_owner f m r call v)
goes_owner f m r call v = cond_both (owner_in (known f v.node) call.object == m) _ _ (Goes v) (λ e. idles v) (λ e. same v _ refl refl)

pub goes_again_by : (f : Frame) (m i : ℕ) (r : Played) (act : Action) (v : NodeWork) → Goes v (asks_again_by f m i r act v)
goes_again_by f m i r (action.Call kind op object args) v =
    let call : Suspended = record { process = record { 0 = i }; call = next_call r; kind = kind; op = op; object = object; args = args } in
    goes_owner f m r call v
goes_again_by f m i r (action.Make kind object) v = idles v
goes_again_by f m i r (action.Fork text args place_on) v = idles v
goes_again_by f m i r action.Ended v = idles v
goes_again_by f m i r (action.Faulted fault) v = idles v

pub goes_again_at : (f : Frame) (m i : ℕ) (r : Played) (stage : Stage) (v : NodeWork) → Goes v (asks_again_at f m i r stage v)
goes_again_at f m i r (Asking act) v = goes_again_by f m i r act v
goes_again_at f m i r Computing v = idles v
goes_again_at f m i r (Acting act) v = idles v
goes_again_at f m i r (Submitted act) v = idles v
goes_again_at f m i r (Reading act) v = idles v
goes_again_at f m i r (Over act) v = idles v

pub goes_again_of : (f : Frame) (m i : ℕ) (o : Option Played) (v : NodeWork) → Goes v (asks_again_of f m i o v)
goes_again_of f m i None v = idles v
goes_again_of f m i (Some r) v = goes_again_at f m i r r.stage v

pub goes_below : (f : Frame) (m n : ℕ) (v : NodeWork) → Goes v (asks_below f m n v)
goes_below f m zero v = idles v
goes_below f m (suc i) v = goes_on (goes_below f m i v) (goes_again_of f m i ((asks_below f m i v).node.played i) (asks_below f m i v))

pub goes_again : (f : Frame) (m : ℕ) (v : NodeWork) → Goes v (asks_again f m v)
goes_again f m v = cond_both v.node.member.outside _ _ (Goes v) (λ e. idles v) (λ e. goes_below f m v.node.copies.processes v)
