-- What a node does beside its group leaves its member and the group's past as they are, and sends none of the group's letters.
use Rattle.std.proofs.Common.{◌≡◌, ◌==◌, ℕ, zero, suc, List, [], ◌∷◌, Option, Some, None, refl, ◌∙◌, nat_lt, nat_le, ◌||◌, length}
use Rattle.std.proofs.lemmas.Bool.{cond_both}
use Rattle.orca_base.specs.declared.ids.CallNo.{CallNo}
use Rattle.value_core.specs.declared.action.Action.{Action}
use Rattle.value_core.specs.declared.action.Action.TheVariants as action
use Rattle.value_core.specs.declared.action.Line.{Line}
use Rattle.value_core.specs.declared.action.Reply.{Reply}
use Rattle.value_core.specs.declared.meaning.Tried.{Tried}
use Rattle.value_core.specs.declared.message.Message.{Message}
use Rattle.guard_queue.specs.Settles.{is_blocked}
use Rattle.guard_queue.specs.declared.queue.Suspended.{Suspended}
use Rattle.object_manager.specs.Singles.{after_single, lines_single}
use Rattle.object_manager.specs.State.{message_of}
use Rattle.group_rules.specs.Messages.{Group}
use Rattle.group_rules.specs.World.{Past}
use Rattle.world_rules.specs.Applying.{answers, begins, performs_read, tries_as, tries_of, tries_read, tries_reads}
use Rattle.world_rules.specs.Frame.{Frame}
use Rattle.world_rules.specs.Mail.{Errand, place_of}
use Rattle.world_rules.specs.Mail.Errand.{Ask, Answer}
use Rattle.world_rules.specs.Nodes.{Given, NodeWork, becomes, changes, does, if_played, known, past_after, plays}
use Rattle.world_rules.specs.Nodes.Deed.{Performs}
use Rattle.world_rules.specs.Owners.{arrives, hands, hands_all, hands_to, hears_as, hears_of, holds, is_held, performs_call, takes, takes_asked, takes_call, takes_each, takes_reached, waits_here}
use Rattle.world_rules.specs.Parts.{asks, asks_again, asks_again_at, asks_again_by, asks_again_of, asks_below, asks_owner, performs_all, reads}
use Rattle.world_rules.specs.Played.{Played, Stage, moves_to, receives}
use Rattle.world_rules.specs.Played.Stage.{Computing, Acting, Submitted, Reading, Asking, Over}
use Rattle.world_rules.specs.Processes.{Begun, home_in, owner_in}
pub use Rattle.world_law.specs.Moments.{IsErrand, Others}
use Rattle.world_law.specs.Moments.{sent_letters}

-- the member, what the group remembers, how many entries the copies applied, and which of the group's letters were sent, stay
pub record Still (g : Group Message) (m : ℕ) (v u : NodeWork) : Type 0 where
  pub member : u.node.member ≡ v.node.member
  pub past : (p : Past Message) → past_after g m u.deeds p ≡ past_after g m v.deeds p
  pub applied : u.node.copies.applied ≡ v.node.copies.applied
  pub letters : sent_letters u.deeds ≡ sent_letters v.deeds
  pub others : Others v.deeds → Others u.deeds

pub still : (g : Group Message) (m : ℕ) (v : NodeWork) → Still g m v v
still g m v = record { member = refl; past = λ p. refl; applied = refl; letters = refl; others = λ h. h }

pub still_on : {g : Group Message} {m : ℕ} {v u t : NodeWork} → Still g m v u → Still g m u t → Still g m v t
still_on one two = record {
  member = two.member ∙ one.member;
  past = λ p. two.past p ∙ one.past p;
  applied = two.applied ∙ one.applied;
  letters = two.letters ∙ one.letters;
  others = λ h. two.others (one.others h);
}

-- ---- processes

still_if : (g : Group Message) (m : ℕ) (change : Played → Played) (i : ℕ) (r : Option Played) (v : NodeWork) → Still g m v (if_played change i r v)
still_if g m change i None v = still g m v
still_if g m change i (Some r) v = record { member = refl; past = λ p. refl; applied = refl; letters = refl; others = λ h. h }

pub still_changes : (g : Group Message) (m : ℕ) (change : Played → Played) (i : ℕ) (v : NodeWork) → Still g m v (changes change i v)
still_changes g m change i v = still_if g m change i (v.node.played i) v

still_performs : (g : Group Message) (m i : ℕ) (r : Played) (act : Action) (t : Tried) (v : NodeWork) → Still g m v (performs_read i r act t v)
still_performs g m i r act t v = cond_both (is_blocked t) _ _ (λ u. Still g m v u) (λ e. still g m v)
    (λ e. record { member = refl; past = λ p. refl; applied = refl; letters = refl; others = λ h. h })

still_as : (f : Frame) (g : Group Message) (m i : ℕ) (r : Played) (stage : Stage) (v : NodeWork) → Still g m v (tries_as f i r stage v)
still_as f g m i r (Reading act) v = still_performs g m i r act _ v
still_as f g m i r Computing v = still g m v
still_as f g m i r (Acting act) v = still g m v
still_as f g m i r (Submitted act) v = still g m v
still_as f g m i r (Asking act) v = still g m v
still_as f g m i r (Over act) v = still g m v

still_of : (f : Frame) (g : Group Message) (m i : ℕ) (r : Option Played) (v : NodeWork) → Still g m v (tries_of f i r v)
still_of f g m i None v = still g m v
still_of f g m i (Some r) v = still_as f g m i r r.stage v

pub still_read : (f : Frame) (g : Group Message) (m i : ℕ) (v : NodeWork) → Still g m v (tries_read f i v)
still_read f g m i v = still_of f g m i (v.node.played i) v

pub still_reads : (f : Frame) (g : Group Message) (m n : ℕ) (v : NodeWork) → Still g m v (tries_reads f n v)
still_reads f g m zero v = still g m v
still_reads f g m (suc i) v = still_on (still_reads f g m i v) (still_read f g m i (tries_reads f i v))

pub still_answers : (g : Group Message) (m place : ℕ) (lines : List Line) (v : NodeWork) → Still g m v (answers place lines v)
still_answers g m place [] v = still g m v
still_answers g m place (l ∷ ls) v = still_on (still_changes g m (receives place l.reply) l.process.0 v)
    (still_answers g m place ls (changes (receives place l.reply) l.process.0 v))

pub still_begins : (g : Group Message) (m n i : ℕ) (processes : List Begun) (v : NodeWork) → Still g m v (begins n i processes v)
still_begins g m n i [] v = still g m v
still_begins g m n i (process ∷ processes) v = cond_both (process.home == n) _ _ (λ u. Still g m v u)
    (λ e. record { member = refl; past = λ p. refl; applied = refl; letters = refl; others = λ h. h }) (λ e. still g m v)

-- ---- single copies

still_hands_to : (g : Group Message) (m k home place : ℕ) (l : Line) (v : NodeWork) → Still g m v (hands_to k home place l v)
still_hands_to g m k home place l v = cond_both (home == k) _ _ (λ u. Still g m v u)
    (λ e. still_changes g m (receives place l.reply) l.process.0 v) (λ e. record { member = refl; past = λ p. refl; applied = refl; letters = refl; others = λ h. (tt, h) })

pub still_hands : (f : Frame) (g : Group Message) (m k : ℕ) (l : Line) (v : NodeWork) → Still g m v (hands f k l v)
still_hands f g m k l v =
    let u : NodeWork = does (Performs (record { place = v.node.copies.applied; line = l })) v in
    still_on (record { member = refl; past = λ p. refl; applied = refl; letters = refl; others = λ h. h })
    (still_hands_to g m k (home_in (known f v.node) l.process.0) v.node.copies.applied l u)

pub still_hands_all : (f : Frame) (g : Group Message) (m k : ℕ) (ls : List Line) (v : NodeWork) → Still g m v (hands_all f k ls v)
still_hands_all f g m k [] v = still g m v
still_hands_all f g m k (l ∷ ls) v = still_on (still_hands f g m k l v) (still_hands_all f g m k ls (hands f k l v))

pub still_call : (f : Frame) (g : Group Message) (m k : ℕ) (x : Message) (v : NodeWork) → Still g m v (performs_call f k x v)
still_call f g m k x v =
    let u : NodeWork = becomes (record v.node { copies = after_single f.performs v.node.copies x }) v in
    still_on (record { member = refl; past = λ p. refl; applied = refl; letters = refl; others = λ h. h })
    (still_hands_all f g m k (lines_single f.performs v.node.copies x) u)

still_takes_call : (f : Frame) (g : Group Message) (m k : ℕ) (x : Message) (v : NodeWork) → Still g m v (takes_call f k x v)
still_takes_call f g m k x v = cond_both (waits_here x v.node.copies.waits) _ _ (λ u. Still g m v u) (λ e. still g m v) (λ e. still_call f g m k x v)

still_asked : (f : Frame) (g : Group Message) (m k : ℕ) (x : Message) (given : Option Given) (v : NodeWork) → Still g m v (takes_asked f k x given v)
still_asked f g m k x None v = still_takes_call f g m k x v
still_asked f g m k x (Some given) v = cond_both (nat_lt given.call.0 x.call.0) _ _ (λ u. Still g m v u) (λ e. still_takes_call f g m k x v)
    (λ e. cond_both (given.call.0 == x.call.0) _ _ (λ u. Still g m v u) (λ d. record { member = refl; past = λ p. refl; applied = refl; letters = refl; others = λ h. (tt, h) }) (λ d. still g m v))

still_hears_as : (g : Group Message) (m place i : ℕ) (call : CallNo) (reply : Reply) (r : Played) (stage : Stage) (v : NodeWork) →
    Still g m v (hears_as place i call reply r stage v)
still_hears_as g m place i call reply r (Asking act) v = cond_both (call.0 == length r.replies) _ _ (λ u. Still g m v u)
    (λ e. record { member = refl; past = λ p. refl; applied = refl; letters = refl; others = λ h. h }) (λ e. still g m v)
still_hears_as g m place i call reply r Computing v = still g m v
still_hears_as g m place i call reply r (Acting act) v = still g m v
still_hears_as g m place i call reply r (Submitted act) v = still g m v
still_hears_as g m place i call reply r (Reading act) v = still g m v
still_hears_as g m place i call reply r (Over act) v = still g m v

still_hears : (g : Group Message) (m place i : ℕ) (call : CallNo) (reply : Reply) (r : Option Played) (v : NodeWork) →
    Still g m v (hears_of place i call reply r v)
still_hears g m place i call reply None v = still g m v
still_hears g m place i call reply (Some r) v = still_hears_as g m place i call reply r r.stage v

pub still_takes : (f : Frame) (g : Group Message) (m k : ℕ) (errand : Errand) (v : NodeWork) → Still g m v (takes f k errand v)
still_takes f g m k (Ask place x) v = still_asked f g m k x (v.node.given x.process.0) v
still_takes f g m k (Answer place i call reply) v = still_hears g m place i.0 call reply (v.node.played i.0) v

pub still_each : (f : Frame) (g : Group Message) (m k : ℕ) (errands : List Errand) (v : NodeWork) → Still g m v (takes_each f k errands v)
still_each f g m k [] v = still g m v
still_each f g m k (errand ∷ errands) v = still_on
    (cond_both (nat_le (place_of errand) v.node.copies.applied) (takes f k errand v) (holds errand v) (λ u. Still g m v u)
    (λ e. still_takes f g m k errand v) (λ e. record { member = refl; past = λ p. refl; applied = refl; letters = refl; others = λ h. h }))
    (still_each f g m k errands _)

pub still_reached : (f : Frame) (g : Group Message) (m k : ℕ) (v : NodeWork) → Still g m v (takes_reached f k v)
still_reached f g m k v = cond_both v.node.member.outside _ _ (λ u. Still g m v u) (λ e. still g m v)
    (λ e. still_on (record { member = refl; past = λ p. refl; applied = refl; letters = refl; others = λ h. h }) (still_each f g m k v.node.held (becomes (record v.node { held = [] }) v)))

pub still_arrives : (g : Group Message) (m : ℕ) (errand : Errand) (v : NodeWork) → Still g m v (arrives errand v)
still_arrives g m errand v = cond_both (v.node.member.outside || is_held errand v.node.held) _ _ (λ u. Still g m v u) (λ e. still g m v)
    (λ e. record { member = refl; past = λ p. refl; applied = refl; letters = refl; others = λ h. h })

-- ---- parts of events

pub still_performed : (g : Group Message) (m place : ℕ) (lines : List Line) (v : NodeWork) → Still g m v (performs_all place lines v)
still_performed g m place [] v = still g m v
still_performed g m place (l ∷ ls) v = still_on (record { member = refl; past = λ p. refl; applied = refl; letters = refl; others = λ h. h })
    (still_performed g m place ls (does (Performs (record { place = place; line = l })) v))

pub still_reading : (f : Frame) (g : Group Message) (m i : ℕ) (r : Played) (act : Action) (v : NodeWork) → Still g m v (reads f i r act v)
still_reading f g m i r act v = still_on (record { member = refl; past = λ p. refl; applied = refl; letters = refl; others = λ h. h })
    (still_read f g m i (plays i (moves_to (Reading act) r) v))

pub still_asks : (f : Frame) (g : Group Message) (m k i : ℕ) (r : Played) (call : Suspended) (v : NodeWork) → Still g m v (asks f k i r call v)
still_asks f g m k i r call v =
    let u : NodeWork = plays i (moves_to (Asking (message_of call).action) r) v in
    still_on (record { member = refl; past = λ p. refl; applied = refl; letters = refl; others = λ h. h })
    (cond_both (owner_in (known f v.node) call.object == k) _ _ (λ t. Still g m u t) (λ e. still_call f g m k (message_of call) u)
    (λ e. record { member = refl; past = λ p. refl; applied = refl; letters = refl; others = λ h. (tt, h) }))

still_owner : (f : Frame) (g : Group Message) (m k : ℕ) (r : Played) (call : Suspended) (v : NodeWork) → Still g m v (asks_owner f k r call v)
still_owner f g m k r call v = cond_both (owner_in (known f v.node) call.object == k) _ _ (λ u. Still g m v u) (λ e. still g m v)
    (λ e. record { member = refl; past = λ p. refl; applied = refl; letters = refl; others = λ h. (tt, h) })

still_again_by : (f : Frame) (g : Group Message) (m k i : ℕ) (r : Played) (act : Action) (v : NodeWork) → Still g m v (asks_again_by f k i r act v)
still_again_by f g m k i r (action.Call kind op object args) v = still_owner f g m k r _ v
still_again_by f g m k i r (action.Make kind object) v = still g m v
still_again_by f g m k i r (action.Fork text args place_on) v = still g m v
still_again_by f g m k i r action.Ended v = still g m v
still_again_by f g m k i r (action.Faulted fault) v = still g m v

still_again_at : (f : Frame) (g : Group Message) (m k i : ℕ) (r : Played) (stage : Stage) (v : NodeWork) → Still g m v (asks_again_at f k i r stage v)
still_again_at f g m k i r (Asking act) v = still_again_by f g m k i r act v
still_again_at f g m k i r Computing v = still g m v
still_again_at f g m k i r (Acting act) v = still g m v
still_again_at f g m k i r (Submitted act) v = still g m v
still_again_at f g m k i r (Reading act) v = still g m v
still_again_at f g m k i r (Over act) v = still g m v

pub still_again_of : (f : Frame) (g : Group Message) (m k i : ℕ) (r : Option Played) (v : NodeWork) → Still g m v (asks_again_of f k i r v)
still_again_of f g m k i None v = still g m v
still_again_of f g m k i (Some r) v = still_again_at f g m k i r r.stage v

still_below : (f : Frame) (g : Group Message) (m k n : ℕ) (v : NodeWork) → Still g m v (asks_below f k n v)
still_below f g m k zero v = still g m v
still_below f g m k (suc i) v = still_on (still_below f g m k i v)
    (still_again_of f g m k i ((asks_below f k i v).node.played i) (asks_below f k i v))

pub still_again : (f : Frame) (g : Group Message) (m k : ℕ) (v : NodeWork) → Still g m v (asks_again f k v)
still_again f g m k v = cond_both v.node.member.outside _ _ (λ u. Still g m v u) (λ e. still g m v) (λ e. still_below f g m k v.node.copies.processes v)
