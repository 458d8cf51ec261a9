-- In a member's part each of its processes stays, gains replies, or begins; but for the one whose action is carried out.
use Rattle.std.proofs.Common.{◌≡◌, ◌==◌, ◌≤◌, ◌<◌, ◌⊎◌, inl, inr, Bool, ℕ, zero, suc, List, [], ◌∷◌, ◌++◌, Option, Some, None, refl, sym, ap, ◌∙◌, subst, arith, nat_lt, nat_le, ◌||◌, length}
use Rattle.std.proofs.lemmas.Bool.{cond_both}
use Rattle.orca_base.specs.declared.ids.CallNo.{CallNo}
use Rattle.value_core.specs.declared.action.Action.{Action}
use Rattle.value_core.specs.declared.action.Line.{Line}
use Rattle.value_core.specs.declared.action.Reply.{Reply}
use Rattle.value_core.specs.declared.meaning.Tried.{Tried}
use Rattle.value_core.specs.declared.message.Message.{Message}
use Rattle.value_core.specs.Meaning.{Performs}
use Rattle.guard_queue.specs.Settles.{is_blocked}
use Rattle.object_manager.specs.After.{Copied}
use Rattle.object_manager.specs.Singles.{after_single, lines_single}
use Rattle.book_law.specs.Members.{after_entry}
use Rattle.book_law.specs.Passes.{Test, is_passed, lines_after}
use Rattle.group_rules.specs.Member.{Waiting}
use Rattle.group_rules.specs.Sets.{with_at}
use Rattle.group_rules.specs.Work.{Work}
use Rattle.world_rules.specs.Applying.{answers, applies, applies_all, applies_each, applies_one, applies_with, begins, copies_take, due_entries, passes_limit, performs_read, round, rounds, tries_as, tries_of, tries_read, tries_reads}
use Rattle.world_rules.specs.Bursts.{read_line}
use Rattle.world_rules.specs.Frame.{Frame}
use Rattle.world_rules.specs.Mail.{Errand, place_of}
use Rattle.world_rules.specs.Mail.Errand.{Ask, Answer}
use Rattle.world_rules.specs.Nodes.{Given, NodeWork, becomes, changes, does, if_played, joins, known, plays}
use Rattle.world_rules.specs.Nodes.Deed.{Performs as PerformsDeed}
use Rattle.world_rules.specs.Owners.{arrives, hands, hands_all, hands_to, hears_as, hears_of, holds, is_held, performs_call, takes, takes_asked, takes_call, takes_each, takes_reached, waits_here}
use Rattle.value_core.specs.declared.action.Action.TheVariants as action
use Rattle.guard_queue.specs.declared.queue.Suspended.{Suspended}
use Rattle.world_rules.specs.Parts.{asks_again, asks_again_at, asks_again_by, asks_again_of, asks_below, asks_owner, catches_up}
use Rattle.world_rules.specs.Played.{Played, Stage, newborn, receives}
use Rattle.world_rules.specs.Played.Stage.{Computing, Acting, Submitted, Reading, Asking, Over}
use Rattle.world_rules.specs.Processes.{Begun, begun_by, home_in, owner_in, singles_of}
use Rattle.world_law.proofs.Maps.{at_both}

-- ---- the relation

-- it received more replies, and computes on
pub record Gains (o p : Option Played) : Type 0 where
  pub before : Played
  pub was : o ≡ Some before
  pub after : Played
  pub is : p ≡ Some after
  pub more : length before.replies < length after.replies
  pub turns : before.turns ≤ after.turns
  pub computes : after.stage ≡ Computing

-- its number isn't below the first that was free, and it computes
pub record Begins (free i : ℕ) (p : Option Played) : Type 0 where
  pub late : free ≤ i
  pub after : Played
  pub is : p ≡ Some after
  pub computes : after.stage ≡ Computing

-- it stays, or gains replies, or begins
abbrev pub Onward : ℕ → ℕ → Option Played → Option Played → Type 0
Onward free i o p = (p ≡ o) ⊎ (Gains o p ⊎ Begins free i p)

-- so it is with each process, and processes are counted on
pub record AreOnward (v u : NodeWork) : Type 0 where
  pub more : v.node.copies.processes ≤ u.node.copies.processes
  pub each : (i : ℕ) → Onward v.node.copies.processes i (v.node.played i) (u.node.played i)

pub stay : (v u : NodeWork) → u.node.copies.processes ≡ v.node.copies.processes → u.node.played ≡ v.node.played → AreOnward v u
stay v u count played = record { more = omega (arith, count); each = λ i. inl (ap (λ (p : ℕ → Option Played). p i) played) }

abbrev turns_in : Option Played → ℕ
turns_in None = 0
turns_in (Some r) = r.turns

abbrev replies_in : Option Played → ℕ
replies_in None = 0
replies_in (Some r) = length r.replies

onward_one : (free freer i : ℕ) (o p q : Option Played) → free ≤ freer → Onward free i o p → Onward freer i p q → Onward free i o q
onward_one free freer i o p q le (inl e) (inl d) = inl (d ∙ e)
onward_one free freer i o p q le (inl e) (inr (inl g)) = inr (inl (record { before = g.before; was = sym e ∙ g.was; after = g.after; is = g.is; more = g.more; turns = g.turns; computes = g.computes }))
onward_one free freer i o p q le one (inr (inr b)) = inr (inr (record { late = omega (arith, le, b.late); after = b.after; is = b.is; computes = b.computes }))
onward_one free freer i o p q le (inr (inl g)) (inl d) = inr (inl (record { before = g.before; was = g.was; after = g.after; is = d ∙ g.is; more = g.more; turns = g.turns; computes = g.computes }))
onward_one free freer i o p q le (inr (inl g)) (inr (inl h)) =
    let e : Some h.before ≡ Some g.after = sym h.was ∙ g.is in
    let n : length h.before.replies ≡ length g.after.replies = ap replies_in e in
    inr (inl (record { before = g.before; was = g.was; after = h.after; is = h.is; more = omega (arith, g.more, h.more, n); turns = (let t : h.before.turns ≡ g.after.turns = ap turns_in e in omega (arith, g.turns, h.turns, t)); computes = h.computes }))
onward_one free freer i o p q le (inr (inr b)) (inl d) = inr (inr (record { late = b.late; after = b.after; is = d ∙ b.is; computes = b.computes }))
onward_one free freer i o p q le (inr (inr b)) (inr (inl h)) = inr (inr (record { late = b.late; after = h.after; is = h.is; computes = h.computes }))

pub on_on : {v u t : NodeWork} → AreOnward v u → AreOnward u t → AreOnward v t
on_on {v} {u} {t} one two = record {
  more = omega (arith, one.more, two.more);
  each = λ i. onward_one v.node.copies.processes u.node.copies.processes i (v.node.played i) (u.node.played i) (t.node.played i) one.more (one.each i) (two.each i);
}

length_more : (xs : List Reply) (x : Reply) → length xs < length (xs ++ x ∷ [])
length_more [] x = omega arith
length_more (y ∷ xs) x = let n = length_more xs x in omega (arith, n)

-- process i plays on so
pub on_plays : (v u : NodeWork) (i : ℕ) (r : Played) → u.node.copies.processes ≡ v.node.copies.processes →
    u.node.played ≡ with_at v.node.played i (Some r) → Onward v.node.copies.processes i (v.node.played i) (Some r) → AreOnward v u
on_plays v u i r count played here = record {
  more = omega (arith, count);
  each = λ k. subst (λ (p : ℕ → Option Played). Onward v.node.copies.processes k (v.node.played k) (p k)) (sym played)
      (at_both v.node.played i (Some r) k (λ o. Onward v.node.copies.processes k (v.node.played k) o)
      (λ e. subst (λ (j : ℕ). Onward v.node.copies.processes j (v.node.played j) (Some r)) (sym e) here) (λ no. inl refl));
}

receiving : (free i place : ℕ) (r : Played) (reply : Reply) (o : Option Played) → o ≡ Some r → Onward free i o (Some (receives place reply r))
receiving free i place r reply o is =
    inr (inl (record { before = r; was = is; after = receives place reply r; is = refl; more = length_more r.replies reply; turns = omega arith; computes = refl }))

-- ---- processes

on_if : (place : ℕ) (reply : Reply) (i : ℕ) (r : Option Played) (v : NodeWork) → v.node.played i ≡ r → AreOnward v (if_played (receives place reply) i r v)
on_if place reply i None v is = stay v v refl refl
on_if place reply i (Some r) v is = on_plays v (plays i (receives place reply r) v) i (receives place reply r) refl refl
    (receiving v.node.copies.processes i place r reply (v.node.played i) is)

on_changes : (place : ℕ) (reply : Reply) (i : ℕ) (v : NodeWork) → AreOnward v (changes (receives place reply) i v)
on_changes place reply i v = on_if place reply i (v.node.played i) v refl

on_performs : (i : ℕ) (r : Played) (act : Action) (t : Tried) (v : NodeWork) → v.node.played i ≡ Some r → AreOnward v (performs_read i r act t v)
on_performs i r act t v is = cond_both (is_blocked t) _ _ (λ u. AreOnward v u) (λ e. stay v v refl refl)
    (λ e.
    let line : Line = read_line (record { 0 = i }) r act t in
    let n : ℕ = v.node.copies.applied in
    on_plays v (plays i (receives n line.reply r) (does (PerformsDeed (record { place = n; line = line })) v)) i (receives n line.reply r) refl refl
    (receiving v.node.copies.processes i n r line.reply (v.node.played i) is))

on_as : (f : Frame) (i : ℕ) (r : Played) (stage : Stage) (v : NodeWork) → v.node.played i ≡ Some r → AreOnward v (tries_as f i r stage v)
on_as f i r (Reading act) v is = on_performs i r act _ v is
on_as f i r Computing v is = stay v v refl refl
on_as f i r (Acting act) v is = stay v v refl refl
on_as f i r (Submitted act) v is = stay v v refl refl
on_as f i r (Asking act) v is = stay v v refl refl
on_as f i r (Over act) v is = stay v v refl refl

on_of : (f : Frame) (i : ℕ) (r : Option Played) (v : NodeWork) → v.node.played i ≡ r → AreOnward v (tries_of f i r v)
on_of f i None v is = stay v v refl refl
on_of f i (Some r) v is = on_as f i r r.stage v is

pub on_read : (f : Frame) (i : ℕ) (v : NodeWork) → AreOnward v (tries_read f i v)
on_read f i v = on_of f i (v.node.played i) v refl

on_reads : (f : Frame) (n : ℕ) (v : NodeWork) → AreOnward v (tries_reads f n v)
on_reads f zero v = stay v v refl refl
on_reads f (suc i) v = on_on (on_reads f i v) (on_read f i (tries_reads f i v))

on_answers : (place : ℕ) (lines : List Line) (v : NodeWork) → AreOnward v (answers place lines v)
on_answers place [] v = stay v v refl refl
on_answers place (l ∷ ls) v = on_on (on_changes place l.reply l.process.0 v) (on_answers place ls (changes (receives place l.reply) l.process.0 v))

-- a process begins whose number wasn't below those counted at the start
on_begins : (n i : ℕ) (processes : List Begun) (v u : NodeWork) → v.node.copies.processes ≤ i → AreOnward v u → AreOnward v (begins n i processes u)
on_begins n i [] v u free h = h
on_begins n i (process ∷ processes) v u free h = cond_both (process.home == n) _ _ (λ t. AreOnward v t)
    (λ e. record {
      more = h.more;
      each = λ k. at_both u.node.played i (Some (newborn process)) k (λ o. Onward v.node.copies.processes k (v.node.played k) o)
          (λ same. inr (inr (record { late = omega (arith, free, same); after = newborn process; is = refl; computes = refl })))
          (λ no. h.each k);
    })
    (λ e. h)

-- ---- single copies

on_hands_to : (k home place : ℕ) (l : Line) (v : NodeWork) → AreOnward v (hands_to k home place l v)
on_hands_to k home place l v = cond_both (home == k) _ _ (λ u. AreOnward v u) (λ e. on_changes place l.reply l.process.0 v) (λ e. stay v _ refl refl)

pub on_hands : (f : Frame) (k : ℕ) (l : Line) (v : NodeWork) → AreOnward v (hands f k l v)
on_hands f k l v =
    let u : NodeWork = does (PerformsDeed (record { place = v.node.copies.applied; line = l })) v in
    on_on (stay v u refl refl) (on_hands_to k (home_in (known f v.node) l.process.0) v.node.copies.applied l u)

pub on_hands_all : (f : Frame) (k : ℕ) (ls : List Line) (v : NodeWork) → AreOnward v (hands_all f k ls v)
on_hands_all f k [] v = stay v v refl refl
on_hands_all f k (l ∷ ls) v = on_on (on_hands f k l v) (on_hands_all f k ls (hands f k l v))

pub on_call : (f : Frame) (k : ℕ) (x : Message) (v : NodeWork) → AreOnward v (performs_call f k x v)
on_call f k x v =
    let u : NodeWork = becomes (record v.node { copies = after_single f.performs v.node.copies x }) v in
    on_on (stay v u refl refl) (on_hands_all f k (lines_single f.performs v.node.copies x) u)

on_takes_call : (f : Frame) (k : ℕ) (x : Message) (v : NodeWork) → AreOnward v (takes_call f k x v)
on_takes_call f k x v = cond_both (waits_here x v.node.copies.waits) _ _ (λ u. AreOnward v u) (λ e. stay v v refl refl) (λ e. on_call f k x v)

on_asked : (f : Frame) (k : ℕ) (x : Message) (given : Option Given) (v : NodeWork) → AreOnward v (takes_asked f k x given v)
on_asked f k x None v = on_takes_call f k x v
on_asked f k x (Some given) v = cond_both (nat_lt given.call.0 x.call.0) _ _ (λ u. AreOnward v u) (λ e. on_takes_call f k x v)
    (λ e. cond_both (given.call.0 == x.call.0) _ _ (λ u. AreOnward v u) (λ d. stay v _ refl refl) (λ d. stay v v refl refl))

on_hears_as : (place i : ℕ) (call : CallNo) (reply : Reply) (r : Played) (stage : Stage) (v : NodeWork) → v.node.played i ≡ Some r →
    AreOnward v (hears_as place i call reply r stage v)
on_hears_as place i call reply r (Asking act) v is = cond_both (call.0 == length r.replies) _ _ (λ u. AreOnward v u)
    (λ e. on_plays v (plays i (receives place reply r) v) i (receives place reply r) refl refl (receiving v.node.copies.processes i place r reply (v.node.played i) is))
    (λ e. stay v v refl refl)
on_hears_as place i call reply r Computing v is = stay v v refl refl
on_hears_as place i call reply r (Acting act) v is = stay v v refl refl
on_hears_as place i call reply r (Submitted act) v is = stay v v refl refl
on_hears_as place i call reply r (Reading act) v is = stay v v refl refl
on_hears_as place i call reply r (Over act) v is = stay v v refl refl

on_hears : (place i : ℕ) (call : CallNo) (reply : Reply) (r : Option Played) (v : NodeWork) → v.node.played i ≡ r → AreOnward v (hears_of place i call reply r v)
on_hears place i call reply None v is = stay v v refl refl
on_hears place i call reply (Some r) v is = on_hears_as place i call reply r r.stage v is

pub on_takes : (f : Frame) (k : ℕ) (errand : Errand) (v : NodeWork) → AreOnward v (takes f k errand v)
on_takes f k (Ask place x) v = on_asked f k x (v.node.given x.process.0) v
on_takes f k (Answer place i call reply) v = on_hears place i.0 call reply (v.node.played i.0) v refl

pub on_each : (f : Frame) (k : ℕ) (errands : List Errand) (v : NodeWork) → AreOnward v (takes_each f k errands v)
on_each f k [] v = stay v v refl refl
on_each f k (errand ∷ errands) v = on_on
    (cond_both (nat_le (place_of errand) v.node.copies.applied) (takes f k errand v) (holds errand v) (λ u. AreOnward v u)
    (λ e. on_takes f k errand v) (λ e. stay v (holds errand v) refl refl))
    (on_each f k errands _)

pub on_reached : (f : Frame) (k : ℕ) (v : NodeWork) → AreOnward v (takes_reached f k v)
on_reached f k v = cond_both v.node.member.outside _ _ (λ u. AreOnward v u) (λ e. stay v v refl refl)
    (λ e. on_on (stay v (becomes (record v.node { held = [] }) v) refl refl) (on_each f k v.node.held (becomes (record v.node { held = [] }) v)))

pub on_arrives : (errand : Errand) (v : NodeWork) → AreOnward v (arrives errand v)
on_arrives errand v = cond_both (v.node.member.outside || is_held errand v.node.held) _ _ (λ u. AreOnward v u) (λ e. stay v v refl refl) (λ e. stay v (holds errand v) refl refl)

-- ---- entries

counts_on : (single : Test) (p : Performs) (c : Copied) (x : Message) (keeps : Bool) → c.processes ≤ (after_entry single p c x keeps).processes
counts_on single p c x keeps = cond_both (is_passed single x.action) _ _ (λ (z : Copied). c.processes ≤ z.processes) (λ e. omega arith) (λ e. omega arith)

on_with : (f : Frame) (m : ℕ) (ps : List Begun) (place : ℕ) (x : Message) (v : NodeWork) → AreOnward v (applies_with f m ps v.node.copies.processes place x v)
on_with f m ps place x v =
    let taken : NodeWork = copies_take f m ps x v in
    let lines : List Line = lines_after (singles_of f ps) f.performs v.node.copies x in
    let told : NodeWork = answers place lines taken in
    let born : List Begun = begun_by f.settings.nodes (home_in ps x.process.0) place x.action in
    let u : NodeWork = begins m v.node.copies.processes born told in
    let first : AreOnward v taken = record { more = counts_on (singles_of f ps) f.performs v.node.copies x (home_in ps x.process.0 == m); each = λ i. inl refl } in
    on_on (on_begins m v.node.copies.processes born v told (omega arith) (on_on first (on_answers place lines taken))) (on_reads f u.node.copies.processes u)

on_applies_each : (f : Frame) (m : ℕ) (xs : List Message) (v : NodeWork) → AreOnward v (applies_each f m xs v)
on_applies_each f m [] v = stay v v refl refl
on_applies_each f m (x ∷ xs) v = cond_both (passes_limit f v.node x) _ _ (λ u. AreOnward v u) (λ e. stay v v refl refl)
    (λ e. on_on (on_with f m (known f v.node) (suc v.node.copies.applied) x v) (on_applies_each f m xs (applies_one f m x v)))

on_joins : (work : Work Message) (v : NodeWork) → AreOnward v (joins work v)
on_joins work v = stay v (joins work v) refl refl

on_round : (f : Frame) (m : ℕ) (v : NodeWork) → AreOnward v (round f m v)
on_round f m v = on_on (on_applies_each f m (due_entries v.node) v)
    (cond_both (nat_lt (applies f m v).node.member.applied (applies f m v).node.copies.applied) _ _ (λ u. AreOnward (applies f m v) u)
    (λ e. on_joins _ (applies f m v)) (λ e. stay (applies f m v) (applies f m v) refl refl))

pub on_rounds : (f : Frame) (m : ℕ) (waiting : List (Waiting Message)) (v : NodeWork) → AreOnward v (rounds f m waiting v)
on_rounds f m [] v = on_round f m v
on_rounds f m (one ∷ more) v = on_on (on_round f m v) (on_rounds f m more (round f m v))

pub on_catches : (f : Frame) (m : ℕ) (v : NodeWork) → AreOnward v (catches_up f m v)
on_catches f m v = on_on (on_rounds f m v.node.member.waiting v) (on_reached f m (applies_all f m v))

-- ---- a tick

on_owner : (f : Frame) (k : ℕ) (r : Played) (call : Suspended) (v : NodeWork) → AreOnward v (asks_owner f k r call v)
on_owner f k r call v = cond_both (owner_in (known f v.node) call.object == k) _ _ (λ u. AreOnward v u) (λ e. stay v v refl refl) (λ e. stay v _ refl refl)

on_again_by : (f : Frame) (k i : ℕ) (r : Played) (act : Action) (v : NodeWork) → AreOnward v (asks_again_by f k i r act v)
on_again_by f k i r (action.Call kind op object args) v = on_owner f k r _ v
on_again_by f k i r (action.Make kind object) v = stay v v refl refl
on_again_by f k i r (action.Fork text args place_on) v = stay v v refl refl
on_again_by f k i r action.Ended v = stay v v refl refl
on_again_by f k i r (action.Faulted fault) v = stay v v refl refl

on_again_at : (f : Frame) (k i : ℕ) (r : Played) (stage : Stage) (v : NodeWork) → AreOnward v (asks_again_at f k i r stage v)
on_again_at f k i r (Asking act) v = on_again_by f k i r act v
on_again_at f k i r Computing v = stay v v refl refl
on_again_at f k i r (Acting act) v = stay v v refl refl
on_again_at f k i r (Submitted act) v = stay v v refl refl
on_again_at f k i r (Reading act) v = stay v v refl refl
on_again_at f k i r (Over act) v = stay v v refl refl

on_again_of : (f : Frame) (k i : ℕ) (r : Option Played) (v : NodeWork) → AreOnward v (asks_again_of f k i r v)
on_again_of f k i None v = stay v v refl refl
on_again_of f k i (Some r) v = on_again_at f k i r r.stage v

on_below : (f : Frame) (k n : ℕ) (v : NodeWork) → AreOnward v (asks_below f k n v)
on_below f k zero v = stay v v refl refl
on_below f k (suc i) v = on_on (on_below f k i v) (on_again_of f k i ((asks_below f k i v).node.played i) (asks_below f k i v))

pub on_again : (f : Frame) (k : ℕ) (v : NodeWork) → AreOnward v (asks_again f k v)
on_again f k v = cond_both v.node.member.outside _ _ (λ u. AreOnward v u) (λ e. stay v v refl refl) (λ e. on_below f k v.node.copies.processes v)
