-- So it stays, step by step.
use Rattle.std.proofs.Common.{◌≡◌, ◌≤◌, ◌<◌, ◌==◌, ◌||◌, ◌⊎◌, inl, inr, ⊎_elim, ℕ, zero, suc, Bool, true, false, Option, Some, None, List, [], ◌∷◌, length, refl, sym, ap, ◌∙◌, arith, subst}
use Rattle.std.specs.Prelude.{slice_get}
use Rattle.std.proofs.lemmas.Bool.{cond_both, eqb-false}
use Rattle.orca_base.specs.declared.ids.ObjectId.{ObjectId}
use Rattle.value_core.specs.declared.action.Action.{Action}
use Rattle.value_core.specs.declared.action.Action.TheVariants as action
use Rattle.value_core.specs.declared.action.Class.{Class}
use Rattle.value_core.specs.declared.action.Class.TheVariants.{Reads, Writes}
use Rattle.value_core.specs.declared.action.Line.{Line}
use Rattle.value_core.specs.declared.message.Message.{Message}
use Rattle.guard_queue.specs.Settles.{is_blocked}
use Rattle.value_core.specs.declared.meaning.Tried.{Tried}
use Rattle.guard_queue.specs.declared.queue.Suspended.{Suspended}
use Rattle.object_manager.specs.Singles.{after_single, lines_single}
use Rattle.object_manager.specs.State.{message_of}
use Rattle.book_law.specs.Events.{Calls}
use Rattle.group_rules.specs.Reset.{coordinate}
use Rattle.group_rules.specs.Steps.{timer}
use Rattle.net_rules.specs.declared.flight.Flight.{Flight}
use Rattle.net_rules.specs.Flights.{ready_copy, ticked, without}
use Rattle.world_rules.specs.declared.event.Event as world
use Rattle.world_rules.specs.declared.event.Event.TheVariants as event
use Rattle.world_rules.specs.declared.event.Step.{Step}
use Rattle.world_rules.specs.Applying.{performs_read, tries_as, tries_of, tries_read}
use Rattle.world_rules.specs.Frame.{Frame, group}
use Rattle.world_rules.specs.Mail.{Carried, Mail, is_whole, receiver_of}
use Rattle.world_rules.specs.Mail.Errand.{Ask}
use Rattle.world_rules.specs.Nodes.{Node, NodeWork, becomes, changes, does, idle, if_played, joins, known, plays}
use Rattle.world_rules.specs.Nodes.Deed.{Performs}
use Rattle.world_rules.specs.Owners.{hands, hands_all, holds, is_held, performs_call, sends}
use Rattle.group_rules.specs.Sets.{with_at}
use Rattle.world_law.proofs.Climbing.{node_below}
use Rattle.world_rules.specs.Parts.{acts_at, acts_by, acts_of, asks, asks_again, asks_below, calls, calls_as, catches_up, performs_all, receives_mail, submits}
use Rattle.world_rules.specs.Played.{Played, Stage, moves_to, next_call}
use Rattle.world_rules.specs.Played.{receives as receives_reply}
use Rattle.world_rules.specs.Played.Stage.{Computing, Acting, Submitted, Reading, Asking, Over}
use Rattle.world_rules.specs.Processes.{Begun, home_in, owner_in, single_by, singles_of}
use Rattle.world_rules.specs.Steps.{AtWork, Known, Next, Possible, after_part, comes, comes_whole, happens, lives_in, ticks_below, untouched}
use Rattle.world_rules.specs.Worlds.{World, home_of}
use Rattle.world_law.specs.Homes.{IsHome}
use Rattle.world_idle.proofs.Calls.{HasCall}
use Rattle.world_law.proofs.Maps.{at_both}
use Rattle.world_law.proofs.Onwards.{AreOnward, Onward, on_call, on_catches, on_read}
use Rattle.world_idle.proofs.Own.{own_caught}
use Rattle.world_idle.proofs.Sent.{IsOutAt, never_ran, posts_keep, same_node, stayed}
use Rattle.world_idle.proofs.Taking.{all_copies, call_new, call_old}
use Rattle.world_idle.proofs.Ticking.{Timed, timed}

-- whose call is on an object of a process of this member
abbrev pub OwnAt : Node → Type 0
OwnAt n = (i : ℕ) (r : Played) (act : Action) (o : ObjectId) (s : Played) → n.played i ≡ Some r → r.stage ≡ Asking act → Calls act o → n.played o.process ≡ Some s → HasCall i (length r.replies) n.copies.waits

-- who asks, asks for an object whose maker is known here
abbrev pub KnownAt : Node → Type 0
KnownAt n = (i : ℕ) (r : Played) (act : Action) (o : ObjectId) → n.played i ≡ Some r → r.stage ≡ Asking act → Calls act o → o.process < n.copies.processes

-- who plays here began here, by this list
abbrev HomesAt : Frame → ℕ → Node → Type 0
HomesAt f m n = (i : ℕ) (r : Played) → n.played i ≡ Some r → home_in (known f n) i ≡ m

asking_now : (r : Played) (act : Action) → r.stage ≡ Asking act → r.stage ≡ Computing → ⊥
asking_now r act e d = let c : Asking act ≡ Computing = sym e ∙ d in cc c

-- ---- after the first piece of a member's part

pub record First (n : Node) (first : NodeWork) : Type 0 where
  pub count : first.node.copies.processes ≡ n.copies.processes
  -- who plays here did so before
  pub before : (k : ℕ) (s : Played) → first.node.played k ≡ Some s → (t : Played) × (n.played k ≡ Some t)
  pub known : KnownAt first.node
  pub own : (i : ℕ) (r : Played) (act : Action) (o : ObjectId) (s : Played) → first.node.played i ≡ Some r → r.stage ≡ Asking act → Calls act o → n.played o.process ≡ Some s → HasCall i (length r.replies) first.node.copies.waits

-- nothing was done with Asks
first_quiet : (n : Node) (first : NodeWork) → first.node.played ≡ n.played → first.node.copies ≡ n.copies → KnownAt n → OwnAt n → First n first
first_quiet n first played copies knows own = record {
  count = ap (λ c. c.processes) copies;
  before = λ k s here. (s, ap (λ (p : ℕ → Option Played). p k) (sym played) ∙ here);
  known = λ i r act o here is calls. subst (λ c. o.process < c.processes) (sym copies) (knows i r act o (ap (λ (p : ℕ → Option Played). p i) (sym played) ∙ here) is calls);
  own = λ i r act o s here is calls maker. subst (λ c. HasCall i (length r.replies) c.waits) (sym copies) (own i r act o s (ap (λ (p : ℕ → Option Played). p i) (sym played) ∙ here) is calls maker);
}

-- one process plays on, and asks nobody
first_plays : (n : Node) (j : ℕ) (r0 t : Played) (first : NodeWork) → n.played j ≡ Some r0 → ((act : Action) → t.stage ≡ Asking act → ⊥) → ((k : ℕ) (s : Played) → first.node.played k ≡ Some s → (s.stage ≡ Computing → ⊥) → (plays j t (idle n)).node.played k ≡ Some s) →
    ((k : ℕ) (s : Played) → first.node.played k ≡ Some s → (q : Played) × (n.played k ≡ Some q)) → first.node.copies ≡ n.copies → KnownAt n → OwnAt n → First n first
first_plays n j r0 t first here never back before copies knows own = record {
  count = ap (λ c. c.processes) copies;
  before = before;
  known = λ i r act o there is calls. subst (λ c. o.process < c.processes) (sym copies) (knows i r act o (old i r act there is) is calls);
  own = λ i r act o s there is calls maker. subst (λ c. HasCall i (length r.replies) c.waits) (sym copies) (own i r act o s (old i r act there is) is calls maker);
}
  where
    old : (i : ℕ) (r : Played) (act : Action) → first.node.played i ≡ Some r → r.stage ≡ Asking act → n.played i ≡ Some r
    old i r act there is = at_both n.played j (Some t) i (λ (o : Option Played). o ≡ Some r → n.played i ≡ Some r)
        (λ e d. let same : t ≡ r = cc in absurd (never act (ap (λ (z : Played). z.stage) same ∙ is))) (λ no d. d) (back i r there (asking_now r act is))

plays_before : (n : Node) (j : ℕ) (r0 t : Played) → n.played j ≡ Some r0 → (k : ℕ) (s : Played) → (plays j t (idle n)).node.played k ≡ Some s → (q : Played) × (n.played k ≡ Some q)
plays_before n j r0 t here k s = at_both n.played j (Some t) k (λ (o : Option Played). o ≡ Some s → (q : Played) × (n.played k ≡ Some q))
    (λ e d. (r0, ap n.played e ∙ here)) (λ no d. (s, d))

first_submits : (f : Frame) (m j : ℕ) (r0 : Played) (act : Action) (x : Message) (n : Node) → n.played j ≡ Some r0 → KnownAt n → OwnAt n → First n (submits f m j r0 act x (idle n))
first_submits f m j r0 act x n here knows own =
    let t : Played = moves_to (Submitted act) r0 in
    first_plays n j r0 t (submits f m j r0 act x (idle n)) here (λ a e. cc e) (λ k s d no. d) (plays_before n j r0 t here) refl knows own

got_low : {A : Type 0} (xs : List A) (k : ℕ) (b : A) → slice_get xs k ≡ Some b → k < length xs
got_low [] k b is = let c : None ≡ Some b = is in absurd (cc c)
got_low (y ∷ xs) zero b is = omega arith
got_low (y ∷ xs) (suc k) b is = let l = got_low xs k b is in omega (arith, l)

maker_low : (f : Frame) (ps : List Begun) (o : ObjectId) → singles_of f ps o ≡ true → o.process < length ps
maker_low f ps o e = by (slice_get ps o.process) refl e
  where
    by : (b : Option Begun) → slice_get ps o.process ≡ b → single_by f b o.number ≡ true → o.process < length ps
    by None is q = absurd (cc q)
    by (Some b) is q = got_low ps o.process b is

if_before : (change : Played → Played) (i : ℕ) (o : Option Played) (v : NodeWork) → v.node.played i ≡ o → (k : ℕ) (s : Played) → (if_played change i o v).node.played k ≡ Some s → (q : Played) × (v.node.played k ≡ Some q)
if_before change i None v is k s d = (s, d)
if_before change i (Some r) v is k s d = at_both v.node.played i (Some (change r)) k (λ (o : Option Played). o ≡ Some s → (q : Played) × (v.node.played k ≡ Some q))
    (λ e q. (r, ap v.node.played e ∙ is)) (λ no q. (s, q)) d

hands_before : (f : Frame) (m : ℕ) (l : Line) (v : NodeWork) (k : ℕ) (s : Played) → (hands f m l v).node.played k ≡ Some s → (q : Played) × (v.node.played k ≡ Some q)
hands_before f m l v k s =
    let u : NodeWork = does (Performs (record { place = v.node.copies.applied; line = l })) v in
    let to : ℕ = home_in (known f v.node) l.process.0 in
    cond_both (to == m) (changes (receives_reply v.node.copies.applied l.reply) l.process.0 u) _ (λ (z : NodeWork). z.node.played k ≡ Some s → (q : Played) × (v.node.played k ≡ Some q))
    (λ e d. if_before (receives_reply v.node.copies.applied l.reply) l.process.0 (u.node.played l.process.0) u refl k s d) (λ e d. (s, d))

hands_all_before : (f : Frame) (m : ℕ) (ls : List Line) (v : NodeWork) (k : ℕ) (s : Played) → (hands_all f m ls v).node.played k ≡ Some s → (q : Played) × (v.node.played k ≡ Some q)
hands_all_before f m [] v k s d = (s, d)
hands_all_before f m (l ∷ ls) v k s d = let a = hands_all_before f m ls (hands f m l v) k s d in hands_before f m l v k a.0 a.1

-- it asks an owner
first_asks : (f : Frame) (m j : ℕ) (r0 : Played) (call : Suspended) (n : Node) → n.played j ≡ Some r0 → call.process.0 ≡ j → call.call ≡ next_call r0 → singles_of f (known f n) call.object ≡ true → IsHome f m n → KnownAt n → OwnAt n →
    First n (asks f m j r0 call (idle n))
first_asks f m j r0 call n here process number single home knows own =
    cond_both (owner_in known_of call.object == m) performed sent (First n) (λ e. mine) (λ e. theirs e)
  where
    known_of : List Begun
    known_of = known f n

    t : Played
    t = moves_to (Asking (message_of call).action) r0

    u : NodeWork
    u = plays j t (idle n)

    performed : NodeWork
    performed = performs_call f m (message_of call) u

    sent : NodeWork
    sent = sends m (owner_in known_of call.object) (Ask r0.place (message_of call)) u

    low : call.object.process < n.copies.processes
    low = let l = maker_low f known_of call.object single in let c = home.counted in omega (arith, l, c)

    called : (act : Action) (o : ObjectId) → t.stage ≡ Asking act → Calls act o → o ≡ call.object
    called act o e calls = let a : (message_of call).action ≡ act = cc in subst (λ (z : Action). Calls z o → o ≡ call.object) a (λ c. c) calls

    back : (i : ℕ) (r : Played) (act : Action) → u.node.played i ≡ Some r → r.stage ≡ Asking act → (n.played i ≡ Some r) ⊎ ((i ≡ j) × (t ≡ r))
    back i r act = at_both n.played j (Some t) i (λ (o : Option Played). o ≡ Some r → r.stage ≡ Asking act → (n.played i ≡ Some r) ⊎ ((i ≡ j) × (t ≡ r)))
        (λ e d is. let same : t ≡ r = cc in inr (e, same)) (λ no d is. inl d)

    below : (i : ℕ) (r : Played) (act : Action) (o : ObjectId) → u.node.played i ≡ Some r → r.stage ≡ Asking act → Calls act o → o.process < n.copies.processes
    below i r act o there is calls = ⊎_elim (λ old. knows i r act o old is calls)
        (λ new. let e = called act o (ap (λ (z : Played). z.stage) new.1 ∙ is) calls in subst (λ (z : ObjectId). z.process < n.copies.processes) (sym e) low) (back i r act there is)

    mine : First n performed
    mine = record {
      count = counts;
      before = λ k s d. let q = hands_all_before f m (lines_single f.performs u.node.copies (message_of call)) (becomes (record u.node { copies = after_single f.performs u.node.copies (message_of call) }) u) k s d in plays_before n j r0 t here k q.0 q.1;
      known = λ i r act o there is calls. subst (λ (z : ℕ). o.process < z) (sym counts) (below i r act o (earlier i r act there is) is calls);
      own = λ i r act o s there is calls maker. ⊎_elim (λ old. waits_old i r act o s there is calls maker old) (λ new. waits_new i r act there is new) (back i r act (earlier i r act there is) is);
    }
      where
        counts : performed.node.copies.processes ≡ n.copies.processes
        counts = ap (λ c. c.processes) (all_copies f m j 0 m known_of (home.home j r0 here) (lines_single f.performs u.node.copies (message_of call))
            (becomes (record u.node { copies = after_single f.performs u.node.copies (message_of call) }) u))

        earlier : (i : ℕ) (r : Played) (act : Action) → performed.node.played i ≡ Some r → r.stage ≡ Asking act → u.node.played i ≡ Some r
        earlier i r act there is = stayed u.node.copies.processes i (u.node.played i) (performed.node.played i) r ((on_call f m (message_of call) u).each i) there (asking_now r act is)

        waits_old : (i : ℕ) (r : Played) (act : Action) (o : ObjectId) (s : Played) → performed.node.played i ≡ Some r → r.stage ≡ Asking act → Calls act o → n.played o.process ≡ Some s → n.played i ≡ Some r → HasCall i (length r.replies) performed.node.copies.waits
        waits_old i r act o s there is calls maker old = ⊎_elim (λ h. h) (λ q. ⊎_elim (λ (x : (m ≡ m → ⊥) × _). absurd (x.0 refl)) (λ x. absurd (x.1 r act there is refl)) q)
            (call_old f m i (length r.replies) m known_of (home.home i r old) (message_of call) u refl (own i r act o s old is calls maker))

        waits_new : (i : ℕ) (r : Played) (act : Action) → performed.node.played i ≡ Some r → r.stage ≡ Asking act → (i ≡ j) × (t ≡ r) → HasCall i (length r.replies) performed.node.copies.waits
        waits_new i r act there is new = ⊎_elim (λ h. h) (λ q. ⊎_elim (λ (x : (m ≡ m → ⊥) × _). absurd (x.0 refl)) (λ x. absurd (x.1 r act there is refl)) q)
            (call_new f m i (length r.replies) m known_of (ap (home_in known_of) new.0 ∙ home.home j r0 here) (message_of call) u refl (process ∙ sym new.0)
            (ap (λ k. k.0) number ∙ ap (λ (z : Played). length z.replies) new.1))

    theirs : (owner_in known_of call.object == m) ≡ false → First n sent
    theirs e = record {
      count = refl;
      before = plays_before n j r0 t here;
      known = λ i r act o there is calls. below i r act o there is calls;
      own = λ i r act o s there is calls maker. ⊎_elim (λ old. own i r act o s old is calls maker)
          (λ new. let at = called act o (ap (λ (z : Played). z.stage) new.1 ∙ is) calls in
          absurd (eqb-false (owner_in known_of call.object) m e (ap (λ (z : ObjectId). home_in known_of z.process) (sym at) ∙ home.home o.process s maker))) (back i r act there is);
    }

performs_before : (i : ℕ) (r : Played) (act : Action) (o : Tried) (v : NodeWork) → v.node.played i ≡ Some r → (k : ℕ) (s : Played) → (performs_read i r act o v).node.played k ≡ Some s → (q : Played) × (v.node.played k ≡ Some q)
performs_before i r act o v here k s = cond_both (is_blocked o) v _ (λ (z : NodeWork). z.node.played k ≡ Some s → (q : Played) × (v.node.played k ≡ Some q)) (λ e d. (s, d))
    (λ e d. at_both v.node.played i (Some _) k (λ (z : Option Played). z ≡ Some s → (q : Played) × (v.node.played k ≡ Some q)) (λ x y. (r, ap v.node.played x ∙ here)) (λ x y. (s, y)) d)

as_before : (f : Frame) (i : ℕ) (r : Played) (stage : Stage) (v : NodeWork) → v.node.played i ≡ Some r → (k : ℕ) (s : Played) → (tries_as f i r stage v).node.played k ≡ Some s → (q : Played) × (v.node.played k ≡ Some q)
as_before f i r (Reading act) v here k s d = performs_before i r act _ v here k s d
as_before f i r Computing v here k s d = (s, d)
as_before f i r (Acting act) v here k s d = (s, d)
as_before f i r (Submitted act) v here k s d = (s, d)
as_before f i r (Asking act) v here k s d = (s, d)
as_before f i r (Over act) v here k s d = (s, d)

tries_before : (f : Frame) (i : ℕ) (o : Option Played) (v : NodeWork) → v.node.played i ≡ o → (k : ℕ) (s : Played) → (tries_of f i o v).node.played k ≡ Some s → (q : Played) × (v.node.played k ≡ Some q)
tries_before f i None v here k s d = (s, d)
tries_before f i (Some r) v here k s d = as_before f i r r.stage v here k s d

read_before : (f : Frame) (i : ℕ) (v : NodeWork) (k : ℕ) (s : Played) → (tries_read f i v).node.played k ≡ Some s → (q : Played) × (v.node.played k ≡ Some q)
read_before f i v k s d = tries_before f i (v.node.played i) v refl k s d

performs_copies : (i : ℕ) (r : Played) (act : Action) (o : Tried) (v : NodeWork) → (performs_read i r act o v).node.copies ≡ v.node.copies
performs_copies i r act o v = cond_both (is_blocked o) v _ (λ (z : NodeWork). z.node.copies ≡ v.node.copies) (λ e. refl) (λ e. refl)

as_copies : (f : Frame) (i : ℕ) (r : Played) (stage : Stage) (v : NodeWork) → (tries_as f i r stage v).node.copies ≡ v.node.copies
as_copies f i r (Reading act) v = performs_copies i r act _ v
as_copies f i r Computing v = refl
as_copies f i r (Acting act) v = refl
as_copies f i r (Submitted act) v = refl
as_copies f i r (Asking act) v = refl
as_copies f i r (Over act) v = refl

tries_copies : (f : Frame) (i : ℕ) (o : Option Played) (v : NodeWork) → (tries_of f i o v).node.copies ≡ v.node.copies
tries_copies f i None v = refl
tries_copies f i (Some r) v = as_copies f i r r.stage v

read_copies : (f : Frame) (i : ℕ) (v : NodeWork) → (tries_read f i v).node.copies ≡ v.node.copies
read_copies f i v = tries_copies f i (v.node.played i) v

first_reads : (f : Frame) (m j : ℕ) (r0 : Played) (act : Action) (n : Node) → n.played j ≡ Some r0 → KnownAt n → OwnAt n → First n (tries_read f j (plays j (moves_to (Reading act) r0) (idle n)))
first_reads f m j r0 act n here knows own =
    let t : Played = moves_to (Reading act) r0 in
    let u : NodeWork = plays j t (idle n) in
    let first : NodeWork = tries_read f j u in
    first_plays n j r0 t first here (λ a e. cc e) (λ k s d no. stayed u.node.copies.processes k (u.node.played k) (first.node.played k) s ((on_read f j u).each k) d no)
    (λ k s d. let q = read_before f j u k s d in plays_before n j r0 t here k q.0 q.1) (read_copies f j u) knows own

first_as : (f : Frame) (m j : ℕ) (r0 : Played) (call : Suspended) (class : Class) (n : Node) → n.played j ≡ Some r0 → KnownAt n → OwnAt n → First n (calls_as f m j r0 call class (idle n))
first_as f m j r0 call Reads n here knows own = first_reads f m j r0 (message_of call).action n here knows own
first_as f m j r0 call Writes n here knows own = first_submits f m j r0 (message_of call).action (message_of call) n here knows own

first_calls : (f : Frame) (m j : ℕ) (r0 : Played) (call : Suspended) (n : Node) → n.played j ≡ Some r0 → call.process.0 ≡ j → call.call ≡ next_call r0 → IsHome f m n → KnownAt n → OwnAt n → First n (calls f m j r0 call (idle n))
first_calls f m j r0 call n here process number home knows own = cond_both (singles_of f (known f n) call.object) (asks f m j r0 call (idle n)) (calls_as f m j r0 call (f.performs.class_of call.kind call.op) (idle n)) (First n)
    (λ e. first_asks f m j r0 call n here process number e home knows own) (λ e. first_as f m j r0 call (f.performs.class_of call.kind call.op) n here knows own)

first_idle : (n : Node) → KnownAt n → OwnAt n → First n (idle n)
first_idle n knows own = first_quiet n (idle n) refl refl knows own

first_by : (f : Frame) (m j : ℕ) (r0 : Played) (act : Action) (n : Node) → n.played j ≡ Some r0 → IsHome f m n → KnownAt n → OwnAt n → First n (acts_by f m j r0 act (idle n))
first_by f m j r0 (action.Make kind object) n here home knows own = first_submits f m j r0 (action.Make kind object) _ n here knows own
first_by f m j r0 (action.Call kind op object args) n here home knows own = first_calls f m j r0 (record { process = record { 0 = j }; call = next_call r0; kind = kind; op = op; object = object; args = args }) n here refl refl home knows own
first_by f m j r0 (action.Fork text args place_on) n here home knows own = first_submits f m j r0 (action.Fork text args place_on) _ n here knows own
first_by f m j r0 action.Ended n here home knows own = first_idle n knows own
first_by f m j r0 (action.Faulted fault) n here home knows own = first_idle n knows own

first_at : (f : Frame) (m j : ℕ) (r0 : Played) (stage : Stage) (n : Node) → n.played j ≡ Some r0 → IsHome f m n → KnownAt n → OwnAt n → First n (acts_at f m j r0 stage (idle n))
first_at f m j r0 (Acting act) n here home knows own = first_by f m j r0 act n here home knows own
first_at f m j r0 Computing n here home knows own = first_idle n knows own
first_at f m j r0 (Submitted act) n here home knows own = first_idle n knows own
first_at f m j r0 (Reading act) n here home knows own = first_idle n knows own
first_at f m j r0 (Asking act) n here home knows own = first_idle n knows own
first_at f m j r0 (Over act) n here home knows own = first_idle n knows own

pub first_acts : (f : Frame) (m j : ℕ) (o : Option Played) (n : Node) → n.played j ≡ o → IsHome f m n → KnownAt n → OwnAt n → First n (acts_of f m j o (idle n))
first_acts f m j None n here home knows own = first_idle n knows own
first_acts f m j (Some r0) n here home knows own = first_at f m j r0 r0.stage n here home knows own

-- ---- then it catches up

own_part : (f : Frame) (m : ℕ) (n : Node) (first : NodeWork) → First n first → HomesAt f m (catches_up f m first).node → OwnAt (catches_up f m first).node
own_part f m n first h homes i r act o s here is calls maker =
    own_caught f m i (length r.replies) first r act (homes i r here) here is refl (h.own i r act o old.0 earlier is calls old.1)
  where
    v : NodeWork
    v = catches_up f m first

    on : AreOnward first v
    on = on_catches f m first

    earlier : first.node.played i ≡ Some r
    earlier = stayed first.node.copies.processes i (first.node.played i) (v.node.played i) r (on.each i) here (asking_now r act is)

    by : Onward first.node.copies.processes o.process (first.node.played o.process) (v.node.played o.process) → (q : Played) × (n.played o.process ≡ Some q)
    by (inl e) = h.before o.process s (sym e ∙ maker)
    by (inr (inl g)) = h.before o.process g.before g.was
    by (inr (inr b)) = let l = h.known i r act o earlier is calls in absurd (omega (arith, b.late, l))

    old : (q : Played) × (n.played o.process ≡ Some q)
    old = by (on.each o.process)

-- ---- events

own_first : (n : Node) (first : NodeWork) → First n first → OwnAt first.node
own_first n first h i r act o s here is calls maker = let q = h.before o.process s maker in h.own i r act o q.0 here is calls q.1

abbrev pub AllOwn : (ℕ → Node) → Type 0
AllOwn nodes = (m : ℕ) → OwnAt (nodes m)

abbrev pub AllHomes : Frame → (ℕ → Node) → Type 0
AllHomes f nodes = (m : ℕ) → HomesAt f m (nodes m)

pub record Start (f : Frame) (w : World) : Type 0 where
  pub own : AllOwn w.nodes
  pub known : (m : ℕ) → KnownAt (w.nodes m)
  pub home : (m : ℕ) → IsHome f m (w.nodes m)

own_at : (f : Frame) (w : World) (m : ℕ) (v : NodeWork) → Start f w → (HomesAt f m v.node → OwnAt v.node) → AllHomes f (with_at w.nodes m v.node) → AllOwn (with_at w.nodes m v.node)
own_at f w m v s part homes k = at_both w.nodes m v.node k (λ (n : Node). HomesAt f k n → OwnAt n) (λ e h. part (subst (λ (j : ℕ). HomesAt f j v.node) e h)) (λ no h. s.own k) (homes k)

first_mail : (f : Frame) (m : ℕ) (mail : Mail) (n : Node) → KnownAt n → OwnAt n → First n (receives_mail f m mail (idle n))
first_mail f m (Mail.Grouped letter) n knows own = first_quiet n _ refl refl knows own
first_mail f m (Mail.Sends incarnation from to errand) n knows own = cond_both (n.member.outside || is_held errand n.held) (idle n) (holds errand (idle n)) (First n)
    (λ e. first_idle n knows own) (λ e. first_quiet n (holds errand (idle n)) refl refl knows own)

pub again_node : (f : Frame) (m : ℕ) (v : NodeWork) → (asks_again f m v).node ≡ v.node
again_node f m v = cond_both v.node.member.outside v (asks_below f m v.node.copies.processes v) (λ (u : NodeWork). u.node ≡ v.node) (λ e. refl) (λ e. node_below f m v.node.copies.processes v)

own_comes : (f : Frame) (w : World) (mail : Mail) → Start f w → AllHomes f (comes f w mail).world.nodes → AllOwn (comes f w mail).world.nodes
own_comes f w mail s = cond_both (lives_in f w m) (after_part f m (catches_up f m first) (untouched w)) (untouched w) (λ (u : AtWork). AllHomes f u.world.nodes → AllOwn u.world.nodes)
    (λ e homes. own_at f w m (catches_up f m first) s (λ h. own_part f m (w.nodes m) first (first_mail f m mail (w.nodes m) (s.known m) (s.own m)) h) homes) (λ e homes. s.own)
  where
    m : ℕ
    m = receiver_of mail

    first : NodeWork
    first = receives_mail f m mail (idle (w.nodes m))

own_whole : (f : Frame) (w : World) (o : Option (Flight Carried)) → Start f w → AllHomes f (comes_whole f w o).world.nodes → AllOwn (comes_whole f w o).world.nodes
own_whole f w None s = λ homes. s.own
own_whole f w (Some flight) s = cond_both (is_whole f.settings.nodes flight.packet) (comes f w flight.packet.mail) (untouched w) (λ (u : AtWork). AllHomes f u.world.nodes → AllOwn u.world.nodes)
    (λ e homes. own_comes f w flight.packet.mail s homes) (λ e homes. s.own)

own_ticks : (f : Frame) (w : World) → Start f w → AllHomes f (ticks_below f f.settings.nodes (untouched w)).world.nodes → AllOwn (ticks_below f f.settings.nodes (untouched w)).world.nodes
own_ticks f w s homes k = ⊎_elim (λ low. by low (w.lives k) refl) (λ high. subst OwnAt (sym (t.rests k high)) (s.own k)) (two k f.settings.nodes)
  where
    t : Timed f w f.settings.nodes (ticks_below f f.settings.nodes (untouched w))
    t = timed f w f.settings.nodes

    two : (a b : ℕ) → (a < b) ⊎ (b ≤ a)
    two a b = grind arith

    first : NodeWork
    first = asks_again f k (joins (timer (group f) k (w.nodes k).member) (idle (w.nodes k)))

    begun : First (w.nodes k) first
    begun = let e = again_node f k (joins (timer (group f) k (w.nodes k).member) (idle (w.nodes k))) in
        first_quiet (w.nodes k) first (ap (λ (n : Node). n.played) e) (ap (λ (n : Node). n.copies) e) (s.known k) (s.own k)

    by : k < f.settings.nodes → (b : Bool) → w.lives k ≡ b → OwnAt ((ticks_below f f.settings.nodes (untouched w)).world.nodes k)
    by low true e = let r = t.ran k low e in subst OwnAt (sym r) (own_part f k (w.nodes k) first begun (subst (HomesAt f k) r (homes k)))
    by low false e = subst OwnAt (sym (t.crashed k e)) (s.own k)

own_happens : (f : Frame) (w : World) (e : world.Event) (given : Known e) → Possible f w e given → Start f w → AllHomes f (happens f w e given).world.nodes → AllOwn (happens f w e given).world.nodes
own_happens f w (event.Burst process place turns) burst possible s homes =
    let m : ℕ = home_of f w process.0 in
    let n : Node = w.nodes m in
    let v : NodeWork = performs_all place burst.reads (idle n) in
    let first : NodeWork = plays process.0 burst.end v in
    let same : v.node ≡ n = same_node place burst.reads (idle n) in
    let played : first.node.played ≡ (plays process.0 burst.end (idle n)).node.played = ap (λ (z : Node). with_at z.played process.0 (Some burst.end)) same in
    own_at f w m first s (λ h. own_first n first (first_plays n process.0 possible.start burst.end first possible.here (λ act d. never_ran f _ place process _ possible.start burst.reads burst.end possible.ran (subst IsOutAt (sym d) tt))
    (λ k z d no. ap (λ (p : ℕ → Option Played). p k) (sym played) ∙ d) (λ k z d. plays_before n process.0 possible.start burst.end possible.here k z (ap (λ (p : ℕ → Option Played). p k) (sym played) ∙ d))
    (ap (λ (z : Node). z.copies) same) (s.known m) (s.own m))) homes
own_happens f w (event.Act process) given possible s homes =
    let m : ℕ = home_of f w process.0 in
    let first : NodeWork = acts_of f m process.0 ((w.nodes m).played process.0) (idle (w.nodes m)) in
    own_at f w m (catches_up f m first) s (λ h. own_part f m (w.nodes m) first (first_acts f m process.0 ((w.nodes m).played process.0) (w.nodes m) refl (s.home m) (s.known m) (s.own m)) h) homes
own_happens f w (event.Deliver packet copy) given possible s homes =
    own_whole f (record w { flights = without packet copy w.flights }) (ready_copy packet copy w.flights) (record { own = s.own; known = s.known; home = s.home }) homes
own_happens f w event.Tick given possible s homes = own_ticks f (record w { flights = ticked w.flights }) (record { own = s.own; known = s.known; home = s.home }) homes
own_happens f w (event.Crash node) given possible s homes = s.own
own_happens f w (event.Suspect node) given possible s homes =
    let first : NodeWork = joins (coordinate (group f) node (w.nodes node).member) (idle (w.nodes node)) in
    own_at f w node (catches_up f node first) s (λ h. own_part f node (w.nodes node) first (first_quiet (w.nodes node) first refl refl (s.known node) (s.own node)) h) homes
own_happens f w event.Swap given possible s homes = s.own

pub own_step : (f : Frame) (w v : World) (step : Step) → Next f w step v → Start f w → AllHomes f v.nodes → AllOwn v.nodes
own_step f w v step next s homes =
    let u : AtWork = happens f w step.event next.given in
    let kept = posts_keep f u.world u.mails step.fates in
    let same : v.nodes ≡ u.world.nodes = ap (λ (z : World). z.nodes) next.after ∙ kept.0 in
    subst AllOwn (sym same) (own_happens f w step.event next.given next.possible s (subst (AllHomes f) same homes))
