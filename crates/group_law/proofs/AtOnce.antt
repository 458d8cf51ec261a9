-- Where no member may be lost, each knows its whole log to be accepted.
use Rattle.std.proofs.Common.{◌≡◌, ℕ, suc, ◌-◌, ◌*◌, ◌%◌, ◌≤◌, ◌<◌, ◌==◌, ◌&&◌, not, max, min, nat_lt, nat_le, ⊎_elim, Bool, true, false, Option, Some, None, List, [], ◌∷◌, ◌++◌, length, refl, sym, ap, ◌∙◌, arith, le_refl, zero-le, subst}
use Rattle.std.proofs.lemmas.Bool.{cond_both, eqb-true, eqb-false}
use Rattle.std.proofs.lemmas.List.{length_push}
use Rattle.orca_base.specs.declared.limits.TheConstants.{ENTRIES_BEFORE_PURGE}
use Rattle.group_rules.specs.Messages.{Group}
use Rattle.group_rules.specs.Member.{Report, Kind, Packet, Member, is_acker, has_room, purged}
use Rattle.group_rules.specs.Member.Kind.{Request, Body, Order, Entry, Ack, Accept, Nack, Status, Invite, Join, News}
use Rattle.group_rules.specs.Work.{Act, Work, idle, does, becomes, when}
use Rattle.group_rules.specs.Sequencer.{finish}
use Rattle.group_rules.specs.Receiver.{may_nack, nack, accepts, take_accept, appended, send_ack, take_number, acknowledge, take_entry, take_order}
use Rattle.group_rules.specs.Reset.{heeds, listens, begun, coordinate}
use Rattle.group_rules.specs.Steps.{at_sequencer, at_other, ask_whole, of_later, receive, deliver_kind, ticked}
use Rattle.group_rules.specs.World.{Past, GroupWorld, Event, Sent, after, gnext, run, opening}
use Rattle.group_law.proofs.Grows.{at_both}
use Rattle.group_law.proofs.Ready.{Inv}
use Rattle.group_law.proofs.Events.{happened}
use Rattle.group_law.proofs.Walk.{Came, came_of, nothing, Any, IsTold, Way, Goes, Keeper, Stays, w_finish, w_listens, w_at_other, walk_receive, walk_invited, walk_joined, walk_coordinate, walk_announced, walk_submit, walk_note, walk_timer}
use Rattle.group_law.proofs.Course.{Does, each_event, next_here}

abbrev Whole : {M : Type 0} → Member M → Type 0
Whole s = length s.log ≤ s.accepted

-- an entry is told with an accepted number that reaches it, and a log with one that reaches its end
abbrev pub Wholly : {M : Type 0} → Kind M → Type 0
Wholly (Request a x) = Unit {0}
Wholly (Body a x) = Unit {0}
Wholly (Order n i call a b) = n ≤ a
Wholly (Entry n a b x) = n ≤ a
Wholly (Ack n a) = Unit {0}
Wholly (Accept a b) = Unit {0}
Wholly (Nack n a whole) = Unit {0}
Wholly (Status n a) = Unit {0}
Wholly Invite = Unit {0}
Wholly (Join j) = Unit {0}
Wholly (News a b members log) = length log ≤ a

pub record Wholes {M : Type 0} (w : GroupWorld M) : Type 0 where
  pub whole : (m : ℕ) → length (w.members m).log ≤ (w.members m).accepted
  pub letters : (q : Packet M) → Sent w.past.letters q → Wholly q.kind

record AtOnce {M : Type 0} (p : Past M) (u : Work M) : Type 0 where
  pub whole : Whole u.state
  pub letters : (q : Packet M) → Sent (after u.acts p).letters q → Wholly q.kind

-- ---- single changes, but for what gives or accepts entries

wholly : {M : Type 0} (g : Group M) (m : ℕ) (c : Came) (s : Member M) (k : ℕ) (t : Kind M) → IsTold g m c s k t → Whole s → Wholly t
wholly g m c s k (Request a x) says h = tt
wholly g m c s k (Body a x) says h = tt
wholly g m c s k (Order n i call a b) says h = let x = says.3 in let y = says.4 in omega arith
wholly g m c s k (Entry n a b x) says h = let e = says.3 in let y = says.4 in omega arith
wholly g m c s k (Ack n a) says h = tt
wholly g m c s k (Accept a b) says h = tt
wholly g m c s k (Nack n a whole) says h = tt
wholly g m c s k (Status n a) says h = tt
wholly g m c s k Invite says h = tt
wholly g m c s k (Join j) says h = tt
wholly g m c s k (News a b members log) says h = let x = says.2 in let y : length log ≡ length s.log = ap length says.3 in omega arith

same_false : {a : Bool} → a ≡ true → a ≡ false → ⊥
same_false {a} e f = let q : true ≡ false = sym e ∙ f in cc

keeps_whole : {M : Type 0} (g : Group M) (m : ℕ) (c : Came) (p : Past M) → m < g.nodes → g.resilience ≡ 0 → c.leads ≡ false → Keeper g m c Any (Unit {0}) (AtOnce p)
keeps_whole {M} g m c p low sure follows = record {
  low = low;
  tells = λ u k to t goes way o says h. record { whole = h.whole; letters = λ q. ⊎_elim (λ e. rw e (wholly g m c u.state k t says h.whole)) (λ s. h.letters q s) };
  turns = λ u t how h. record { whole = ⊎_elim (λ l. let a = h.whole in let b = how.accepted in omega arith) (λ e. absurd (same_false e follows)) how.longer; letters = h.letters };
  orders = λ u x here h. record { whole = cond_both (g.resilience == 0) (suc (length u.state.log)) u.state.accepted (λ a. length (u.state.log ++ x ∷ []) ≤ a) (λ e. omega (arith, length_push u.state.log x)) (λ e. absurd (eqb-false g.resilience 0 e sure)); letters = h.letters };
  leaving = λ u l h. record { whole = h.whole; letters = h.letters };
  promising = λ u k le is other h. record { whole = h.whole; letters = h.letters };
}

-- ---- what gives or accepts entries, at another than the sequencer

whole_purged : {M : Type 0} (s : Member M) (stable : ℕ) → Whole s → Whole (purged s stable)
whole_purged {M} s stable h = cond_both (nat_le ENTRIES_BEFORE_PURGE (length s.log - s.base)) (record s { base = max s.base (min stable s.applied) }) s Whole (λ e. h) (λ e. h)

whole_nack : {M : Type 0} (g : Group M) (m : ℕ) (u : Work M) → Whole u.state → Whole (nack g m u).state
whole_nack {M} g m u h = cond_both (may_nack u.state) _ _ (λ (v : Work M). Whole v.state) (λ e. h) (λ e. h)

whole_when : {M : Type 0} (g : Group M) (m : ℕ) (b : Bool) (u : Work M) → Whole u.state → Whole (when b (nack g m) u).state
whole_when {M} g m b u h = cond_both b _ _ (λ (v : Work M). Whole v.state) (λ e. whole_nack g m u h) (λ e. h)

-- a log that the greater of both numbers reaches
abbrev Reaching : {M : Type 0} → ℕ → Work M → Type 0
Reaching a u = length u.state.log ≤ max u.state.accepted a

whole_accept : {M : Type 0} (g : Group M) (m a stable : ℕ) (u : Work M) → Reaching a u → Whole (take_accept g m a stable u).state
whole_accept {M} g m a stable u h = whole_purged _ stable (whole_when g m (nat_lt (length u.state.log) a) (becomes (accepts a u.state) u) accepted)
  where
    accepted : length u.state.log ≤ max u.state.accepted (min a (length u.state.log))
    accepted = let l : length u.state.log ≤ max u.state.accepted a = h in omega arith

reaching_appended : {M : Type 0} (a number : ℕ) (x : M) (s : Member M) (u : Work M) → number ≤ a → number ≡ suc (length s.log) → Whole s → Reaching a (becomes (appended x s) u)
reaching_appended {M} a number x s u le e h = cond_both (has_room s) (record s { log = s.log ++ x ∷ [] }) s (λ (t : Member M). length t.log ≤ max t.accepted a) (λ f. omega (arith, length_push s.log x)) (λ f. let l : length s.log ≤ s.accepted = h in omega arith)

reaching_number : {M : Type 0} (g : Group M) (m number a stable : ℕ) (x : M) (u : Work M) → number ≤ a → Whole u.state → Reaching a (take_number g m number stable x u)
reaching_number {M} g m number a stable x u le h =
    cond_both (number == suc (length u.state.log)) _ _ (Reaching a)
    (λ e. cond_both (nat_le ENTRIES_BEFORE_PURGE (length u.state.log - u.state.base)) (record u.state { base = max u.state.base (min stable u.state.applied) }) u.state (λ (t : Member M). Reaching a (becomes (appended x t) u))
    (λ f. reaching_appended a number x (record u.state { base = max u.state.base (min stable u.state.applied) }) u le (eqb-true number (suc (length u.state.log)) e) h) (λ f. reaching_appended a number x u.state u le (eqb-true number (suc (length u.state.log)) e) h))
    (λ e. let l = whole_when g m (nat_lt (suc (length u.state.log)) number) u h in less l)
  where
    less : {b c : ℕ} → b ≤ c → b ≤ max c a
    less l = omega arith

whole_entry : {M : Type 0} (g : Group M) (m number a stable : ℕ) (x : M) (u : Work M) → number ≤ a → Whole u.state → Whole (take_entry g m number a stable x u).state
whole_entry {M} g m number a stable x u le h = whole_accept g m a stable (acknowledge g m number v) (cond_both (is_acker g m v.state && nat_le number (length v.state.log)) (send_ack g m v) v (Reaching a) (λ e. r) (λ e. r))
  where
    v : Work M
    v = take_number g m number stable x u

    r : Reaching a v
    r = reaching_number g m number a stable x u le h

whole_order : {M : Type 0} (g : Group M) (m number call a stable : ℕ) (o : Option M) (u : Work M) → number ≤ a → Whole u.state → Whole (take_order g m number call a stable o u).state
whole_order g m number call a stable None u le h = whole_nack g m u h
whole_order {M} g m number call a stable (Some x) u le h = cond_both (g.call x == call) (take_entry g m number a stable x u) (nack g m u) (λ (v : Work M). Whole v.state) (λ e. whole_entry g m number a stable x u le h) (λ e. whole_nack g m u h)

-- its packets
record Follows {M : Type 0} (g : Group M) (m : ℕ) (p : Past M) (u : Work M) : Type 0 where
  pub other : m ≡ u.state.installed % g.nodes → ⊥
  pub letters : (q : Packet M) → Sent (after u.acts p).letters q → Wholly q.kind

none_tells : {M : Type 0} (g : Group M) (m : ℕ) (c : Came) (s : Member M) (k to : ℕ) (t : Kind M) → Way g m c k to t → IsTold g m c s k t → (m ≡ s.installed % g.nodes → ⊥) → Wholly t
none_tells g m c s k to (Request a x) way says h = tt
none_tells g m c s k to (Body a x) way says h = tt
none_tells g m c s k to (Order n i call a b) way says h = absurd (h says.1)
none_tells g m c s k to (Entry n a b x) way says h = absurd (h says.1)
none_tells g m c s k to (Ack n a) way says h = tt
none_tells g m c s k to (Accept a b) way says h = tt
none_tells g m c s k to (Nack n a whole) way says h = tt
none_tells g m c s k to (Status n a) way says h = tt
none_tells g m c s k to Invite way says h = tt
none_tells g m c s k to (Join j) way says h = tt
none_tells g m c s k to (News a b members log) way says h = absurd (h (way ∙ ap (λ i. i % g.nodes) says.0))

keeps_follows : {M : Type 0} (g : Group M) (m : ℕ) (c : Came) (p : Past M) → m < g.nodes → Keeper g m c Any (Unit {0}) (Follows g m p)
keeps_follows {M} g m c p low = record {
  low = low;
  tells = λ u k to t goes way o says h. record { other = h.other; letters = λ q. ⊎_elim (λ e. rw e (none_tells g m c u.state k to t way says h.other)) (λ s. h.letters q s) };
  turns = λ u t how h. record { other = λ e. h.other (e ∙ ap (λ i. i % g.nodes) how.installed); letters = h.letters };
  orders = λ u x here h. absurd (h.other here);
  leaving = λ u l h. record { other = h.other; letters = h.letters };
  promising = λ u k le is other h. record { other = h.other; letters = h.letters };
}

-- ---- a packet that gives or accepts entries

-- where the sequencer does nothing for it, and a member of an earlier incarnation asks for the whole log
whole_led : {M : Type 0} (g : Group M) (m from k : ℕ) (t : Kind M) (s : Member M) (p : Past M) → m < g.nodes → g.resilience ≡ 0 → ((u : Work M) → at_sequencer g m from t u ≡ u) → of_later m from k t (idle s) ≡ ask_whole m from k (idle s) → ((u : Work M) → Whole u.state → Whole (at_other g m t u).state) → AtOnce p (idle s) → AtOnce p (receive g m from k t s)
whole_led {M} g m from k t s p low sure leads late follows h =
    cond_both (not (heeds s k)) _ _ (AtOnce p) (λ e. h)
    (λ e. cond_both (k == s.installed) _ _ (AtOnce p)
    (λ f. cond_both (k % g.nodes == m) _ _ (AtOnce p)
    (λ q. subst (λ (v : Work M). AtOnce p (finish g m v)) (sym (leads u)) (w_finish (keeps_whole g m nothing p low sure refl) tt u (record { at = refl; is = record { whole = heard; letters = h.letters } })).is)
    (λ q. other (eqb-true k s.installed f) (eqb-false (k % g.nodes) m q)))
    (λ f. subst (AtOnce p) (sym late) (record { whole = h.whole; letters = λ q. ⊎_elim (λ e. rw e tt) (λ v. h.letters q v) })))
  where
    u : Work M
    u = idle (listens g from k s)

    heard : Whole (listens g from k s)
    heard = cond_both ((k == s.installed) && (from == k % g.nodes)) (record s { silent = 0 }) s Whole (λ e. h.whole) (λ e. h.whole)

    other : k ≡ s.installed → (k % g.nodes ≡ m → ⊥) → AtOnce p (at_other g m t u)
    other at apart =
        let K = keeps_follows g m (came_of from k t) p low in
        let start : Stays (Follows g m p) s.installed u = w_listens K from k s (record { other = λ e. apart (ap (λ i. i % g.nodes) at ∙ sym e); letters = h.letters }) in
        let done : Stays (Follows g m p) k (at_other g m t u) = w_at_other from t K tt tt u (λ e. apart (sym e)) (subst (λ (i : ℕ). Stays (Follows g m p) i u) (sym at) start) in
        record { whole = follows u heard; letters = done.is.letters }

-- ---- every event

begins_whole : {M : Type 0} (g : Group M) {p : Past M} (u : Work M) (b : Report M) → g.resilience ≡ 0 → AtOnce p u → AtOnce p (does (Act.Begins u.state.promised b.log u.state.answers) (becomes (begun g b u.state) u))
begins_whole {M} g {p} u b sure h = record { whole = cond_both (g.resilience == 0) (length b.log) _ (λ a. length b.log ≤ a) (λ e. le_refl _) (λ e. absurd (eqb-false g.resilience 0 e sure)); letters = h.letters }

coordinate_whole : {M : Type 0} (g : Group M) (m : ℕ) (s : Member M) (p : Past M) → m < g.nodes → g.resilience ≡ 0 → AtOnce p (idle s) → AtOnce p (coordinate g m s)
coordinate_whole g m s p low sure h = walk_coordinate (keeps_whole g m nothing p low sure refl) tt tt tt s (next_here g m s.promised low)
    (record { whole = h.whole; letters = λ q. ⊎_elim (λ e. rw e tt) (λ v. h.letters q v) }) (λ u b e d best many base. begins_whole g u b sure d) (λ b e l. tt) h

whole_rows : {M : Type 0} {g : Group M} {w : GroupWorld M} (event : Event M) → g.resilience ≡ 0 → Inv g w → Wholes w → Does g w event (λ m p u. AtOnce p u)
whole_rows {M} {g} {w} event sure h t = record {
  submit = λ m x low is can. walk_submit (alone m _ low) tt tt x (w.members m) (record { whole = t.whole m; letters = t.letters });
  deliver = λ m q low sent goes. comes m q.from q.inc q.kind low goes sent;
  timer = λ m low is. walk_timer (alone m w.past low) tt tt tt tt (w.members m) (λ d. coordinate_whole g m (ticked g m (w.members m)) w.past low sure d) (rest m);
  coordinate = λ m low is. coordinate_whole g m (w.members m) w.past low sure (rest m);
  note = λ m n low is above le. walk_note (alone m w.past low) tt tt n (w.members m) (record { whole = t.whole m; letters = t.letters });
}
  where
    alone : (m : ℕ) (p : Past M) → m < g.nodes → Keeper g m nothing Any (Unit {0}) (AtOnce p)
    alone m p low = keeps_whole g m nothing p low sure refl

    rest : (m : ℕ) → AtOnce w.past (idle (w.members m))
    rest m = record { whole = t.whole m; letters = t.letters }

    comes : (m from k : ℕ) (v : Kind M) → m < g.nodes → Goes g m from → Sent w.past.letters (record { inc = k; from = from; kind = v }) → AtOnce w.past (deliver_kind g m from k v (w.members m))
    comes m from k (Request a x) low goes sent = walk_receive from k (Request a x) _ (keeps_whole g m (came_of from k (Request a x)) w.past low sure refl) tt tt tt tt tt goes (rest m)
    comes m from k (Body a x) low goes sent = walk_receive from k (Body a x) _ (keeps_whole g m (came_of from k (Body a x)) w.past low sure refl) tt tt tt tt tt goes (rest m)
    comes m from k (Order n i call a b) low goes sent = whole_led g m from k (Order n i call a b) (w.members m) w.past low sure (λ u. refl) refl (λ u d. whole_order g m n call a b (u.state.bodies i) u (t.letters (record { inc = k; from = from; kind = Order n i call a b }) sent) d) (rest m)
    comes m from k (Entry n a b x) low goes sent = whole_led g m from k (Entry n a b x) (w.members m) w.past low sure (λ u. refl) refl (λ u d. whole_entry g m n a b x u (t.letters (record { inc = k; from = from; kind = Entry n a b x }) sent) d) (rest m)
    comes m from k (Ack n a) low goes sent = walk_receive from k (Ack n a) _ (keeps_whole g m (came_of {M = M} from k (Ack n a)) w.past low sure refl) tt tt tt tt tt goes (rest m)
    comes m from k (Accept a b) low goes sent = whole_led g m from k (Accept a b) (w.members m) w.past low sure (λ u. refl) refl (λ u d. whole_accept g m a b u (let l : length u.state.log ≤ u.state.accepted = d in omega arith)) (rest m)
    comes m from k (Nack n a whole) low goes sent = walk_receive from k (Nack n a whole) _ (keeps_whole g m (came_of {M = M} from k (Nack n a whole)) w.past low sure refl) tt tt tt tt tt goes (rest m)
    comes m from k (Status n a) low goes sent = walk_receive from k (Status n a) _ (keeps_whole g m (came_of {M = M} from k (Status n a)) w.past low sure refl) tt tt tt tt tt goes (rest m)
    comes m from k Invite low goes sent = walk_invited (keeps_whole g m (came_of {M = M} from k Invite) w.past low sure refl) tt from k _ refl (rest m)
    comes m from k (Join j) low goes sent = walk_joined (keeps_whole g m (came_of from k (Join j)) w.past low sure refl) tt tt from k j _ (λ o is. (record { whole = t.whole m; letters = t.letters }, λ u b e d best many base. begins_whole g u b sure d, λ b e l. tt)) (rest m)
    comes m from k (News a b members log) low goes sent = walk_announced (keeps_whole g m (came_of from k (News a b members log)) w.past low sure refl) tt tt from k a b members log _ refl other (λ above le base. record { whole = news; letters = t.letters }) (λ x y. tt) (λ x y z. tt) (rest m)
      where
        other : (w.members m).installed < k → m ≡ k % g.nodes → ⊥
        other above e = let l = (h.fits m).bounds.leads k (h.sound.tells (record { inc = k; from = from; kind = News a b members log }) sent).up e in omega arith

        news : length log ≤ max a (w.members m).accepted
        news = let l : length log ≤ a = t.letters (record { inc = k; from = from; kind = News a b members log }) sent in omega arith

whole_at : {M : Type 0} {g : Group M} {w : GroupWorld M} (event : Event M) → g.resilience ≡ 0 → Inv g w → Wholes w → Wholes (gnext g w event)
whole_at {M} {g} {w} event sure h t = each_event (λ m p u. AtOnce p u) Wholes event h (whole_rows event sure h t)
    (λ m p u low d. record { whole = λ x. at_both w.members m u.state x (λ s. length s.log ≤ s.accepted) (λ e. d.whole) (λ e. t.whole x); letters = d.letters }) (λ lives. record { whole = t.whole; letters = t.letters }) t

pub whole_runs : {M : Type 0} {g : Group M} (w : GroupWorld M) (es : List (Event M)) → 2 * g.resilience < g.nodes → g.resilience ≡ 0 → Inv g w → Wholes w → Wholes (run g w es)
whole_runs w [] small sure h t = t
whole_runs {M} {g} w (e ∷ es) small sure h t = whole_runs (gnext g w e) es small sure (happened e small h) (whole_at e sure h t)

pub whole_opened : {M : Type 0} → Wholes (opening {M = M})
whole_opened = record { whole = λ m. zero-le; letters = λ q s. absurd s }
