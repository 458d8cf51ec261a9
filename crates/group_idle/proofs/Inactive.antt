-- A member that promised an incarnation above the one that it installed: each tick makes it one more silent, until it coordinates.
use Rattle.std.proofs.Common.{◌≡◌, ℕ, zero, suc, ◌+◌, ◌-◌, ◌%◌, ◌≤◌, ◌<◌, ◌==◌, ◌&&◌, ◌||◌, not, min, nat_lt, nat_le, ◌⊎◌, inl, inr, ⊎_elim, Bool, true, false, Option, Some, None, List, [], ◌∷◌, length, refl, sym, ap, ◌∙◌, arith, le_refl, subst, if◌then◌else◌}
use Rattle.std.proofs.lemmas.Bool.{cond_both, eqb-true, leb-true, leb-false, ltb-true, ltb-false, and_parts, not-false}
use Rattle.orca_base.specs.declared.limits.TheConstants.{MESSAGE_BY_REQUEST, PATIENCE}
use Rattle.group_rules.specs.Sets.{count}
use Rattle.group_rules.specs.Messages.{Group, is_repeat}
use Rattle.group_rules.specs.Member.{Report, Kind, Packet, Member, is_active, leads, is_acker, is_gathering}
use Rattle.group_rules.specs.Member.Kind.{Request, Body, Order, Entry, Ack, Accept, Nack, Status, Invite, Join, News}
use Rattle.group_rules.specs.Work.{Work, idle, becomes}
use Rattle.group_rules.specs.World.{acts_on}
use Rattle.group_rules.specs.Receiver.{is_newer, keep_body, request, request_all, send_ack}
use Rattle.group_rules.specs.Reset.{gave, best, most_accepted, applied_of, heeds, listens, promises, promises_above, answer, keeps, install, gather, told, take_news, invited, joined, announced}
use Rattle.group_rules.specs.Steps.{SILENCE, is_empty, pends, submit, receive, of_later, deliver, ticked, is_due, invite_again, send_again_all, timer}
use Rattle.group_law.proofs.Walk.{nothing, walk_take_over, gathering_if}
use Rattle.group_idle.specs.Net.{Net, Move, moves}
use Rattle.group_idle.specs.Idle.{Unmoved}
use Rattle.group_idle.proofs.Parts.{InactiveLaw}
use Rattle.group_idle.proofs.Rising.{keeps_above, coordinate_above, told_others_state}
use Rattle.group_idle.proofs.Stretches.{Steps, submit_keeps, deliver_keeps, Climbs, climb, timed, lives_submit, lives_deliver, lives_tick, acts_same}

abbrev Lags : {M : Type 0} → Member M → Type 0
Lags s = s.installed < s.promised

-- it is as silent as before, or moved
abbrev pub Kept : {M : Type 0} → Member M → Work M → Type 0
Kept s v = (s.silent ≤ v.state.silent) ⊎ ((s.installed < v.state.installed) ⊎ (s.promised < v.state.promised))

pub no : {A : Type 0} → true ≡ false → A
no e = absurd cc

inactive_is : {M : Type 0} (s : Member M) → Lags s → is_active s ≡ false
inactive_is s l = by (s.installed == s.promised) refl
  where
    by : (b : Bool) → (s.installed == s.promised) ≡ b → (b && not s.outside) ≡ false
    by true e = let d = eqb-true s.installed s.promised e in absurd (omega arith)
    by false e = refl

not_leading : {M : Type 0} (g : Group M) (m : ℕ) (s : Member M) → Lags s → leads g m s ≡ false
not_leading g m s l = ap (λ (b : Bool). b && (s.installed % g.nodes == m)) (inactive_is s l)

submit_kept : {M : Type 0} (g : Group M) (m : ℕ) (x : M) (s : Member M) → Lags s → s.silent ≤ (submit g m x s).state.silent
submit_kept {M} g m x s l = cond_both (is_active (pends g x s)) _ _ (λ (v : Work M). s.silent ≤ v.state.silent) (λ e. no (sym e ∙ inactive_is (pends g x s) l)) (λ e. le_refl _)

-- ---- what comes

pub later_kept : {M : Type 0} (m from k : ℕ) (t : Kind M) (s : Member M) → s.silent ≤ (of_later m from k t (idle s)).state.silent
later_kept m from k (Request a x) s = le_refl _
later_kept m from k (Body a x) s = le_refl _
later_kept m from k (Order n i c a b) s = le_refl _
later_kept m from k (Entry n a b x) s = le_refl _
later_kept m from k (Ack n a) s = le_refl _
later_kept m from k (Accept a b) s = le_refl _
later_kept m from k (Nack n a whole) s = le_refl _
later_kept m from k (Status n a) s = le_refl _
later_kept m from k Invite s = le_refl _
later_kept m from k (Join j) s = le_refl _
later_kept m from k (News a b members log) s = le_refl _

pub heeded : {M : Type 0} (s : Member M) (k : ℕ) → heeds s k ≡ true → s.promised ≤ k
heeded s k e = leb-true s.promised k (and_parts (not s.outside) (nat_le s.promised k) e).1

receive_kept : {M : Type 0} (g : Group M) (m from k : ℕ) (t : Kind M) (s : Member M) → Lags s → s.silent ≤ (receive g m from k t s).state.silent
receive_kept {M} g m from k t s l = cond_both (not (heeds s k)) _ _ (λ (v : Work M). s.silent ≤ v.state.silent) (λ e. le_refl _)
    (λ e. let h = heeded s k (not-false (heeds s k) e) in cond_both (k == s.installed) _ _ (λ (v : Work M). s.silent ≤ v.state.silent) (λ q. let d = eqb-true k s.installed q in absurd (omega arith)) (λ q. later_kept m from k t s))

-- a packet of an incarnation that it heeds is of a later one than the installed: it hears nothing of its sequencer
pub listens_not : {M : Type 0} (g : Group M) (from k : ℕ) (s : Member M) → Lags s → s.promised ≤ k → listens g from k s ≡ s
listens_not g from k s l h = cond_both ((k == s.installed) && (from == k % g.nodes)) _ s (λ t. t ≡ s) (λ e. let d = eqb-true k s.installed (and_parts (k == s.installed) (from == k % g.nodes) e).0 in absurd (omega arith)) (λ e. refl)

pub answer_state : {M : Type 0} (g : Group M) (m k : ℕ) (s : Member M) → (answer g m k (idle s)).state ≡ s
answer_state {M} g m k s = cond_both (nat_lt s.installed k) _ _ (λ (v : Work M). v.state ≡ s) (λ e. refl) (λ e. refl)

invited_kept : {M : Type 0} (g : Group M) (m from k : ℕ) (s : Member M) → Lags s → Kept s (invited g m from k s)
invited_kept {M} g m from k s l = cond_both (heeds s k && not (k % g.nodes == m)) _ _ (λ (v : Work M). Kept s v)
    (λ e. go (heeded s k (and_parts (heeds s k) (not (k % g.nodes == m)) e).0)) (λ e. inl (le_refl _))
  where
    to : (t : Member M) → (s.silent ≤ t.silent) ⊎ (s.promised < t.promised) → Kept s (answer g m k (idle t))
    to t o = ⊎_elim (λ a. inl (subst (λ (u : Member M). s.silent ≤ u.silent) (sym (answer_state g m k t)) a)) (λ a. inr (inr (subst (λ (u : Member M). s.promised < u.promised) (sym (answer_state g m k t)) a))) o

    go : s.promised ≤ k → Kept s (answer g m k (idle (promises_above k (listens g from k s))))
    go h = subst (λ (t : Member M). Kept s (answer g m k (idle (promises_above k t)))) (sym (listens_not g from k s l h)) (to (promises_above k s) (cond_both (nat_lt s.promised k) (promises k s) s (λ (t : Member M). (s.silent ≤ t.silent) ⊎ (s.promised < t.promised)) (λ e. inr (ltb-true s.promised k e)) (λ e. inl (le_refl _))))

gather_kept : {M : Type 0} (g : Group M) (m : ℕ) (s t : Member M) → m < g.nodes → m ≡ t.promised % g.nodes → s.installed < t.promised → s.silent ≤ t.silent → Kept s (gather g m (idle t))
gather_kept {M} g m s t low here above h = cond_both (nat_le (g.nodes - g.resilience) (count g.nodes (gave t.answers))) _ _ (λ (v : Work M). Kept s v) (λ e. go (best g.nodes t.answers)) (λ e. inl h)
  where
    go : (o : Option (Report M)) → Kept s (install g m o (idle t))
    go None = inl h
    go (Some kept) = cond_both (nat_le kept.base t.applied) _ _ (λ (v : Work M). Kept s v)
        (λ e. let a = (walk_take_over (keeps_above g m nothing 0 t.promised low) tt tt t.promised (most_accepted g.nodes t.answers t.accepted) kept.base (gave t.answers) kept.log (λ x. applied_of (t.answers x)) t.answers (idle t) here (record { promised = omega arith; installed = le_refl _ })).installed in inr (inl (omega arith)))
        (λ e. inl h)

joined_kept : {M : Type 0} (g : Group M) (m from k : ℕ) (j : Report M) (s : Member M) → m < g.nodes → Lags s → Kept s (joined g m from k j s)
joined_kept {M} g m from k j s low l = cond_both (is_gathering g m s && (k == s.promised)) _ _ (λ (v : Work M). Kept s v)
    (λ e. let a = gathering_if g m s (and_parts (is_gathering g m s) (k == s.promised) e).0 in gather_kept g m s (keeps from j s) low a.here l (le_refl _)) (λ e. inl (le_refl _))

pub request_installed : {M : Type 0} (g : Group M) (m : ℕ) (x : M) (u : Work M) → (request g m x u).state.installed ≡ u.state.installed
request_installed {M} g m x u = cond_both (nat_le (g.bytes x) MESSAGE_BY_REQUEST) _ _ (λ (v : Work M). v.state.installed ≡ u.state.installed) (λ e. refl)
    (λ e. ap (λ (t : Member M). t.installed) (told_others_state g.nodes m _ _ (becomes (keep_body g x u.state) u)) ∙ cond_both (is_newer g x (u.state.bodies (g.process x))) _ u.state (λ (t : Member M). t.installed ≡ u.state.installed) (λ q. refl) (λ q. refl))

pub requests_installed : {M : Type 0} (g : Group M) (m : ℕ) (xs : List M) (u : Work M) → (request_all g m xs u).state.installed ≡ u.state.installed
requests_installed g m [] u = refl
requests_installed {M} g m (x ∷ xs) u = requests_installed g m xs (if is_repeat g u.state.log x then u else request g m x u) ∙ cond_both (is_repeat g u.state.log x) u (request g m x u) (λ (v : Work M). v.state.installed ≡ u.state.installed) (λ e. refl) (λ e. request_installed g m x u)

announced_kept : {M : Type 0} (g : Group M) (m from k a b : ℕ) (members : ℕ → Bool) (log : List M) (s : Member M) → Lags s → Kept s (announced g m from k a b members log s)
announced_kept {M} g m from k a b members log s l = cond_both (not (heeds s k)) _ _ (λ (v : Work M). Kept s v) (λ e. inl (le_refl _))
    (λ e. let h = heeded s k (not-false (heeds s k) e) in
    cond_both (nat_lt s.installed k) _ _ (λ (v : Work M). Kept s v)
    (λ q. cond_both (nat_le b s.applied) _ _ (λ (v : Work M). Kept s v) (λ r. inr (inl (news (ltb-true s.installed k q)))) (λ r. cond_both (nat_lt s.promised k) (promises k s) s (λ (t : Member M). (s.silent ≤ t.silent) ⊎ ((s.installed < t.installed) ⊎ (s.promised < t.promised))) (λ f. inr (inr (ltb-true s.promised k f))) (λ f. inl (le_refl _))))
    (λ q. let d = ltb-false s.installed k q in absurd (omega arith)))
  where
    t : Member M
    t = told k a b members log s

    news : s.installed < k → s.installed < (take_news g m k a b members log s).state.installed
    news up = let i = requests_installed g m t.pending (if is_acker g m t then send_ack g m (idle t) else idle t) in
        let j = cond_both (is_acker g m t) (send_ack g m (idle t)) (idle t) (λ (v : Work M). v.state.installed ≡ k) (λ e. refl) (λ e. refl) in
        omega arith

deliver_kept : {M : Type 0} (g : Group M) (m : ℕ) (q : Packet M) (s : Member M) → m < g.nodes → Lags s → Kept s (deliver g m q s)
deliver_kept {M} g m q s low l = go q.kind
  where
    go : (t : Kind M) → Kept s (deliver g m (record { inc = q.inc; from = q.from; kind = t }) s)
    go (Request a x) = inl (receive_kept g m q.from q.inc (Request a x) s l)
    go (Body a x) = inl (receive_kept g m q.from q.inc (Body a x) s l)
    go (Order n i c a b) = inl (receive_kept g m q.from q.inc (Order n i c a b) s l)
    go (Entry n a b x) = inl (receive_kept g m q.from q.inc (Entry n a b x) s l)
    go (Ack n a) = inl (receive_kept g m q.from q.inc (Ack n a) s l)
    go (Accept a b) = inl (receive_kept g m q.from q.inc (Accept a b) s l)
    go (Nack n a whole) = inl (receive_kept g m q.from q.inc (Nack n a whole) s l)
    go (Status n a) = inl (receive_kept g m q.from q.inc (Status n a) s l)
    go Invite = invited_kept g m q.from q.inc s l
    go (Join j) = joined_kept g m q.from q.inc j s low l
    go (News a b members log) = announced_kept g m q.from q.inc a b members log s l

-- ---- a tick

invites_state : {M : Type 0} (n m : ℕ) (u : Work M) → (invite_again n m u).state ≡ u.state
invites_state zero m u = refl
invites_state {M} (suc n) m u = cond_both ((n == m) || gave (invite_again n m u).state.answers n) _ _ (λ (v : Work M). v.state ≡ u.state) (λ e. invites_state n m u) (λ e. invites_state n m u)

again_state : {M : Type 0} (g : Group M) (m : ℕ) (t : Member M) → Lags t → (send_again_all g m (idle t)).state ≡ t
again_state {M} g m t l = cond_both (is_active t) _ _ (λ (v : Work M). v.state ≡ t) (λ e. no (sym e ∙ inactive_is t l))
    (λ e. cond_both (is_gathering g m t) _ _ (λ (v : Work M). v.state ≡ t) (λ q. invites_state g.nodes m (idle t)) (λ q. refl))

pub record Ticked (m : ℕ) (before after : ℕ) : Type 0 where
  pub more : suc before ≤ after
  pub less : after < PATIENCE + m

tick_kept : {M : Type 0} (g : Group M) (m : ℕ) (s : Member M) → m < g.nodes → g.nodes ≤ 256 → Lags s → Unmoved s (timer g m s).state → Ticked m s.silent (timer g m s).state.silent
tick_kept {M} g m s low few l = cond_both s.outside _ _ Goal (λ e o. no (sym e ∙ o.inside))
    (λ e. cond_both (is_due m t) _ _ Goal (λ q o. let a = coordinate_above g m t low o.inside in let b = o.promised in absurd (omega arith)) (λ q o. subst (λ (u : Member M). Ticked m s.silent u.silent) (sym (again_state g m t l)) (record {
      more = let a = silent in let b = leb-false (PATIENCE + m) t.silent q in omega arith;
      less = leb-false (PATIENCE + m) t.silent q;
    })))
  where
    t : Member M
    t = ticked g m s

    Goal : Work M → Type 0
    Goal v = Unmoved s v.state → Ticked m s.silent v.state.silent

    silent : t.silent ≡ min (suc s.silent) SILENCE
    silent = ap (λ (b : Bool). if (b && (nat_le (length s.log) s.accepted && is_empty s.waiting)) then 0 else min (suc s.silent) SILENCE) (not_leading g m s l)

-- ---- a stretch

pub record Lagging {M : Type 0} (g : Group M) (m : ℕ) (n : Net M) : Type 0 where
  pub acts : acts_on g n.world m ≡ true
  pub lags : Lags (n.world.members m)

still_lags : {M : Type 0} {s t : Member M} → Lags s → Unmoved s t → Lags t
still_lags l o = let a = o.installed in let b = o.promised in omega arith

steps : {M : Type 0} (g : Group M) (m : ℕ) → m < g.nodes → Steps g m (λ (s t : Member M). Lags s → s.silent ≤ t.silent)
steps {M} g m low = record {
  submits = λ x s o l. submit_kept g m x s l;
  delivers = λ q s other o l. ⊎_elim (λ a. a) (λ a. ⊎_elim (λ b. let c = o.installed in absurd (omega arith)) (λ b. let c = o.promised in absurd (omega arith)) a) (deliver_kept g m q s low l);
  rests = λ s l. le_refl _;
}

climbs : {M : Type 0} (g : Group M) (m : ℕ) → m < g.nodes → g.nodes ≤ 256 → Climbs g m (PATIENCE + m) (Lagging {M = M} g m)
climbs {M} g m low few = record {
  submits = λ n y x c still. (record { acts = acts_same g n (moves g n (Move.Submits y x)) m (lives_submit g n y x) c.acts; lags = still_lags c.lags (still m low) }, submit_keeps (steps g m low) n y x still c.lags);
  delivers = λ n place c still. (record { acts = acts_same g n (moves g n (Move.Delivers place)) m (lives_deliver g n place) c.acts; lags = still_lags c.lags (still m low) }, deliver_keeps (steps g m low) n place still c.lags);
  ticks = λ n c none still.
      let e = (timed g n g.nodes).ran m low c.acts in
      let k = tick_kept g m (n.world.members m) low few c.lags (subst (λ (t : Member M). Unmoved (n.world.members m) t) e (still m low)) in
      let d = subst (λ (t : Member M). Ticked m (n.world.members m).silent t.silent) (sym e) k in
      (record { acts = acts_same g n (moves g n Move.Ticks) m (lives_tick g n) c.acts; lags = still_lags c.lags (still m low) }, d.more, d.less);
}

pub inactive : (M : Type 0) → InactiveLaw M
inactive M g few n m acts lags list idle =
    let low = ltb-true m g.nodes (and_parts (nat_lt m g.nodes) (n.world.lives m) acts).0 in
    ⊎_elim (λ e. omega arith) (λ l. omega arith) (climb (climbs g m low few) list n (record { acts = acts; lags = lags }) idle)
