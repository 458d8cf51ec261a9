-- What waits for room: a note accepts more only by it, and where there is room nothing waits.
use Rattle.std.proofs.Common.{◌≡◌, ℕ, zero, suc, ◌-◌, ◌*◌, ◌%◌, ◌≤◌, ◌<◌, ◌==◌, ◌&&◌, ◌||◌, not, max, min, nat_lt, nat_le, ◌⊎◌, inl, inr, Bool, true, false, Option, Some, None, List, [], ◌∷◌, length, refl, sym, ap, ◌∙◌, arith, le_refl, subst, if◌then◌else◌}
use Rattle.std.proofs.lemmas.Bool.{cond_both, eqb-true, eqb-false, ltb-true, and_parts}
use Rattle.orca_base.specs.declared.limits.TheConstants.{ENTRIES_BEFORE_PURGE}
use Rattle.group_rules.specs.Sets.{count}
use Rattle.group_rules.specs.Messages.{Group}
use Rattle.group_rules.specs.Member.{Report, Kind, Member, Waiting, is_active, leads, is_gathering, is_acker, has_room, purged, stable_of, leaves}
use Rattle.group_rules.specs.Member.Kind.{Request, Body, Order, Entry, Ack, Accept, Nack, Status, Invite, Join, News}
use Rattle.group_rules.specs.Work.{Act, Work, idle, does, becomes, tell, tell_below, tell_others, when}
use Rattle.group_rules.specs.Sequencer.{news_of, ask, ask_own, order_waiting, order_while_room, finish}
use Rattle.group_rules.specs.Receiver.{request, request_all, send_ack, send_status}
use Rattle.group_rules.specs.Reset.{heeds, listens, promises, promises_above, answer, invited, gave, best, begun, begin, install, gather, keeps, joined, next_incarnation, invite, coordinate, told, take_news, announced}
use Rattle.group_rules.specs.Steps.{pends, submit, at_sequencer, at_other, of_later, receive, deliver_kind, ticked, is_due, invite_again, send_again_all, timer, noted, should_report}
use Rattle.group_rules.specs.World.{GroupWorld, Event, Sent, gnext, run, opening}
use Rattle.group_law.proofs.Grows.{at_both}
use Rattle.group_law.proofs.Ready.{Inv}
use Rattle.group_law.proofs.Events.{happened}
use Rattle.group_law.proofs.Walk.{Came, came_of, nothing, Any, Keeper, Stays, w_listens, w_at_other, w_request, w_request_all, w_send_ack, w_send_status, active_other, gathering_if}
use Rattle.group_law.proofs.Course.{Does, each_event, next_above}
use Rattle.group_law.specs.Members.{WaitedLaw}

-- ---- what is ordered waited

fewer : {M : Type 0} (g : Group M) (m : ℕ) (ws : List (Waiting M)) (u : Work M) → length (order_while_room g m ws u).state.waiting ≤ length ws
fewer g m [] u = le_refl _
fewer {M} g m (v ∷ ws) u = cond_both (has_room u.state) (order_while_room g m ws (order_waiting g m v u)) (becomes (record u.state { waiting = v ∷ ws }) u) (λ (o : Work M). length o.state.waiting ≤ suc (length ws)) (λ e. let l = fewer g m ws (order_waiting g m v u) in omega arith) (λ e. le_refl _)

-- it knows no more to be accepted, or fewer messages wait
abbrev Waited : {M : Type 0} → ℕ → ℕ → Work M → Type 0
Waited a n u = (u.state.accepted ≡ a) ⊎ (length u.state.waiting < n)

waited_order : {M : Type 0} (g : Group M) (m : ℕ) (ws : List (Waiting M)) (u : Work M) → Waited u.state.accepted (length ws) (order_while_room g m ws u)
waited_order g m [] u = inl refl
waited_order {M} g m (v ∷ ws) u = cond_both (has_room u.state) (order_while_room g m ws (order_waiting g m v u)) (becomes (record u.state { waiting = v ∷ ws }) u) (Waited u.state.accepted (suc (length ws))) (λ e. inr (let l = fewer g m ws (order_waiting g m v u) in omega arith)) (λ e. inl refl)

waited_finish : {M : Type 0} (g : Group M) (m : ℕ) (u : Work M) → Waited u.state.accepted (length u.state.waiting) (finish g m u)
waited_finish {M} g m u =
    cond_both (leads g m u.state) _ _ (Waited u.state.accepted (length u.state.waiting))
    (λ e. cond_both (nat_le ENTRIES_BEFORE_PURGE (length u.state.log - u.state.base)) (record u.state { base = max u.state.base (min (stable_of g m u.state) u.state.applied) }) u.state (λ (t : Member M). Waited u.state.accepted (length u.state.waiting) (order_while_room g m t.waiting (becomes t u)))
    (λ f. waited_order g m u.state.waiting (becomes (record u.state { base = max u.state.base (min (stable_of g m u.state) u.state.applied) }) u)) (λ f. waited_order g m u.state.waiting (becomes u.state u)))
    (λ e. inl refl)

pub waited_law : (M : Type 0) → WaitedLaw M
waited_law M g m n s = cond_both (should_report g m n s) (send_status g m (idle (noted g n s))) (idle (noted g n s)) (λ (u : Work M). Waited s.accepted (length s.waiting) (finish g m u)) (λ e. waited_finish g m (send_status g m (idle (noted g n s)))) (λ e. waited_finish g m (idle (noted g n s)))

-- ---- where there is room nothing waits

abbrev pub Roomy : {M : Type 0} → Group M → ℕ → Member M → Type 0
Roomy g m s = leads g m s ≡ true → has_room s ≡ true → s.waiting ≡ []

record RoomyWork {M : Type 0} (g : Group M) (m : ℕ) (u : Work M) : Type 0 where
  pub is : Roomy g m u.state

never : {a : Bool} → a ≡ true → a ≡ false → ⊥
never {a} e f = let q : true ≡ false = sym e ∙ f in cc

room_order : {M : Type 0} (g : Group M) (m : ℕ) (ws : List (Waiting M)) (u : Work M) → RoomyWork g m (order_while_room g m ws u)
room_order g m [] u = record { is = λ l r. refl }
room_order {M} g m (v ∷ ws) u = cond_both (has_room u.state) (order_while_room g m ws (order_waiting g m v u)) (becomes (record u.state { waiting = v ∷ ws }) u) (RoomyWork g m) (λ e. room_order g m ws (order_waiting g m v u)) (λ e. record { is = λ l r. absurd (never r e) })

room_finish : {M : Type 0} (g : Group M) (m : ℕ) (u : Work M) → RoomyWork g m (finish g m u)
room_finish {M} g m u = cond_both (leads g m u.state) (order_while_room g m t.waiting (becomes t u)) u (RoomyWork g m) (λ e. room_order g m t.waiting (becomes t u)) (λ e. record { is = λ l r. absurd (never l e) })
  where
    t : Member M
    t = purged u.state (stable_of g m u.state)

-- who isn't the sequencer, has promised another incarnation or is outside leads nobody
room_other : {M : Type 0} (g : Group M) (m : ℕ) (s : Member M) → (m ≡ s.installed % g.nodes → ⊥) → Roomy g m s
room_other g m s other l r = absurd (other (sym (eqb-true (s.installed % g.nodes) m (and_parts (is_active s) (s.installed % g.nodes == m) l).1)))

room_apart : {M : Type 0} (g : Group M) (m : ℕ) (s : Member M) → s.installed < s.promised → Roomy g m s
room_apart g m s above l r =
    let e = eqb-true s.installed s.promised (and_parts (s.installed == s.promised) (not s.outside) (and_parts (is_active s) (s.installed % g.nodes == m) l).0).0 in
    absurd (omega arith)

room_left : {M : Type 0} (g : Group M) (m : ℕ) (s : Member M) → Roomy g m (leaves s)
room_left g m s l r =
    let e : false ≡ true = (and_parts (s.installed == s.promised) false (and_parts (is_active (leaves s)) (s.installed % g.nodes == m) l).0).1 in
    absurd cc

-- ---- what leaves the state

others_state : {M : Type 0} (g : Group M) (m k : ℕ) (t : Kind M) (u : Work M) → (tell_others g m k t u).state ≡ u.state
others_state {M} g m k t u = below g.nodes
  where
    below : (n : ℕ) → (tell_below n m k t u).state ≡ u.state
    below zero = refl
    below (suc n) = cond_both (n == m) (tell_below n m k t u) (tell m k t n (tell_below n m k t u)) (λ (v : Work M). v.state ≡ u.state) (λ e. below n) (λ e. below n)

again_state : {M : Type 0} (n m : ℕ) (u : Work M) → (invite_again n m u).state ≡ u.state
again_state zero m u = refl
again_state {M} (suc n) m u =
    let i = again_state n m u in
    let v = invite_again n m u in
    cond_both ((n == m) || gave v.state.answers n) v (tell m v.state.promised Invite n v) (λ (o : Work M). o.state ≡ u.state) (λ e. i) (λ e. i)

-- ---- the rows

-- who isn't the sequencer stays so in its incarnation
abbrev Other : {M : Type 0} → Group M → ℕ → Work M → Type 0
Other g m u = m ≡ u.state.installed % g.nodes → ⊥

keeps_other : {M : Type 0} (g : Group M) (m : ℕ) (c : Came) → m < g.nodes → Keeper g m c Any (Unit {0}) (λ (u : Work M). Other g m u)
keeps_other g m c low = record {
  low = low;
  tells = λ u k to t goes way o says h. h;
  turns = λ u t how h e. h (e ∙ ap (λ i. i % g.nodes) how.installed);
  orders = λ u x here h. h;
  leaving = λ u l h. h;
  promising = λ u k le is other h. h;
}

room_stays : {M : Type 0} (g : Group M) (m k : ℕ) {u : Work M} → Stays (λ (v : Work M). Other g m v) k u → RoomyWork g m u
room_stays g m k {u} h = record { is = room_other g m u.state h.is }

room_later : {M : Type 0} (g : Group M) (m from k : ℕ) (t : Kind M) (s : Member M) → Roomy g m s → RoomyWork g m (of_later m from k t (idle s))
room_later g m from k (Request a x) s h = record { is = h }
room_later g m from k (Body a x) s h = record { is = h }
room_later g m from k (Order n i call a b) s h = record { is = h }
room_later g m from k (Entry n a b x) s h = record { is = h }
room_later g m from k (Ack n a) s h = record { is = h }
room_later g m from k (Accept a b) s h = record { is = h }
room_later g m from k (Nack n a whole) s h = record { is = h }
room_later g m from k (Status n a) s h = record { is = h }
room_later g m from k Invite s h = record { is = h }
room_later g m from k (Join j) s h = record { is = h }
room_later g m from k (News a b members log) s h = record { is = h }

room_receive : {M : Type 0} (g : Group M) (m from k : ℕ) (t : Kind M) (s : Member M) → m < g.nodes → Roomy g m s → RoomyWork g m (receive g m from k t s)
room_receive {M} g m from k t s low h =
    cond_both (not (heeds s k)) _ _ (RoomyWork g m) (λ e. record { is = h })
    (λ e. cond_both (k == s.installed) _ _ (RoomyWork g m)
    (λ f. cond_both (k % g.nodes == m) _ _ (RoomyWork g m) (λ q. room_finish g m (at_sequencer g m from t (becomes (listens g from k s) (idle s)))) (λ q. other (eqb-true k s.installed f) (eqb-false (k % g.nodes) m q)))
    (λ f. room_later g m from k t s h))
  where
    K : Keeper g m (came_of from k t) Any (Unit {0}) (λ (u : Work M). Other g m u)
    K = keeps_other g m (came_of from k t) low

    other : k ≡ s.installed → (k % g.nodes ≡ m → ⊥) → RoomyWork g m (at_other g m t (becomes (listens g from k s) (idle s)))
    other at no_one =
        let start : Stays (λ (u : Work M). Other g m u) s.installed (idle (listens g from k s)) = w_listens K from k s (λ e. no_one (ap (λ i. i % g.nodes) at ∙ sym e)) in
        room_stays g m k (w_at_other from t K tt tt (idle (listens g from k s)) (λ e. no_one (sym e)) (subst (λ (i : ℕ). Stays (λ (u : Work M). Other g m u) i (idle (listens g from k s))) (sym at) start))

room_invited : {M : Type 0} (g : Group M) (m from k : ℕ) (s : Member M) → s.installed ≤ s.promised → Roomy g m s → RoomyWork g m (invited g m from k s)
room_invited {M} g m from k s le h =
    cond_both (heeds s k && not (k % g.nodes == m)) _ _ (RoomyWork g m)
    (λ e. cond_both ((k == s.installed) && (from == k % g.nodes)) (record s { silent = 0 }) s (λ (l : Member M). RoomyWork g m (answer g m k (idle (promises_above k l)))) (λ f. answers (record s { silent = 0 }) le h) (λ f. answers s le h))
    (λ e. record { is = h })
  where
    promised : (l : Member M) → l.installed ≤ l.promised → Roomy g m l → Roomy g m (promises_above k l)
    promised l low d = cond_both (nat_lt l.promised k) (promises k l) l (Roomy g m) (λ e. room_apart g m (promises k l) (let a = ltb-true l.promised k e in omega arith)) (λ e. d)

    answers : (l : Member M) → l.installed ≤ l.promised → Roomy g m l → RoomyWork g m (answer g m k (idle (promises_above k l)))
    answers l low d = cond_both (nat_lt (promises_above k l).installed k) _ _ (RoomyWork g m) (λ e. record { is = promised l low d }) (λ e. record { is = promised l low d })

room_gather : {M : Type 0} (g : Group M) (m : ℕ) (u : Work M) → u.state.installed < u.state.promised → RoomyWork g m (gather g m u)
room_gather {M} g m u above =
    cond_both (nat_le (g.nodes - g.resilience) (count g.nodes (gave u.state.answers))) _ _ (RoomyWork g m) (λ e. go (best g.nodes u.state.answers)) (λ e. record { is = room_apart g m u.state above })
  where
    start : Report M → Work M
    start b = does (Act.Begins u.state.promised b.log u.state.answers) (becomes (begun g b u.state) u)

    go : (o : Option (Report M)) → RoomyWork g m (install g m o u)
    go None = record { is = room_apart g m u.state above }
    go (Some b) = cond_both (nat_le b.base u.state.applied) (begin g m b u) (becomes (leaves u.state) u) (RoomyWork g m) (λ e. room_finish g m (ask_own g m (start b).state.pending (tell_others g m (start b).state.installed (news_of (start b).state) (start b)))) (λ e. record { is = room_left g m u.state })

room_joined : {M : Type 0} (g : Group M) (m from k : ℕ) (j : Report M) (s : Member M) → Roomy g m s → RoomyWork g m (joined g m from k j s)
room_joined {M} g m from k j s h =
    cond_both (is_gathering g m s && (k == s.promised)) _ _ (RoomyWork g m)
    (λ e. room_gather g m (idle (keeps from j s)) (gathering_if g m s (and_parts (is_gathering g m s) (k == s.promised) e).0).above) (λ e. record { is = h })

room_coordinate : {M : Type 0} (g : Group M) (m : ℕ) (s : Member M) → m < g.nodes → s.installed ≤ s.promised → Roomy g m s → RoomyWork g m (coordinate g m s)
room_coordinate {M} g m s low le h = cond_both s.outside _ _ (RoomyWork g m) (λ e. record { is = h }) (λ e. room_gather g m (invite g m k s) (subst (λ (t : Member M). t.installed < t.promised) (sym (others_state g m k Invite _)) above))
  where
    k : ℕ
    k = next_incarnation g m s.promised

    above : s.installed < k
    above = let a = next_above g m s.promised (omega arith) in omega arith

room_announced : {M : Type 0} (g : Group M) (m from k a b : ℕ) (members : ℕ → Bool) (log : List M) (s : Member M) → m < g.nodes → (s.installed < k → m ≡ k % g.nodes → ⊥) → Roomy g m s → RoomyWork g m (announced g m from k a b members log s)
room_announced {M} g m from k a b members log s low other h =
    cond_both (not (heeds s k)) _ _ (RoomyWork g m) (λ e. record { is = h })
    (λ e. cond_both (nat_lt s.installed k) _ _ (RoomyWork g m)
    (λ f. cond_both (nat_le b s.applied) _ _ (RoomyWork g m) (λ q. news (other (ltb-true s.installed k f))) (λ q. record { is = room_left g m (promises_above k s) }))
    (λ f. cond_both (nat_lt (length s.log) b) _ _ (RoomyWork g m) (λ q. record { is = room_left g m (listens g from k s) }) (λ q. record { is = cond_both ((k == s.installed) && (from == k % g.nodes)) (record s { silent = 0 }) s (Roomy g m) (λ i. h) (λ i. h) })))
  where
    t : Member M
    t = told k a b members log s

    K : Keeper g m nothing Any (Unit {0}) (λ (u : Work M). Other g m u)
    K = keeps_other g m nothing low

    news : (m ≡ k % g.nodes → ⊥) → RoomyWork g m (take_news g m k a b members log s)
    news apart = room_stays g m k (w_request_all K tt t.pending _ apart (cond_both (is_acker g m t) (send_ack g m (idle t)) (idle t) (Stays (λ (u : Work M). Other g m u) k) (λ e. w_send_ack K tt (idle t) apart (record { at = refl; is = apart })) (λ e. record { at = refl; is = apart })))

room_submit : {M : Type 0} (g : Group M) (m : ℕ) (x : M) (s : Member M) → m < g.nodes → Roomy g m s → RoomyWork g m (submit g m x s)
room_submit {M} g m x s low h = go (is_active t) refl
  where
    t : Member M
    t = pends g x s

    go : (a : Bool) → is_active t ≡ a → RoomyWork g m (if a then (if leads g m t then finish g m (ask g m m false x (idle t)) else request g m x (idle t)) else idle t)
    go false e = record { is = h }
    go true e = cond_both (leads g m t) _ _ (RoomyWork g m) (λ f. room_finish g m (ask g m m false x (idle t)))
        (λ f. let other = active_other g m t e f in room_stays g m t.installed (w_request (keeps_other g m nothing low) tt x (idle t) other (record { at = refl; is = other })))

room_again : {M : Type 0} (g : Group M) (m : ℕ) (t : Member M) → m < g.nodes → Roomy g m t → RoomyWork g m (send_again_all g m (idle t))
room_again {M} g m t low h = go (is_active t) refl
  where
    K : Keeper g m nothing Any (Unit {0}) (λ (u : Work M). Other g m u)
    K = keeps_other g m nothing low

    go : (a : Bool) → is_active t ≡ a → RoomyWork g m (if a then (if leads g m t then tell_others g m t.installed (Accept t.accepted (stable_of g m t)) (idle t) else send_status g m (request_all g m t.pending (idle t))) else (if is_gathering g m t then invite_again g.nodes m (idle t) else idle t))
    go true e = cond_both (leads g m t) _ _ (RoomyWork g m)
        (λ f. record { is = subst (Roomy g m) (sym (others_state g m t.installed (Accept t.accepted (stable_of g m t)) (idle t))) h })
        (λ f. let other = active_other g m t e f in room_stays g m t.installed (w_send_status K tt _ other (w_request_all K tt t.pending (idle t) other (record { at = refl; is = other }))))
    go false e = cond_both (is_gathering g m t) _ _ (RoomyWork g m) (λ f. record { is = subst (Roomy g m) (sym (again_state g.nodes m (idle t))) h }) (λ f. record { is = h })

room_timer : {M : Type 0} (g : Group M) (m : ℕ) (s : Member M) → m < g.nodes → s.installed ≤ s.promised → Roomy g m s → RoomyWork g m (timer g m s)
room_timer {M} g m s low le h = cond_both s.outside _ _ (RoomyWork g m) (λ e. record { is = h }) (λ e. cond_both (is_due m (ticked g m s)) _ _ (RoomyWork g m) (λ f. room_coordinate g m (ticked g m s) low le h) (λ f. room_again g m (ticked g m s) low h))

-- ---- every event

room_rows : {M : Type 0} {g : Group M} {w : GroupWorld M} (event : Event M) → Inv g w → ((m : ℕ) → Roomy g m (w.members m)) → Does g w event (λ m p u. RoomyWork g m u)
room_rows {M} {g} {w} event h t = record {
  submit = λ m x low is can. room_submit g m x (w.members m) low (t m);
  deliver = λ m q low sent goes. comes m q.from q.inc q.kind low sent;
  timer = λ m low is. room_timer g m (w.members m) low (h.fits m).stands.promised (t m);
  coordinate = λ m low is. room_coordinate g m (w.members m) low (h.fits m).stands.promised (t m);
  note = λ m n low is above le. room_finish g m (when (should_report g m n (w.members m)) (send_status g m) (idle (noted g n (w.members m))));
}
  where
    comes : (m from k : ℕ) (v : Kind M) → m < g.nodes → Sent w.past.letters (record { inc = k; from = from; kind = v }) → RoomyWork g m (deliver_kind g m from k v (w.members m))
    comes m from k (Request a x) low sent = room_receive g m from k (Request a x) (w.members m) low (t m)
    comes m from k (Body a x) low sent = room_receive g m from k (Body a x) (w.members m) low (t m)
    comes m from k (Order n i call a b) low sent = room_receive g m from k (Order n i call a b) (w.members m) low (t m)
    comes m from k (Entry n a b x) low sent = room_receive g m from k (Entry n a b x) (w.members m) low (t m)
    comes m from k (Ack n a) low sent = room_receive g m from k (Ack n a) (w.members m) low (t m)
    comes m from k (Accept a b) low sent = room_receive g m from k (Accept a b) (w.members m) low (t m)
    comes m from k (Nack n a whole) low sent = room_receive g m from k (Nack n a whole) (w.members m) low (t m)
    comes m from k (Status n a) low sent = room_receive g m from k (Status n a) (w.members m) low (t m)
    comes m from k Invite low sent = room_invited g m from k (w.members m) (h.fits m).stands.promised (t m)
    comes m from k (Join j) low sent = room_joined g m from k j (w.members m) (t m)
    comes m from k (News a b members log) low sent = room_announced g m from k a b members log (w.members m) low other (t m)
      where
        other : (w.members m).installed < k → m ≡ k % g.nodes → ⊥
        other above e = let l = (h.fits m).bounds.leads k (h.sound.tells (record { inc = k; from = from; kind = News a b members log }) sent).up e in omega arith

room_at : {M : Type 0} {g : Group M} {w : GroupWorld M} (event : Event M) → 2 * g.resilience < g.nodes → Inv g w → ((m : ℕ) → Roomy g m (w.members m)) → (m : ℕ) → Roomy g m ((gnext g w event).members m)
room_at {M} {g} {w} event small h t = each_event (λ m p u. RoomyWork g m u) (λ (v : GroupWorld M). (x : ℕ) → Roomy g x (v.members x)) event h (room_rows event h t)
    (λ m p u low d x. at_both w.members m u.state x (λ s. Roomy g x s) (λ e. rw e d.is) (λ e. t x)) (λ lives. t) t

pub room_runs : {M : Type 0} {g : Group M} (w : GroupWorld M) (es : List (Event M)) → 2 * g.resilience < g.nodes → Inv g w → ((m : ℕ) → Roomy g m (w.members m)) → (m : ℕ) → Roomy g m ((run g w es).members m)
room_runs w [] small h t = t
room_runs {M} {g} w (e ∷ es) small h t = room_runs (gnext g w e) es small (happened e small h) (room_at e small h t)

pub room_opened : {M : Type 0} (g : Group M) (m : ℕ) → Roomy {M = M} g m (opening.members m)
room_opened g m l r = refl
