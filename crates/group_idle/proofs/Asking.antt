-- In every run, at an active sequencer: messages that wait are fresh, and its own pending messages are in its log or wait.
use Rattle.std.proofs.Common.{◌≡◌, ℕ, zero, suc, ◌-◌, ◌*◌, ◌%◌, ◌≤◌, ◌<◌, ◌==◌, ◌&&◌, ◌||◌, not, nat_lt, nat_le, ◌⊎◌, inl, inr, ⊎_elim, Bool, true, false, Option, Some, None, List, [], ◌∷◌, length, refl, sym, ap, ◌∙◌, arith, subst, if◌then◌else◌}
use Rattle.std.proofs.lemmas.Bool.{cond_both, eqb-true, eqb-false, eq-eqb, ltb-true, leb-true, and_parts, not-false}
use Rattle.group_rules.specs.Sets.{In, Same, count, with_at}
use Rattle.group_rules.specs.Messages.{Group}
use Rattle.group_rules.specs.Member.{Report, Kind, Member, Waiting, is_active, leads, is_gathering, is_acker, stable_of, leaves}
use Rattle.group_rules.specs.Member.Kind.{Request, Body, Order, Entry, Ack, Accept, Nack, Status, Invite, Join, News}
use Rattle.group_rules.specs.Work.{Act, Work, idle, does, becomes, tell, tell_others}
use Rattle.group_rules.specs.World.{Past, GroupWorld, Event, Sent, list_of, after, submitted_past, gnext, run, opening}
use Rattle.group_rules.specs.Sequencer.{hears, least_acked, acknowledges, take_ack, take_nack, take_status, news_of, send_entries, send_entry, tell_entry, ask, ask_own, finish}
use Rattle.group_rules.specs.Sets.{entry_at}
use Rattle.orca_base.specs.declared.limits.TheConstants.{WINDOW, ENTRIES_SENT_AGAIN}
use Rattle.group_rules.specs.Receiver.{request, request_all, send_ack, send_status}
use Rattle.group_rules.specs.Reset.{heeds, listens, promises, promises_above, answer, invited, gave, best, begun, begin, install, gather, keeps, joined, next_incarnation, invite, coordinate, told, take_news, announced}
use Rattle.group_rules.specs.Steps.{pends, submit, at_sequencer, at_other, of_later, receive, deliver_kind, ticked, is_due, invite_again, send_again_all, timer, noted, should_report, note}
use Rattle.group_rules.specs.Agree.{Ripe}
use Rattle.group_law.proofs.Grows.{at_both}
use Rattle.group_law.proofs.Logs.{in_take, in_same, in_keep, put_from}
use Rattle.group_law.proofs.Core.{join}
use Rattle.group_law.proofs.Ready.{Inv, QueueOf}
use Rattle.group_law.proofs.Events.{MaySubmit, happened}
use Rattle.group_law.proofs.Opening.{opened}
use Rattle.group_law.proofs.Walk.{Came, came_of, nothing, Any, Keeper, Stays, Gathering, coordinating, w_listens, w_at_other, w_request, w_request_all, w_send_ack, w_send_status, active_other, gathering_if}
use Rattle.group_law.proofs.Course.{Does, each_event, next_above, keeping_installs, ticked_ready, coordinating_installs}
use Rattle.group_idle.proofs.Parts.{Apart, WaitingLaw}
use Rattle.group_idle.proofs.Rising.{told_others_state}
use Rattle.group_idle.proofs.Inactive.{no}
use Rattle.group_idle.proofs.Fresh.{above_no_repeat, good_at, has_repeat, waits_is, Asked, Good, Covered, Roomed, Step, asks, finishes, ask_state, finish_state, step_self, step_more, asked_more, asks_step, asks_covered, asks_roomed, finishes_step, finishes_roomed}

-- what is so of an active sequencer
pub record Fresh {M : Type 0} (g : Group M) (sub : ℕ → List M) (s : Member M) : Type 0 where
  pub roomed : Roomed g sub s
  pub own : (x : M) → In x s.pending → Covered g s.log s.waiting x

abbrev pub Lead : {M : Type 0} → Group M → (ℕ → List M) → ℕ → Member M → Type 0
Lead g sub m s = leads g m s ≡ true → Fresh g sub s

record LeadWork {M : Type 0} (g : Group M) (sub : ℕ → List M) (m : ℕ) (u : Work M) : Type 0 where
  is : Lead g sub m u.state

-- states that are the same but for other things
pub record Alike {M : Type 0} (s t : Member M) : Type 0 where
  pub log : t.log ≡ s.log
  pub waiting : t.waiting ≡ s.waiting
  pub pending : t.pending ≡ s.pending
  pub base : t.base ≡ s.base

pub alike_self : {M : Type 0} (s : Member M) → Alike s s
alike_self s = record { log = refl; waiting = refl; pending = refl; base = refl }

pub alike_more : {M : Type 0} {s t u : Member M} → Alike s t → Alike t u → Alike s u
alike_more a b = record { log = b.log ∙ a.log; waiting = b.waiting ∙ a.waiting; pending = b.pending ∙ a.pending; base = b.base ∙ a.base }

pub alike_is : {M : Type 0} (s t : Member M) → t ≡ s → Alike s t
alike_is s t e = subst (λ (u : Member _). Alike s u) (sym e) (alike_self s)

-- the same log, waiting messages and base
roomed_alike : {M : Type 0} {g : Group M} {sub : ℕ → List M} (s t : Member M) → t.log ≡ s.log → t.waiting ≡ s.waiting → t.base ≡ s.base → Roomed g sub s → Roomed g sub t
roomed_alike {M} {g} {sub} s t l w b h = record {
  roomy = λ r. w ∙ h.roomy (sym (ap (λ (xs : List M). nat_lt (length xs - t.base) WINDOW) l ∙ ap (λ (i : ℕ). nat_lt (length s.log - i) WINDOW) b) ∙ r);
  good = subst (λ (xs : List M). Good g sub xs t.waiting) (sym l) (subst (λ (ws : List (Waiting M)). Good g sub s.log ws) (sym w) h.good);
}

covered_alike : {M : Type 0} {g : Group M} (s t : Member M) (x : M) → t.log ≡ s.log → t.waiting ≡ s.waiting → Covered g s.log s.waiting x → Covered g t.log t.waiting x
covered_alike {M} {g} s t x l w c = subst (λ (xs : List M). Covered g xs t.waiting x) (sym l) (subst (λ (ws : List (Waiting M)). Covered g s.log ws x) (sym w) c)

fresh_alike : {M : Type 0} {g : Group M} {sub : ℕ → List M} (s t : Member M) → Alike s t → Fresh g sub s → Fresh g sub t
fresh_alike {M} {g} {sub} s t a h = record { roomed = roomed_alike s t a.log a.waiting a.base h.roomed; own = λ x i. covered_alike s t x a.log a.waiting (h.own x (subst (λ (xs : List M). In x xs) a.pending i)) }

-- ---- after each step

fresh_finish : {M : Type 0} (g : Group M) (sub : ℕ → List M) (m : ℕ) (u : Work M) → (leads g m u.state ≡ true → Good g sub u.state.log u.state.waiting × ((x : M) → In x u.state.pending → Covered g u.state.log u.state.waiting x)) → LeadWork g sub m (finish g m u)
fresh_finish {M} g sub m u h = record { is = λ l. subst (λ (t : Member M). Fresh g sub t) (sym (finish_state g m u)) (by (leads g m u.state) refl l) }
  where
    by : (b : Bool) → leads g m u.state ≡ b → leads g m (finish g m u).state ≡ true → Fresh g sub (finishes g m u.state)
    by true e l = let a = h e in let c = finishes_step g m u.state in record { roomed = finishes_roomed g m sub u.state e a.0; own = λ x i. c.covers x (a.1 x (subst (λ (xs : List M). In x xs) c.pending i)) }
    by false e l = no (sym l ∙ ap (λ (t : Member M). leads g m t) (finish_state g m u) ∙ cond_both (leads g m u.state) _ u.state (λ (t : Member M). leads g m t ≡ false) (λ f. no (sym f ∙ e)) (λ f. e))

-- ---- what a sequencer is asked

entry_same : {M : Type 0} (g : Group M) (m to number : ℕ) (u : Work M) → (send_entry g m to number u).state ≡ u.state
entry_same {M} g m to number u = cond_both (nat_lt u.state.base number) _ u (λ (v : Work M). v.state ≡ u.state) (λ e. go (entry_at u.state.log number)) (λ e. refl)
  where
    go : (o : Option M) → (tell_entry g m to number o u).state ≡ u.state
    go None = refl
    go (Some y) = refl

entries_same : {M : Type 0} (g : Group M) (m to number n : ℕ) (u : Work M) → (send_entries g m to number n u).state ≡ u.state
entries_same g m to number zero u = refl
entries_same g m to number (suc n) u = entries_same g m to (suc number) n (send_entry g m to number u) ∙ entry_same g m to number u

pub hears_alike : {M : Type 0} (from applied : ℕ) (s : Member M) → Alike s (hears from applied s)
hears_alike {M} from applied s = cond_both (nat_le s.base applied) _ s (Alike s) (λ e. record { log = refl; waiting = refl; pending = refl; base = refl }) (λ e. alike_self s)

pub acked_alike : {M : Type 0} (g : Group M) (m from n : ℕ) (u : Work M) → Alike u.state (take_ack g m from n u).state
acked_alike {M} g m from n u = cond_both (g.resilience == 0) u _ (λ (v : Work M). Alike u.state v.state) (λ e. alike_self _)
    (λ e. cond_both (nat_lt t.accepted (least_acked g t)) _ _ (λ (v : Work M). Alike u.state v.state) (λ q. alike_more {s = u.state} {t = d} (record { log = refl; waiting = refl; pending = refl; base = refl }) (alike_is d _ (told_others_state g.nodes m _ _ _))) (λ q. record { log = refl; waiting = refl; pending = refl; base = refl }))
  where
    t : Member M
    t = acknowledges from n u.state

    d : Member M
    d = record t { accepted = least_acked g t; silent = 0 }

pub nack_same : {M : Type 0} (g : Group M) (m from first : ℕ) (whole : Bool) (u : Work M) → (take_nack g m from first whole u).state ≡ u.state
nack_same {M} g m from first whole u = cond_both (whole || nat_le first u.state.base) _ _ (λ (v : Work M). v.state ≡ u.state) (λ e. refl) (λ e. entries_same g m from first ENTRIES_SENT_AGAIN u)

pub status_same : {M : Type 0} (g : Group M) (m from n : ℕ) (u : Work M) → (take_status g m from n u).state ≡ u.state
status_same {M} g m from n u = cond_both (nat_lt n u.state.base) _ _ (λ (v : Work M). v.state ≡ u.state) (λ e. refl)
    (λ e. cond_both (nat_lt n (length u.state.log)) _ _ (λ (v : Work M). v.state ≡ u.state) (λ q. entries_same g m from (suc n) ENTRIES_SENT_AGAIN u) (λ q. refl))

fresh_ask : {M : Type 0} (g : Group M) (sub : ℕ → List M) (m asker : ℕ) (by_name : Bool) (x : M) (u : Work M) → Asked g sub u.state.log x → Fresh g sub u.state → Fresh g sub (ask g m asker by_name x u).state
fresh_ask {M} g sub m asker by_name x u a h = subst (λ (t : Member M). Fresh g sub t) (sym (ask_state g m asker by_name x u)) (record {
  roomed = asks_roomed g sub by_name x u.state a h.roomed;
  own = let c = asks_step g by_name x u.state in λ y i. c.covers y (h.own y (subst (λ (xs : List M). In y xs) c.pending i));
})

-- the message that a packet asks for
abbrev AskedOf : {M : Type 0} → Group M → (ℕ → List M) → List M → Kind M → Type 0
AskedOf g sub log (Request a x) = Asked g sub log x
AskedOf g sub log (Body a x) = Asked g sub log x
AskedOf g sub log (Order n i c a b) = Unit {0}
AskedOf g sub log (Entry n a b x) = Unit {0}
AskedOf g sub log (Ack n a) = Unit {0}
AskedOf g sub log (Accept a b) = Unit {0}
AskedOf g sub log (Nack n a whole) = Unit {0}
AskedOf g sub log (Status n a) = Unit {0}
AskedOf g sub log Invite = Unit {0}
AskedOf g sub log (Join j) = Unit {0}
AskedOf g sub log (News a b members log2) = Unit {0}

fresh_sequencer : {M : Type 0} (g : Group M) (sub : ℕ → List M) (m from : ℕ) (t : Kind M) (u : Work M) → AskedOf g sub u.state.log t → Fresh g sub u.state → Fresh g sub (at_sequencer g m from t u).state
fresh_sequencer {M} g sub m from t u a h = go t a
  where
    heard : (n : ℕ) → Alike u.state (hears from n u.state)
    heard n = hears_alike from n u.state

    v : ℕ → Work M
    v n = becomes (hears from n u.state) u

    fresh : (n : ℕ) → Fresh g sub (v n).state
    fresh n = fresh_alike u.state (hears from n u.state) (heard n) h

    still : (n : ℕ) (w : Work M) → w.state ≡ (v n).state → Fresh g sub w.state
    still n w e = subst (λ (s : Member M). Fresh g sub s) (sym e) (fresh n)

    go : (k : Kind M) → AskedOf g sub u.state.log k → Fresh g sub (at_sequencer g m from k u).state
    go (Request n x) a = fresh_ask g sub m from false x (v n) (asked_more x (λ e i. subst (λ (xs : List M). In e xs) (sym (heard n).log) i) a) (fresh n)
    go (Body n x) a = fresh_ask g sub m from true x (v n) (asked_more x (λ e i. subst (λ (xs : List M). In e xs) (sym (heard n).log) i) a) (fresh n)
    go (Order n i c o b) a = h
    go (Entry n o b x) a = h
    go (Ack n b) a = fresh_alike (v b).state (take_ack g m from n (v b)).state (acked_alike g m from n (v b)) (fresh b)
    go (Accept o b) a = h
    go (Nack n b whole) a = still b (take_nack g m from n whole (v b)) (nack_same g m from n whole (v b))
    go (Status n b) a = still b (take_status g m from n (v b)) (status_same g m from n (v b))
    go Invite a = h
    go (Join j) a = h
    go (News o b members log) a = h

-- ---- who leads nobody

lead_other : {M : Type 0} (g : Group M) (sub : ℕ → List M) (m : ℕ) (s : Member M) → (m ≡ s.installed % g.nodes → ⊥) → Lead g sub m s
lead_other {M} g sub m s other l = absurd (other (sym (eqb-true (s.installed % g.nodes) m (and_parts (is_active s) (s.installed % g.nodes == m) l).1)))

lead_apart : {M : Type 0} (g : Group M) (sub : ℕ → List M) (m : ℕ) (s : Member M) → s.installed < s.promised → Lead g sub m s
lead_apart g sub m s above l =
    let e = eqb-true s.installed s.promised (and_parts (s.installed == s.promised) (not s.outside) (and_parts (is_active s) (s.installed % g.nodes == m) l).0).0 in
    absurd (omega arith)

lead_left : {M : Type 0} (g : Group M) (sub : ℕ → List M) (m : ℕ) (s : Member M) → Lead g sub m (leaves s)
lead_left {M} g sub m s l = no (sym (and_parts (s.installed == s.promised) false (and_parts (is_active (leaves s)) (s.installed % g.nodes == m) l).0).1)

abbrev Other : {M : Type 0} → Group M → ℕ → Work M → Type 0
Other g m u = m ≡ u.state.installed % g.nodes → ⊥

keeps_other : {M : Type 0} (g : Group M) (m : ℕ) (c : Came) → m < g.nodes → Keeper g m c Any (Unit {0}) (λ (u : Work M). Other g m u)
keeps_other g m c low = record {
  low = low;
  tells = λ u k to t goes way o says h. h;
  turns = λ u t how h e. h (e ∙ ap (λ i. i % g.nodes) how.installed);
  orders = λ u x here h. h;
  leaving = λ u l h. h;
  promising = λ u k le is other h. h;
}

lead_stays : {M : Type 0} (g : Group M) (sub : ℕ → List M) (m k : ℕ) {u : Work M} → Stays (λ (v : Work M). Other g m v) k u → LeadWork g sub m u
lead_stays g sub m k {u} h = record { is = lead_other g sub m u.state h.is }

-- ---- the rows

lead_later : {M : Type 0} (g : Group M) (sub : ℕ → List M) (m from k : ℕ) (t : Kind M) (s : Member M) → Lead g sub m s → LeadWork g sub m (of_later m from k t (idle s))
lead_later g sub m from k (Request a x) s h = record { is = h }
lead_later g sub m from k (Body a x) s h = record { is = h }
lead_later g sub m from k (Order n i call a b) s h = record { is = h }
lead_later g sub m from k (Entry n a b x) s h = record { is = h }
lead_later g sub m from k (Ack n a) s h = record { is = h }
lead_later g sub m from k (Accept a b) s h = record { is = h }
lead_later g sub m from k (Nack n a whole) s h = record { is = h }
lead_later g sub m from k (Status n a) s h = record { is = h }
lead_later g sub m from k Invite s h = record { is = h }
lead_later g sub m from k (Join j) s h = record { is = h }
lead_later g sub m from k (News a b members log) s h = record { is = h }

pub listens_alike : {M : Type 0} (g : Group M) (from k : ℕ) (s : Member M) → Alike s (listens g from k s)
listens_alike {M} g from k s = cond_both ((k == s.installed) && (from == k % g.nodes)) _ s (Alike s) (λ e. record { log = refl; waiting = refl; pending = refl; base = refl }) (λ e. alike_self s)

lead_receive : {M : Type 0} (g : Group M) (sub : ℕ → List M) (m from k : ℕ) (t : Kind M) (s : Member M) → m < g.nodes → s.installed ≤ s.promised → (k ≡ s.installed → m ≡ s.installed % g.nodes → AskedOf g sub s.log t) → Lead g sub m s → LeadWork g sub m (receive g m from k t s)
lead_receive {M} g sub m from k t s low le asked h =
    cond_both (not (heeds s k)) _ _ (LeadWork g sub m) (λ e. record { is = h })
    (λ e. cond_both (k == s.installed) _ _ (LeadWork g sub m)
    (λ f. cond_both (k % g.nodes == m) _ _ (LeadWork g sub m) (λ q. own e (eqb-true k s.installed f) (eqb-true (k % g.nodes) m q)) (λ q. other (eqb-true k s.installed f) (eqb-false (k % g.nodes) m q)))
    (λ f. lead_later g sub m from k t s h))
  where
    u : Work M
    u = becomes (listens g from k s) (idle s)

    K : Keeper g m (came_of from k t) Any (Unit {0}) (λ (u : Work M). Other g m u)
    K = keeps_other g m (came_of from k t) low

    other : k ≡ s.installed → (k % g.nodes ≡ m → ⊥) → LeadWork g sub m (at_other g m t u)
    other at no_one =
        let start : Stays (λ (u : Work M). Other g m u) s.installed (idle (listens g from k s)) = w_listens K from k s (λ e. no_one (ap (λ i. i % g.nodes) at ∙ sym e)) in
        lead_stays g sub m k (w_at_other from t K tt tt (idle (listens g from k s)) (λ e. no_one (sym e)) (subst (λ (i : ℕ). Stays (λ (u : Work M). Other g m u) i (idle (listens g from k s))) (sym at) start))

    own : not (heeds s k) ≡ false → k ≡ s.installed → k % g.nodes ≡ m → LeadWork g sub m (finish g m (at_sequencer g m from t u))
    own e at here = fresh_finish g sub m (at_sequencer g m from t u) (λ l. (fresh.roomed.good, fresh.own))
      where
        heed : (not s.outside ≡ true) × (nat_le s.promised k ≡ true)
        heed = and_parts (not s.outside) (nat_le s.promised k) (not-false (heeds s k) e)

        same : s.installed ≡ s.promised
        same = let l = leb-true s.promised k heed.1 in omega arith

        lead : leads g m s ≡ true
        lead = ap (λ (b : Bool). (b && not s.outside) && (s.installed % g.nodes == m)) (eq-eqb _ _ same) ∙ ap (λ (b : Bool). b && (s.installed % g.nodes == m)) heed.0 ∙ eq-eqb _ _ (ap (λ (i : ℕ). i % g.nodes) (sym at) ∙ here)

        a : Alike s u.state
        a = listens_alike g from k s

        fresh : Fresh g sub (at_sequencer g m from t u).state
        fresh = fresh_sequencer g sub m from t u (subst (λ (xs : List M). AskedOf g sub xs t) (sym a.log) (asked at (sym here ∙ ap (λ (i : ℕ). i % g.nodes) at))) (fresh_alike s u.state a (h lead))

lead_invited : {M : Type 0} (g : Group M) (sub : ℕ → List M) (m from k : ℕ) (s : Member M) → s.installed ≤ s.promised → Lead g sub m s → LeadWork g sub m (invited g m from k s)
lead_invited {M} g sub m from k s le h =
    cond_both (heeds s k && not (k % g.nodes == m)) _ _ (LeadWork g sub m)
    (λ e. cond_both ((k == s.installed) && (from == k % g.nodes)) (record s { silent = 0 }) s (λ (l : Member M). LeadWork g sub m (answer g m k (idle (promises_above k l)))) (λ f. answers (record s { silent = 0 }) le quiet) (λ f. answers s le h))
    (λ e. record { is = h })
  where
    quiet : Lead g sub m (record s { silent = 0 })
    quiet l = fresh_alike s (record s { silent = 0 }) (record { log = refl; waiting = refl; pending = refl; base = refl }) (h l)

    promised : (l : Member M) → l.installed ≤ l.promised → Lead g sub m l → Lead g sub m (promises_above k l)
    promised l low d = cond_both (nat_lt l.promised k) (promises k l) l (Lead g sub m) (λ e. lead_apart g sub m (promises k l) (let a = ltb-true l.promised k e in omega arith)) (λ e. d)

    answers : (l : Member M) → l.installed ≤ l.promised → Lead g sub m l → LeadWork g sub m (answer g m k (idle (promises_above k l)))
    answers l low d = cond_both (nat_lt (promises_above k l).installed k) _ _ (LeadWork g sub m) (λ e. record { is = promised l low d }) (λ e. record { is = promised l low d })

-- its own pending messages are asked for
fresh_own : {M : Type 0} (g : Group M) (sub : ℕ → List M) (m : ℕ) (xs : List M) (u : Work M) → ((x : M) → In x xs → Asked g sub u.state.log x) → Roomed g sub u.state → Roomed g sub (ask_own g m xs u).state × Step g u.state (ask_own g m xs u).state × ((x : M) → In x xs → Covered g (ask_own g m xs u).state.log (ask_own g m xs u).state.waiting x)
fresh_own g sub m [] u a h = (h, step_self g u.state, λ x i. absurd i)
fresh_own {M} g sub m (y ∷ ys) u a h =
    let s = asks g false y u.state in
    let e = ask_state g m m false y u in
    let v = ask g m m false y u in
    let step : Step g u.state v.state = subst (λ (t : Member M). Step g u.state t) (sym e) (asks_step g false y u.state) in
    let roomed : Roomed g sub v.state = subst (λ (t : Member M). Roomed g sub t) (sym e) (asks_roomed g sub false y u.state (a y (inl refl)) h) in
    let covered : Covered g v.state.log v.state.waiting y = subst (λ (t : Member M). Covered g t.log t.waiting y) (sym e) (asks_covered g false y u.state) in
    let r = fresh_own g sub m ys v (λ x i. asked_more x step.more (a x (inr i))) roomed in
    (r.0, step_more step r.1, λ x i. ⊎_elim (λ q. subst (λ (z : M). Covered g (ask_own g m ys v).state.log (ask_own g m ys v).state.waiting z) (sym q) (r.1.covers y covered)) (λ j. r.2 x j) i)

-- an install asks for what the kept log has the earlier messages of
abbrev MayInstall : {M : Type 0} → Group M → (ℕ → List M) → Member M → Type 0
MayInstall {M} g sub s = (b : Report M) → best g.nodes s.answers ≡ Some b → g.nodes - g.resilience ≤ count g.nodes (gave s.answers) → b.base ≤ s.applied → (x : M) → In x s.pending → Asked g sub b.log x

lead_gather : {M : Type 0} (g : Group M) (sub : ℕ → List M) (m : ℕ) (u : Work M) → u.state.installed < u.state.promised → MayInstall g sub u.state → LeadWork g sub m (gather g m u)
lead_gather {M} g sub m u above can =
    cond_both (nat_le (g.nodes - g.resilience) (count g.nodes (gave u.state.answers))) _ _ (LeadWork g sub m) (λ e. go (leb-true (g.nodes - g.resilience) (count g.nodes (gave u.state.answers)) e) (best g.nodes u.state.answers) refl) (λ e. record { is = lead_apart g sub m u.state above })
  where
    start : Report M → Work M
    start b = does (Act.Begins u.state.promised b.log u.state.answers) (becomes (begun g b u.state) u)

    begins : (b : Report M) → ((x : M) → In x u.state.pending → Asked g sub b.log x) → LeadWork g sub m (begin g m b u)
    begins b asked = fresh_finish g sub m (ask_own g m pending v) (λ l. (r.0.good, λ x i. r.2 x (subst (λ (xs : List M). In x xs) (r.1.pending ∙ ap (λ (t : Member M). t.pending) same) i)))
      where
        pending : List M
        pending = (start b).state.pending

        v : Work M
        v = tell_others g m (start b).state.installed (news_of (start b).state) (start b)

        same : v.state ≡ (start b).state
        same = told_others_state g.nodes m _ _ (start b)

        r : Roomed g sub (ask_own g m pending v).state × Step g v.state (ask_own g m pending v).state × ((x : M) → In x pending → Covered g (ask_own g m pending v).state.log (ask_own g m pending v).state.waiting x)
        r = fresh_own g sub m pending v (λ x i. subst (λ (t : Member M). Asked g sub t.log x) (sym same) (asked x i)) (subst (λ (t : Member M). Roomed g sub t) (sym same) (record { roomy = λ q. refl; good = tt }))

    go : g.nodes - g.resilience ≤ count g.nodes (gave u.state.answers) → (o : Option (Report M)) → best g.nodes u.state.answers ≡ o → LeadWork g sub m (install g m o u)
    go many None e = record { is = lead_apart g sub m u.state above }
    go many (Some b) e = cond_both (nat_le b.base u.state.applied) (begin g m b u) (becomes (leaves u.state) u) (LeadWork g sub m) (λ q. begins b (can b e many (leb-true b.base u.state.applied q))) (λ q. record { is = lead_left g sub m u.state })

lead_joined : {M : Type 0} (g : Group M) (sub : ℕ → List M) (m from k : ℕ) (j : Report M) (s : Member M) → (Gathering g m s → k ≡ s.promised → MayInstall g sub (keeps from j s)) → Lead g sub m s → LeadWork g sub m (joined g m from k j s)
lead_joined {M} g sub m from k j s can h =
    cond_both (is_gathering g m s && (k == s.promised)) _ _ (LeadWork g sub m)
    (λ e. let a = and_parts (is_gathering g m s) (k == s.promised) e in let o = gathering_if g m s a.0 in lead_gather g sub m (idle (keeps from j s)) o.above (can o (eqb-true k s.promised a.1))) (λ e. record { is = h })

lead_coordinate : {M : Type 0} (g : Group M) (sub : ℕ → List M) (m : ℕ) (s : Member M) → m < g.nodes → s.installed ≤ s.promised → MayInstall g sub (coordinating m (next_incarnation g m s.promised) s) → Lead g sub m s → LeadWork g sub m (coordinate g m s)
lead_coordinate {M} g sub m s low le can h = cond_both s.outside _ _ (LeadWork g sub m) (λ e. record { is = h })
    (λ e. lead_gather g sub m (invite g m k s) (subst (λ (t : Member M). t.installed < t.promised) (sym same) above) (subst (λ (t : Member M). MayInstall g sub t) (sym same) can))
  where
    k : ℕ
    k = next_incarnation g m s.promised

    same : (invite g m k s).state ≡ coordinating m k s
    same = told_others_state g.nodes m k Invite _

    above : s.installed < k
    above = let a = next_above g m s.promised (omega arith) in omega arith

lead_announced : {M : Type 0} (g : Group M) (sub : ℕ → List M) (m from k a b : ℕ) (members : ℕ → Bool) (log : List M) (s : Member M) → m < g.nodes → (s.installed < k → m ≡ k % g.nodes → ⊥) → Lead g sub m s → LeadWork g sub m (announced g m from k a b members log s)
lead_announced {M} g sub m from k a b members log s low other h =
    cond_both (not (heeds s k)) _ _ (LeadWork g sub m) (λ e. record { is = h })
    (λ e. cond_both (nat_lt s.installed k) _ _ (LeadWork g sub m)
    (λ f. cond_both (nat_le b s.applied) _ _ (LeadWork g sub m) (λ q. news (other (ltb-true s.installed k f))) (λ q. record { is = lead_left g sub m (promises_above k s) }))
    (λ f. cond_both (nat_lt (length s.log) b) _ _ (LeadWork g sub m) (λ q. record { is = lead_left g sub m (listens g from k s) }) (λ q. record { is = cond_both ((k == s.installed) && (from == k % g.nodes)) (record s { silent = 0 }) s (Lead g sub m) (λ i l. fresh_alike s (record s { silent = 0 }) (record { log = refl; waiting = refl; pending = refl; base = refl }) (h l)) (λ i. h) })))
  where
    t : Member M
    t = told k a b members log s

    K : Keeper g m nothing Any (Unit {0}) (λ (u : Work M). Other g m u)
    K = keeps_other g m nothing low

    news : (m ≡ k % g.nodes → ⊥) → LeadWork g sub m (take_news g m k a b members log s)
    news apart = lead_stays g sub m k (w_request_all K tt t.pending _ apart (cond_both (is_acker g m t) (send_ack g m (idle t)) (idle t) (Stays (λ (u : Work M). Other g m u) k) (λ e. w_send_ack K tt (idle t) apart (record { at = refl; is = apart })) (λ e. record { at = refl; is = apart })))

lead_submit : {M : Type 0} (g : Group M) (sub : ℕ → List M) (m : ℕ) (x : M) (s : Member M) → m < g.nodes → Asked g sub s.log x → Lead g sub m s → LeadWork g sub m (submit g m x s)
lead_submit {M} g sub m x s low asked h = go (is_active t) refl
  where
    t : Member M
    t = pends g x s

    leading : leads g m t ≡ true → LeadWork g sub m (finish g m (ask g m m false x (idle t)))
    leading f = fresh_finish g sub m (ask g m m false x (idle t)) (λ l. (roomed.good, own))
      where
        old : Fresh g sub s
        old = h f

        e : (ask g m m false x (idle t)).state ≡ asks g false x t
        e = ask_state g m m false x (idle t)

        step : Step g t (ask g m m false x (idle t)).state
        step = subst (λ (v : Member M). Step g t v) (sym e) (asks_step g false x t)

        roomed : Roomed g sub (ask g m m false x (idle t)).state
        roomed = subst (λ (v : Member M). Roomed g sub v) (sym e) (asks_roomed g sub false x t asked (roomed_alike s t refl refl refl old.roomed))

        own : (y : M) → In y (ask g m m false x (idle t)).state.pending → Covered g (ask g m m false x (idle t)).state.log (ask g m m false x (idle t)).state.waiting y
        own y i = ⊎_elim (λ q. subst (λ (z : M). Covered g (ask g m m false x (idle t)).state.log (ask g m m false x (idle t)).state.waiting z) (sym q) (subst (λ (v : Member M). Covered g v.log v.waiting x) (sym e) (asks_covered g false x t)))
            (λ j. step.covers y (old.own y j)) (put_from g x s.pending y (subst (λ (xs : List M). In y xs) step.pending i))

    go : (a : Bool) → is_active t ≡ a → LeadWork g sub m (if a then (if leads g m t then finish g m (ask g m m false x (idle t)) else request g m x (idle t)) else idle t)
    go false e = record { is = λ l. no (sym (and_parts (is_active t) (t.installed % g.nodes == m) l).0 ∙ e) }
    go true e = cond_both (leads g m t) _ _ (LeadWork g sub m) (λ f. leading f)
        (λ f. let other = active_other g m t e f in lead_stays g sub m t.installed (w_request (keeps_other g m nothing low) tt x (idle t) other (record { at = refl; is = other })))

again_same : {M : Type 0} (n m : ℕ) (u : Work M) → (invite_again n m u).state ≡ u.state
again_same zero m u = refl
again_same {M} (suc n) m u =
    let i = again_same n m u in
    let v = invite_again n m u in
    cond_both ((n == m) || gave v.state.answers n) v (tell m v.state.promised Invite n v) (λ (o : Work M). o.state ≡ u.state) (λ e. i) (λ e. i)

lead_again : {M : Type 0} (g : Group M) (sub : ℕ → List M) (m : ℕ) (t : Member M) → m < g.nodes → Lead g sub m t → LeadWork g sub m (send_again_all g m (idle t))
lead_again {M} g sub m t low h = go (is_active t) refl
  where
    K : Keeper g m nothing Any (Unit {0}) (λ (u : Work M). Other g m u)
    K = keeps_other g m nothing low

    go : (a : Bool) → is_active t ≡ a → LeadWork g sub m (if a then (if leads g m t then tell_others g m t.installed (Accept t.accepted (stable_of g m t)) (idle t) else send_status g m (request_all g m t.pending (idle t))) else (if is_gathering g m t then invite_again g.nodes m (idle t) else idle t))
    go true e = cond_both (leads g m t) _ _ (LeadWork g sub m)
        (λ f. record { is = subst (Lead g sub m) (sym (told_others_state g.nodes m t.installed (Accept t.accepted (stable_of g m t)) (idle t))) h })
        (λ f. let other = active_other g m t e f in lead_stays g sub m t.installed (w_send_status K tt _ other (w_request_all K tt t.pending (idle t) other (record { at = refl; is = other }))))
    go false e = cond_both (is_gathering g m t) _ _ (LeadWork g sub m) (λ f. record { is = subst (Lead g sub m) (sym (again_same g.nodes m (idle t))) h }) (λ f. record { is = h })

lead_timer : {M : Type 0} (g : Group M) (sub : ℕ → List M) (m : ℕ) (s : Member M) → m < g.nodes → s.installed ≤ s.promised → MayInstall g sub (coordinating m (next_incarnation g m s.promised) (ticked g m s)) → Lead g sub m s → LeadWork g sub m (timer g m s)
lead_timer {M} g sub m s low le can h = cond_both s.outside _ _ (LeadWork g sub m) (λ e. record { is = h }) (λ e. cond_both (is_due m (ticked g m s)) _ _ (LeadWork g sub m) (λ f. lead_coordinate g sub m (ticked g m s) low le can quiet) (λ f. lead_again g sub m (ticked g m s) low quiet))
  where
    quiet : Lead g sub m (ticked g m s)
    quiet l = fresh_alike s (ticked g m s) (record { log = refl; waiting = refl; pending = refl; base = refl }) (h l)

lead_note : {M : Type 0} (g : Group M) (sub : ℕ → List M) (m n : ℕ) (s : Member M) → Lead g sub m s → LeadWork g sub m (note g m n s)
lead_note {M} g sub m n s h = cond_both (should_report g m n s) (send_status g m (idle t)) (idle t) (λ (u : Work M). LeadWork g sub m (finish g m u)) (λ e. fresh_finish g sub m (send_status g m (idle t)) from) (λ e. fresh_finish g sub m (idle t) from)
  where
    t : Member M
    t = noted g n s

    from : leads g m t ≡ true → Good g sub t.log t.waiting × ((x : M) → In x t.pending → Covered g t.log t.waiting x)
    from l = let f = h l in (f.roomed.good, λ x i. f.own x (in_keep _ x s.pending i))

-- ---- more is submitted

-- what is new is behind all that its process submitted
pub record Adds {M : Type 0} (g : Group M) (old new : ℕ → List M) : Type 0 where
  pub keeps : (i : ℕ) (e : M) → In e (old i) → In e (new i)
  pub above : (i : ℕ) (e : M) → In e (new i) → In e (old i) ⊎ ((o : M) → In o (old i) → g.call o < g.call e)

adds_self : {M : Type 0} (g : Group M) (sub : ℕ → List M) → Adds g sub sub
adds_self g sub = record { keeps = λ i e t. t; above = λ i e t. inl t }

asked_adds : {M : Type 0} {g : Group M} {old new : ℕ → List M} {log : List M} (x : M) → Adds g old new → Asked g old log x → Asked g new log x
asked_adds {M} {g} x d a = record { known = d.keeps (g.process x) x a.known; earlier = λ e i l. ⊎_elim (λ j. a.earlier e j l) (λ o. let k = o x a.known in absurd (omega arith)) (d.above (g.process x) e i) }

good_adds : {M : Type 0} {g : Group M} {old new : ℕ → List M} (log : List M) (ws : List (Waiting M)) → Adds g old new → Good g old log ws → Good g new log ws
good_adds log [] d h = tt
good_adds log (w ∷ ws) d h = (asked_adds w.message d h.0, h.1, h.2, good_adds log ws d h.3)

lead_adds : {M : Type 0} {g : Group M} {old new : ℕ → List M} (m : ℕ) (s : Member M) → Adds g old new → Lead g old m s → Lead g new m s
lead_adds m s d h l = let f = h l in record { roomed = record { roomy = f.roomed.roomy; good = good_adds s.log s.waiting d f.roomed.good }; own = f.own }

-- ---- every event

after_submitted : {M : Type 0} (acts : List (Act M)) (p : Past M) → (after acts p).submitted ≡ p.submitted
after_submitted [] p = refl
after_submitted (Act.Sends l ∷ acts) p = after_submitted acts p
after_submitted (Act.Keeps q ∷ acts) p = after_submitted acts p
after_submitted (Act.Orders k x ∷ acts) p = after_submitted acts p
after_submitted (Act.Begins k log answers ∷ acts) p = after_submitted acts p

-- what a process with a pending message submitted before that is among what its member applied
asked_install : {M : Type 0} (g : Group M) (p : Past M) (m : ℕ) (s : Member M) (b : Report M) → ((i : ℕ) (q : M) → In q (p.submitted i) → g.process q ≡ i) → QueueOf g p m s → Same s.applied s.log b.log → (x : M) → In x s.pending → Asked g p.submitted b.log x
asked_install {M} g p m s b named h same x i = record {
  known = h.known x i;
  earlier = λ e j l. ⊎_elim
      (λ q. let o = h.one x e i q (sym (named (g.process x) e j)) in let c : g.call x ≡ g.call e = ap g.call o in absurd (omega arith))
      (λ q. in_take e s.applied b.log (in_same e s.applied s.log b.log same q)) (h.past (g.process x) e (h.home x i) j);
}

record Turn {M : Type 0} (g : Group M) (w : GroupWorld M) (m : ℕ) (p : Past M) (u : Work M) : Type 0 where
  adds : Adds g w.past.submitted p.submitted
  lead : LeadWork g p.submitted m u

lead_rows : {M : Type 0} {g : Group M} {w : GroupWorld M} (event : Event M) → 2 * g.resilience < g.nodes → Inv g w → ((m : ℕ) → Lead g w.past.submitted m (w.members m)) → Does g w event (λ m p u. Turn g w m p u)
lead_rows {M} {g} {w} event small h t = record {
  submit = λ m x low is can. submits m x low can;
  deliver = λ m q low sent goes. turn m (comes m q.from q.inc q.kind low sent);
  timer = λ m low is. turn m (lead_timer g sub m (w.members m) low (h.fits m).stands.promised (may m (ticked g m (w.members m)) low (inr refl)) (t m));
  coordinate = λ m low is. turn m (lead_coordinate g sub m (w.members m) low (h.fits m).stands.promised (may m (w.members m) low (inl refl)) (t m));
  note = λ m n low is above le. turn m (lead_note g sub m n (w.members m) (t m));
}
  where
    sub : ℕ → List M
    sub = w.past.submitted

    turn : (m : ℕ) {u : Work M} → LeadWork g sub m u → Turn g w m w.past u
    turn m l = record { adds = adds_self g sub; lead = l }

    may : (m : ℕ) (s : Member M) → m < g.nodes → (s ≡ w.members m) ⊎ (s ≡ ticked g m (w.members m)) → MayInstall g sub (coordinating m (next_incarnation g m s.promised) s)
    may m s low is b best many base x i = let r = ticked_ready m s is h in asked_install g w.past m s b h.rows.named r.queue (coordinating_installs m s b small low r best many base).same x i

    joins : (m k from : ℕ) (j : Report M) → Sent w.past.letters (join k from j) → Gathering g m (w.members m) → k ≡ (w.members m).promised → MayInstall g sub (keeps from j (w.members m))
    joins m k from j sent o is b best many base x i = asked_install g w.past m (w.members m) b h.rows.named (h.queues m) (keeping_installs m k from j b small o is sent h best many base).same x i

    ripe : (m k : ℕ) (x : M) → Ripe g w.past k x → k ≡ (w.members m).installed → m ≡ (w.members m).installed % g.nodes → Asked g sub (w.members m).log x
    ripe m k x r at here = record { known = r.submitted; earlier = λ e i l. subst (λ (xs : List M). In e xs) (sym ((h.fits m).bounds.whole here)) (subst (λ (n : ℕ). In e (list_of w.past n)) at (r.earlier e i l)) }

    comes : (m from k : ℕ) (v : Kind M) → m < g.nodes → Sent w.past.letters (record { inc = k; from = from; kind = v }) → LeadWork g sub m (deliver_kind g m from k v (w.members m))
    comes m from k (Request a x) low sent = lead_receive g sub m from k (Request a x) (w.members m) low (h.fits m).stands.promised (λ at here. ripe m k x (h.rows.asked (record { inc = k; from = from; kind = Request a x }) sent) at here) (t m)
    comes m from k (Body a x) low sent = lead_receive g sub m from k (Body a x) (w.members m) low (h.fits m).stands.promised (λ at here. ripe m k x (h.rows.asked (record { inc = k; from = from; kind = Body a x }) sent) at here) (t m)
    comes m from k (Order n i call a b) low sent = lead_receive g sub m from k (Order n i call a b) (w.members m) low (h.fits m).stands.promised (λ at here. tt) (t m)
    comes m from k (Entry n a b x) low sent = lead_receive g sub m from k (Entry n a b x) (w.members m) low (h.fits m).stands.promised (λ at here. tt) (t m)
    comes m from k (Ack n a) low sent = lead_receive g sub m from k (Ack n a) (w.members m) low (h.fits m).stands.promised (λ at here. tt) (t m)
    comes m from k (Accept a b) low sent = lead_receive g sub m from k (Accept a b) (w.members m) low (h.fits m).stands.promised (λ at here. tt) (t m)
    comes m from k (Nack n a whole) low sent = lead_receive g sub m from k (Nack n a whole) (w.members m) low (h.fits m).stands.promised (λ at here. tt) (t m)
    comes m from k (Status n a) low sent = lead_receive g sub m from k (Status n a) (w.members m) low (h.fits m).stands.promised (λ at here. tt) (t m)
    comes m from k Invite low sent = lead_invited g sub m from k (w.members m) (h.fits m).stands.promised (t m)
    comes m from k (Join j) low sent = lead_joined g sub m from k j (w.members m) (λ o is. joins m k from j sent o is) (t m)
    comes m from k (News a b members log) low sent = lead_announced g sub m from k a b members log (w.members m) low other (t m)
      where
        other : (w.members m).installed < k → m ≡ k % g.nodes → ⊥
        other above e = let l = (h.fits m).bounds.leads k (h.sound.tells (record { inc = k; from = from; kind = News a b members log }) sent).up e in omega arith

    submits : (m : ℕ) (x : M) → m < g.nodes → MaySubmit g w m x → Turn g w m (submitted_past g m x w.past) (submit g m x (w.members m))
    submits m x low can = record { adds = adds; lead = lead_submit g (submitted_past g m x w.past).submitted m x (w.members m) low asked (lead_adds m (w.members m) adds (t m)) }
      where
        adds : Adds g sub (submitted_past g m x w.past).submitted
        adds = record {
          keeps = λ i e. at_both sub (g.process x) (x ∷ sub (g.process x)) i (λ (l : List M). In e (sub i) → In e l) (λ q j. inr (subst (λ (z : ℕ). In e (sub z)) q j)) (λ q j. j);
          above = λ i e. at_both sub (g.process x) (x ∷ sub (g.process x)) i (λ (l : List M). In e l → In e (sub i) ⊎ ((o : M) → In o (sub i) → g.call o < g.call e))
              (λ q j. ⊎_elim (λ f. inr (λ o u. let l = can.lower o (subst (λ (z : ℕ). In o (sub z)) q u) in let c : g.call e ≡ g.call x = ap g.call f in omega arith)) (λ u. inl (subst (λ (z : ℕ). In e (sub z)) (sym q) u)) j) (λ q j. inl j);
        }

        before : (e : M) → In e (sub (g.process x)) → In e (w.members m).log
        before e i = ⊎_elim (λ n. absurd (h.rows.homeless (g.process x) e n i))
            (λ n. ⊎_elim (λ q. absurd (can.none e q (h.rows.named (g.process x) e i))) (λ q. in_take e (w.members m).applied (w.members m).log q) ((h.queues m).past (g.process x) e n i)) can.home

        asked : Asked g (submitted_past g m x w.past).submitted (w.members m).log x
        asked = record {
          known = at_both sub (g.process x) (x ∷ sub (g.process x)) (g.process x) (λ (l : List M). In x l) (λ q. inl refl) (λ q. absurd (q refl));
          earlier = λ e i l. ⊎_elim (λ j. before e j) (λ o. at_both sub (g.process x) (x ∷ sub (g.process x)) (g.process x) (λ (xs : List M). In e xs → In e (w.members m).log) (λ q j. ⊎_elim (λ f. let c : g.call e ≡ g.call x = ap g.call f in absurd (omega arith)) (λ u. before e u) j) (λ q. absurd (q refl)) i) (adds.above (g.process x) e i);
        }

lead_at : {M : Type 0} {g : Group M} {w : GroupWorld M} (event : Event M) → 2 * g.resilience < g.nodes → Inv g w → ((m : ℕ) → Lead g w.past.submitted m (w.members m)) → (m : ℕ) → Lead g (gnext g w event).past.submitted m ((gnext g w event).members m)
lead_at {M} {g} {w} event small h t = each_event (λ m p u. Turn g w m p u) (λ (v : GroupWorld M). (x : ℕ) → Lead g v.past.submitted x (v.members x)) event h (lead_rows event small h t)
    (λ m p u low d x. subst (λ (sub : ℕ → List M). Lead g sub x (with_at w.members m u.state x)) (sym (after_submitted u.acts p)) (at_both w.members m u.state x (λ (s : Member M). Lead g p.submitted x s) (λ e. subst (λ (z : ℕ). Lead g p.submitted z u.state) (sym e) d.lead.is) (λ e. lead_adds x (w.members x) d.adds (t x)))) (λ lives. t) t

lead_runs : {M : Type 0} {g : Group M} (w : GroupWorld M) (es : List (Event M)) → 2 * g.resilience < g.nodes → Inv g w → ((m : ℕ) → Lead g w.past.submitted m (w.members m)) → (m : ℕ) → Lead g (run g w es).past.submitted m ((run g w es).members m)
lead_runs w [] small h t = t
lead_runs {M} {g} w (e ∷ es) small h t = lead_runs (gnext g w e) es small (happened e small h) (lead_at e small h t)

pub led_fresh : {M : Type 0} (g : Group M) → 2 * g.resilience < g.nodes → (es : List (Event M)) (m : ℕ) → leads g m ((run g opening es).members m) ≡ true → Fresh g (run g opening es).past.submitted ((run g opening es).members m)
led_fresh {M} g small es m = lead_runs opening es small (opened g small) (λ m l. record { roomed = record { roomy = λ r. refl; good = tt }; own = λ x i. absurd i }) m

apart_of : {M : Type 0} (g : Group M) (sub : ℕ → List M) (log : List M) (ws : List (Waiting M)) → Good g sub log ws → Apart g ws
apart_of g sub log [] h = tt
apart_of g sub log (w ∷ ws) h = (h.2, apart_of g sub log ws h.3)

pub waiting_law : (M : Type 0) → WaitingLaw M
waiting_law M g small events m l =
    let f = led_fresh g small events m l in
    let s = (run g opening events).members m in
    let sub = (run g opening events).past.submitted in
    record {
      fresh = λ w i. above_no_repeat g s.log w.message (good_at g sub s.log s.waiting f.roomed.good w i).1;
      apart = apart_of g sub s.log s.waiting f.roomed.good;
      own = λ x i. ⊎_elim (λ h. inl (has_repeat g s.log x h)) (λ w. inr (waits_is g s.waiting x w)) (f.own x i);
    }
