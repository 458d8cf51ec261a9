-- An active sequencer whose last entry isn't accepted: each tick makes it one more silent, until it coordinates.
use Rattle.std.proofs.Common.{◌≡◌, ℕ, suc, ◌+◌, ◌*◌, ◌%◌, ◌≤◌, ◌<◌, ◌==◌, ◌&&◌, not, min, nat_lt, nat_le, ◌⊎◌, inl, inr, ⊎_elim, Bool, true, false, List, [], ◌∷◌, length, refl, sym, ap, ◌∙◌, arith, le_refl, subst, if◌then◌else◌}
use Rattle.std.proofs.lemmas.Bool.{cond_both, eqb-true, eqb-false, leb-true, leb-false, ltb-true, and_parts}
use Rattle.orca_base.specs.declared.limits.TheConstants.{PATIENCE}
use Rattle.group_rules.specs.Messages.{Group}
use Rattle.group_rules.specs.Member.{Report, Kind, Packet, Member, Waiting, is_active, leads, is_acker, is_gathering}
use Rattle.group_rules.specs.Member.Kind.{Request, Body, Order, Entry, Ack, Accept, Nack, Status, Invite, Join, News}
use Rattle.group_rules.specs.Work.{Work, idle, becomes}
use Rattle.group_rules.specs.World.{GroupWorld, acts_on}
use Rattle.group_rules.specs.Sequencer.{ask, finish, accept_of}
use Rattle.group_rules.specs.Receiver.{send_ack}
use Rattle.group_rules.specs.Reset.{heeds, listens, promises, promises_above, answer, told, take_news, invited, joined, announced}
use Rattle.group_rules.specs.Steps.{SILENCE, is_empty, pends, submit, receive, at_sequencer, at_other, of_later, deliver, is_content, ticked, is_due, send_again_all, timer}
use Rattle.group_law.proofs.Walk.{gathering_if}
use Rattle.group_law.proofs.Law.{reached}
use Rattle.group_idle.specs.Net.{Net, Move, moves}
use Rattle.group_idle.specs.Idle.{Reached, Unmoved, Still, Idle, ticks_in}
use Rattle.group_idle.proofs.Parts.{BusyLaw, LoadedLaw}
use Rattle.group_idle.proofs.Rising.{coordinate_above, told_others_state}
use Rattle.group_idle.proofs.Stretches.{acting, Steps, submit_keeps, deliver_keeps, Climbs, climb, timed, lives_submit, lives_deliver, lives_tick, acts_same}
use Rattle.group_idle.proofs.Hushing.{Hush, hush_ask, hush_finish, hush_sequencer}
use Rattle.group_idle.proofs.Tying.{reached_moves}
use Rattle.group_idle.proofs.Asking.{Fresh, led_fresh}
use Rattle.group_idle.proofs.Holding.{Held, Holds, held_waits, held_of, ask_holds, sequencer_holds, finish_holds}
use Rattle.group_idle.proofs.Inactive.{no, Ticked, answer_state, requests_installed}

-- the active sequencer m, whose last entry isn't accepted
pub record Busy {M : Type 0} (g : Group M) (m : ℕ) (s : Member M) : Type 0 where
  pub leads : leads g m s ≡ true
  pub more : s.accepted < length s.log

-- it leads
pub record Sits {M : Type 0} (g : Group M) (m : ℕ) (s : Member M) : Type 0 where
  pub leads : leads g m s ≡ true
  pub fits : s.accepted ≤ length s.log

pub record Calm {M : Type 0} (g : Group M) (s t : Member M) : Type 0 where
  pub silent : s.silent ≤ t.silent
  pub longer : length s.log ≤ length t.log
  pub holds : Held g s → (length s.log < length t.log) ⊎ (t.waiting ≡ [] → ⊥)

calm_self : {M : Type 0} (g : Group M) (s : Member M) → Calm g s s
calm_self g s = record { silent = le_refl _; longer = le_refl _; holds = λ h. inr (held_waits h) }

abbrev Ends : {M : Type 0} → Group M → Member M → Work M → Type 0
Ends g s v = Unmoved s v.state → Calm g s v.state

stays : {M : Type 0} (g : Group M) (s : Member M) (v : Work M) → v.state ≡ s → Ends g s v
stays g s v e o = subst (λ t. Calm g s t) (sym e) (calm_self g s)

hushed : {M : Type 0} (g : Group M) (s : Member M) (v : Work M) → Hush s v → (Held g s → (length s.log < length v.state.log) ⊎ (v.state.waiting ≡ [] → ⊥)) → Ends g s v
hushed g s v h w o = record { silent = h.hush o.accepted; longer = h.longer; holds = w }

begins : {M : Type 0} (s t : Member M) → s.accepted ≤ length s.log → t.accepted ≡ s.accepted → t.log ≡ s.log → t.silent ≡ s.silent → Hush s (idle t)
begins s t fits a l i = record { fits = let e = ap length l in omega arith; grows = omega arith; longer = let e = ap length l in omega arith; hush = λ e. omega arith }

-- ---- what the leader's place gives

pub record Leads {M : Type 0} (g : Group M) (m : ℕ) (s : Member M) : Type 0 where
  pub active : is_active s ≡ true
  pub same : s.installed ≡ s.promised
  pub here : s.installed % g.nodes ≡ m

pub leads_is : {M : Type 0} (g : Group M) (m : ℕ) (s : Member M) → leads g m s ≡ true → Leads g m s
leads_is g m s e =
    let a = and_parts (is_active s) (s.installed % g.nodes == m) e in
    record { active = a.0; same = eqb-true s.installed s.promised (and_parts (s.installed == s.promised) (not s.outside) a.0).0; here = eqb-true (s.installed % g.nodes) m a.1 }

pub still_leads : {M : Type 0} (g : Group M) (m : ℕ) (s t : Member M) → Unmoved s t → leads g m s ≡ true → leads g m t ≡ true
still_leads {M} g m s t o e = ap (λ (i : ℕ). f i t.promised t.outside) o.installed ∙ ap (λ (p : ℕ). f s.installed p t.outside) o.promised ∙ ap (λ (b : Bool). f s.installed s.promised b) (o.stays ∙ sym o.inside) ∙ e
  where
    f : ℕ → ℕ → Bool → Bool
    f i p b = ((i == p) && not b) && (i % g.nodes == m)

pub still_busy : {M : Type 0} (g : Group M) (m : ℕ) (s t : Member M) → Busy g m s → Unmoved s t → Calm g s t → Busy g m t
still_busy g m s t b o c = record { leads = still_leads g m s t o b.leads; more = let x = b.more in let y = c.longer in let z = o.accepted in omega arith }

pub listens_own : {M : Type 0} (g : Group M) (m from k : ℕ) (s : Member M) → s.installed % g.nodes ≡ m → (from ≡ m → ⊥) → listens g from k s ≡ s
listens_own g m from k s here other = cond_both ((k == s.installed) && (from == k % g.nodes)) _ s (λ t. t ≡ s)
    (λ e. let a = and_parts (k == s.installed) (from == k % g.nodes) e in absurd (other (eqb-true from (k % g.nodes) a.1 ∙ ap (λ (i : ℕ). i % g.nodes) (eqb-true k s.installed a.0) ∙ here))) (λ e. refl)

-- ---- its steps

submit_ends : {M : Type 0} (g : Group M) (m : ℕ) (x : M) (s : Member M) → Sits g m s → Ends g s (submit g m x s)
submit_ends {M} g m x s b = cond_both (is_active t) _ _ (Ends g s)
    (λ e. cond_both (leads g m t) _ _ (Ends g s) (λ q. hushed g s (finish g m (ask g m m false x (idle t))) (hush_finish g m s (ask g m m false x (idle t)) (hush_ask g m m false x s (idle t) (begins s t b.fits refl refl refl)))
    (λ h. finish_holds g m s.log (ask g m m false x (idle t)) (ask_holds g m m false x (idle t) (record { head = h.head; rest = h.rest; is = h.is; above = h.above; full = h.full })))) (λ q. no (sym b.leads ∙ q)))
    (λ e. no (sym (leads_is g m s b.leads).active ∙ e))
  where
    t : Member M
    t = pends g x s

pub later_state : {M : Type 0} (m from k : ℕ) (t : Kind M) (s : Member M) → (of_later m from k t (idle s)).state ≡ s
later_state m from k (Request a x) s = refl
later_state m from k (Body a x) s = refl
later_state m from k (Order n i c a b) s = refl
later_state m from k (Entry n a b x) s = refl
later_state m from k (Ack n a) s = refl
later_state m from k (Accept a b) s = refl
later_state m from k (Nack n a whole) s = refl
later_state m from k (Status n a) s = refl
later_state m from k Invite s = refl
later_state m from k (Join j) s = refl
later_state m from k (News a b members log) s = refl

receive_ends : {M : Type 0} (g : Group M) (m from k : ℕ) (t : Kind M) (s : Member M) → (from ≡ m → ⊥) → Sits g m s → Ends g s (receive g m from k t s)
receive_ends {M} g m from k t s other b = cond_both (not (heeds s k)) _ _ (Ends g s) (λ e. stays g s (idle s) refl)
    (λ e. cond_both (k == s.installed) _ _ (Ends g s) (λ q. own (eqb-true k s.installed q)) (λ q. stays g s (of_later m from k t (idle s)) (later_state m from k t s)))
  where
    l : Leads g m s
    l = leads_is g m s b.leads

    u : Work M
    u = becomes (listens g from k s) (idle s)

    start : Hush s u
    start = subst (λ (r : Member M). Hush s (becomes r (idle s))) (sym (listens_own g m from k s l.here other)) (begins s s (b.fits) refl refl refl)

    own : k ≡ s.installed → Ends g s (if k % g.nodes == m then finish g m (at_sequencer g m from t u) else at_other g m t u)
    own e = cond_both (k % g.nodes == m) _ _ (Ends g s) (λ q. hushed g s (finish g m (at_sequencer g m from t u)) (hush_finish g m s (at_sequencer g m from t u) (hush_sequencer g m from t s u start))
        (λ h. finish_holds g m s.log (at_sequencer g m from t u) (subst (λ (r : Member M). Holds g s.log (at_sequencer g m from t (becomes r (idle s))).state) (sym (listens_own g m from k s l.here other)) (sequencer_holds g m from t (idle s) h)))) (λ q. absurd (eqb-false (k % g.nodes) m q (ap (λ (i : ℕ). i % g.nodes) e ∙ l.here)))

invited_ends : {M : Type 0} (g : Group M) (m from k : ℕ) (s : Member M) → (from ≡ m → ⊥) → Sits g m s → Ends g s (invited g m from k s)
invited_ends {M} g m from k s other b = cond_both (heeds s k && not (k % g.nodes == m)) _ _ (Ends g s)
    (λ e. subst (λ (t : Member M). Ends g s (answer g m k (idle (promises_above k t)))) (sym (listens_own g m from k s (leads_is g m s b.leads).here other))
    (cond_both (nat_lt s.promised k) (promises k s) s (λ (t : Member M). Ends g s (answer g m k (idle t)))
    (λ q o. let d = o.promised in let a = ap (λ (t : Member M). t.promised) (answer_state g m k (promises k s)) in let c = ltb-true s.promised k q in absurd (omega arith))
    (λ q. stays g s (answer g m k (idle s)) (answer_state g m k s))))
    (λ e. stays g s (idle s) refl)

joined_ends : {M : Type 0} (g : Group M) (m from k : ℕ) (j : Report M) (s : Member M) → Sits g m s → Ends g s (joined g m from k j s)
joined_ends {M} g m from k j s b = cond_both (is_gathering g m s && (k == s.promised)) _ _ (Ends g s)
    (λ e. let a = (gathering_if g m s (and_parts (is_gathering g m s) (k == s.promised) e).0).above in let c = (leads_is g m s b.leads).same in absurd (omega arith)) (λ e. stays g s (idle s) refl)

announced_ends : {M : Type 0} (g : Group M) (m from k a b : ℕ) (members : ℕ → Bool) (log : List M) (s : Member M) → (from ≡ m → ⊥) → Sits g m s → Ends g s (announced g m from k a b members log s)
announced_ends {M} g m from k a b members log s other y = cond_both (not (heeds s k)) _ _ (Ends g s) (λ e. stays g s (idle s) refl)
    (λ e. cond_both (nat_lt s.installed k) _ _ (Ends g s)
    (λ q. cond_both (nat_le b s.applied) _ _ (Ends g s) (λ r o. let d = o.installed in let n = news in let c = ltb-true s.installed k q in absurd (omega arith)) (λ r o. no o.stays))
    (λ q. cond_both (nat_lt (length s.log) b) _ _ (Ends g s) (λ r o. no o.stays) (λ r. stays g s (idle (listens g from k s)) (listens_own g m from k s (leads_is g m s y.leads).here other))))
  where
    t : Member M
    t = told k a b members log s

    news : (take_news g m k a b members log s).state.installed ≡ k
    news = requests_installed g m t.pending (if is_acker g m t then send_ack g m (idle t) else idle t) ∙ cond_both (is_acker g m t) (send_ack g m (idle t)) (idle t) (λ (v : Work M). v.state.installed ≡ k) (λ e. refl) (λ e. refl)

deliver_ends : {M : Type 0} (g : Group M) (m : ℕ) (q : Packet M) (s : Member M) → (q.from ≡ m → ⊥) → Sits g m s → Ends g s (deliver g m q s)
deliver_ends {M} g m q s other b = go q.kind
  where
    go : (t : Kind M) → Ends g s (deliver g m (record { inc = q.inc; from = q.from; kind = t }) s)
    go (Request a x) = receive_ends g m q.from q.inc (Request a x) s other b
    go (Body a x) = receive_ends g m q.from q.inc (Body a x) s other b
    go (Order n i c a d) = receive_ends g m q.from q.inc (Order n i c a d) s other b
    go (Entry n a d x) = receive_ends g m q.from q.inc (Entry n a d x) s other b
    go (Ack n a) = receive_ends g m q.from q.inc (Ack n a) s other b
    go (Accept a d) = receive_ends g m q.from q.inc (Accept a d) s other b
    go (Nack n a whole) = receive_ends g m q.from q.inc (Nack n a whole) s other b
    go (Status n a) = receive_ends g m q.from q.inc (Status n a) s other b
    go Invite = invited_ends g m q.from q.inc s other b
    go (Join j) = joined_ends g m q.from q.inc j s b
    go (News a d members log) = announced_ends g m q.from q.inc a d members log s other b

-- ---- a tick

-- while it leads and isn't content, it tells what is accepted
again_leads : {M : Type 0} (g : Group M) (m : ℕ) (t : Member M) → leads g m t ≡ true → (send_again_all g m (idle t)).state ≡ t
again_leads {M} g m t e = cond_both (is_active t) _ _ (λ (v : Work M). v.state ≡ t)
    (λ a. cond_both (leads g m t) _ _ (λ (v : Work M). v.state ≡ t) (λ q. told_others_state g.nodes m t.installed (accept_of g m t) (idle t)) (λ q. no (sym e ∙ q)))
    (λ a. no (sym (leads_is g m t e).active ∙ a))

-- the timer of a sequencer that isn't content
pub tick_ends : {M : Type 0} (g : Group M) (m : ℕ) (s : Member M) → m < g.nodes → g.nodes ≤ 256 → leads g m s ≡ true → is_content g m s ≡ false → Unmoved s (timer g m s).state → Ticked m s.silent (timer g m s).state.silent × ((timer g m s).state.log ≡ s.log) × ((timer g m s).state.waiting ≡ s.waiting)
tick_ends {M} g m s low few l not_content = cond_both s.outside _ _ Goal (λ e o. no (sym e ∙ o.inside))
    (λ e. cond_both (is_due m t) _ _ Goal (λ q o. let a = coordinate_above g m t low o.inside in let b = o.promised in absurd (omega arith)) (λ q o. subst (λ (u : Member M). Ticked m s.silent u.silent × (u.log ≡ s.log) × (u.waiting ≡ s.waiting)) (sym (again_leads g m t l)) (
      record {
        more = let a = silent in let b = leb-false (PATIENCE + m) t.silent q in omega arith;
        less = leb-false (PATIENCE + m) t.silent q;
      },
      refl,
      refl,
    )))
  where
    t : Member M
    t = ticked g m s

    Goal : Work M → Type 0
    Goal v = Unmoved s v.state → Ticked m s.silent v.state.silent × (v.state.log ≡ s.log) × (v.state.waiting ≡ s.waiting)

    silent : t.silent ≡ min (suc s.silent) SILENCE
    silent = ap (λ (b : Bool). if b then 0 else min (suc s.silent) SILENCE) not_content

busy_not_content : {M : Type 0} (g : Group M) (m : ℕ) (s : Member M) → Busy g m s → is_content g m s ≡ false
busy_not_content {M} g m s b = ap (λ (a : Bool). a && (nat_le (length s.log) s.accepted && is_empty s.waiting)) b.leads ∙ ap (λ (a : Bool). a && is_empty s.waiting) (by (nat_le (length s.log) s.accepted) refl)
  where
    by : (a : Bool) → nat_le (length s.log) s.accepted ≡ a → a ≡ false
    by true e = let c = leb-true (length s.log) s.accepted e in let d = b.more in absurd (omega arith)
    by false e = refl

-- ---- a stretch

pub record Leading {M : Type 0} (g : Group M) (m : ℕ) (n : Net M) : Type 0 where
  pub acts : acts_on g n.world m ≡ true
  pub busy : Busy g m (n.world.members m)

sits : {M : Type 0} {g : Group M} {m : ℕ} {s : Member M} → Busy g m s → Sits g m s
sits b = record { leads = b.leads; fits = let l = b.more in omega arith }

pub steps : {M : Type 0} (g : Group M) (m : ℕ) → m < g.nodes → Steps g m (λ (s t : Member M). Sits g m s → Calm g s t)
steps {M} g m low = record {
  submits = λ x s o b. submit_ends g m x s b o;
  delivers = λ q s other o b. deliver_ends g m q s other b o;
  rests = λ s b. calm_self g s;
}

climbs : {M : Type 0} (g : Group M) (m : ℕ) → m < g.nodes → g.nodes ≤ 256 → Climbs g m (PATIENCE + m) (Leading {M = M} g m)
climbs {M} g m low few = record {
  submits = λ n y x c still. let k = submit_keeps (steps g m low) n y x still (sits c.busy) in (record { acts = acts_same g n (moves g n (Move.Submits y x)) m (lives_submit g n y x) c.acts; busy = still_busy g m _ _ c.busy (still m low) k }, k.silent);
  delivers = λ n place c still. let k = deliver_keeps (steps g m low) n place still (sits c.busy) in (record { acts = acts_same g n (moves g n (Move.Delivers place)) m (lives_deliver g n place) c.acts; busy = still_busy g m _ _ c.busy (still m low) k }, k.silent);
  ticks = λ n c none still.
      let e = (timed g n g.nodes).ran m low c.acts in
      let k = tick_ends g m (n.world.members m) low few c.busy.leads (busy_not_content g m (n.world.members m) c.busy) (subst (λ (t : Member M). Unmoved (n.world.members m) t) e (still m low)) in
      let d = subst (λ (t : Member M). Ticked m (n.world.members m).silent t.silent × (t.log ≡ (n.world.members m).log) × (t.waiting ≡ (n.world.members m).waiting)) (sym e) k in
      let calm : Calm g (n.world.members m) ((moves g n Move.Ticks).world.members m) = record { silent = let a = d.0.more in omega arith; longer = let a = ap length d.1 in omega arith; holds = λ h. inr (λ e. held_waits h (sym d.2 ∙ e)) } in
      (record { acts = acts_same g n (moves g n Move.Ticks) m (lives_tick g n) c.acts; busy = still_busy g m _ _ c.busy (still m low) calm }, d.0.more, d.0.less);
}

pub busy : (M : Type 0) → BusyLaw M
busy M g few n m acts leads more list idle =
    let low = ltb-true m g.nodes (and_parts (nat_lt m g.nodes) (n.world.lives m) acts).0 in
    ⊎_elim (λ e. omega arith) (λ l. omega arith) (climb (climbs g m low few) list n (record { acts = acts; busy = record { leads = leads; more = more } }) idle)

-- ---- where messages wait, too

-- its last entry isn't accepted, or messages wait
abbrev pub More : {M : Type 0} → Member M → Type 0
More s = (s.accepted < length s.log) ⊎ (s.waiting ≡ [] → ⊥)

pub more_not_content : {M : Type 0} (g : Group M) (m : ℕ) (s : Member M) → More s → is_content g m s ≡ false
more_not_content {M} g m s o = by (is_content g m s) refl
  where
    by : (b : Bool) → is_content g m s ≡ b → is_content g m s ≡ false
    by false e = e
    by true e = let a = and_parts (leads g m s) (nat_le (length s.log) s.accepted && is_empty s.waiting) e in let c = and_parts (nat_le (length s.log) s.accepted) (is_empty s.waiting) a.1 in
        absurd (⊎_elim (λ l. let d = leb-true (length s.log) s.accepted c.0 in omega arith) (λ n. n (empty s.waiting c.1)) o)
      where
        empty : (ws : List (Waiting M)) → is_empty ws ≡ true → ws ≡ []
        empty [] q = refl
        empty (w ∷ ws) q = no (sym q)

-- a state in which it is so, of a world that events lead to
pub record Loaded {M : Type 0} (g : Group M) (m : ℕ) (n : Net M) : Type 0 where
  pub real : Reached g n
  pub acts : acts_on g n.world m ≡ true
  pub leads : leads g m (n.world.members m) ≡ true
  pub more : More (n.world.members m)

pub fresh_real : {M : Type 0} (g : Group M) → 2 * g.resilience < g.nodes → (n : Net M) (m : ℕ) → Reached g n → leads g m (n.world.members m) ≡ true → Fresh g n.world.past.submitted (n.world.members m)
fresh_real {M} g small n m r = subst (λ (w : GroupWorld M). leads g m (w.members m) ≡ true → Fresh g w.past.submitted (w.members m)) (sym r.is) (led_fresh g small r.events m)

fits_real : {M : Type 0} (g : Group M) → 2 * g.resilience < g.nodes → (n : Net M) (m : ℕ) → Reached g n → (n.world.members m).accepted ≤ length (n.world.members m).log
fits_real {M} g small n m r = subst (λ (w : GroupWorld M). (w.members m).accepted ≤ length (w.members m).log) (sym r.is) ((reached g small r.events).holds m).fits

pub loaded_more : {M : Type 0} (g : Group M) → 2 * g.resilience < g.nodes → (n : Net M) (m : ℕ) (t : Member M) → Loaded g m n → Unmoved (n.world.members m) t → Calm g (n.world.members m) t → More t
loaded_more {M} g small n m t c o k = ⊎_elim (λ l. inl (let a = k.longer in let b = o.accepted in omega arith))
    (λ some. ⊎_elim (λ l. inl (let a = fits_real g small n m c.real in let b = o.accepted in omega arith)) (λ w. inr w) (k.holds (held_of g n.world.past.submitted (n.world.members m) some (fresh_real g small n m c.real c.leads)))) c.more

pub loaded_sits : {M : Type 0} (g : Group M) → 2 * g.resilience < g.nodes → (n : Net M) (m : ℕ) → Loaded g m n → Sits g m (n.world.members m)
loaded_sits g small n m c = record { leads = c.leads; fits = fits_real g small n m c.real }

lives_all : {M : Type 0} (g : Group M) (n : Net M) (move : Move M) → (moves g n move).world.lives ≡ n.world.lives
lives_all g n (Move.Submits y x) = lives_submit g n y x
lives_all g n (Move.Delivers place) = lives_deliver g n place
lives_all g n Move.Ticks = lives_tick g n

pub loaded_next : {M : Type 0} (g : Group M) (m : ℕ) → 2 * g.resilience < g.nodes → m < g.nodes → (n : Net M) (move : Move M) → Loaded g m n → Still g n (moves g n move) → Calm g (n.world.members m) ((moves g n move).world.members m) → Loaded g m (moves g n move)
loaded_next g m small low n move c still k = record {
  real = reached_moves g n move c.real;
  acts = acts_same g n (moves g n move) m (lives_all g n move) c.acts;
  leads = still_leads g m (n.world.members m) ((moves g n move).world.members m) (still m low) c.leads;
  more = loaded_more g small n m ((moves g n move).world.members m) c (still m low) k;
}

climbs_loaded : {M : Type 0} (g : Group M) (m : ℕ) → 2 * g.resilience < g.nodes → m < g.nodes → g.nodes ≤ 256 → Climbs g m (PATIENCE + m) (Loaded {M = M} g m)
climbs_loaded {M} g m small low few = record {
  submits = λ n y x c still. let k = submit_keeps (steps g m low) n y x still (loaded_sits g small n m c) in (loaded_next g m small low n (Move.Submits y x) c still k, k.silent);
  delivers = λ n place c still. let k = deliver_keeps (steps g m low) n place still (loaded_sits g small n m c) in (loaded_next g m small low n (Move.Delivers place) c still k, k.silent);
  ticks = λ n c none still.
      let e = (timed g n g.nodes).ran m low c.acts in
      let k = tick_ends g m (n.world.members m) low few c.leads (more_not_content g m (n.world.members m) c.more) (subst (λ (t : Member M). Unmoved (n.world.members m) t) e (still m low)) in
      let d = subst (λ (t : Member M). Ticked m (n.world.members m).silent t.silent × (t.log ≡ (n.world.members m).log) × (t.waiting ≡ (n.world.members m).waiting)) (sym e) k in
      let calm : Calm g (n.world.members m) ((moves g n Move.Ticks).world.members m) = record { silent = let a = d.0.more in omega arith; longer = let a = ap length d.1 in omega arith; holds = λ h. inr (λ e. held_waits h (sym d.2 ∙ e)) } in
      (loaded_next g m small low n Move.Ticks c still calm, d.0.more, d.0.less);
}

-- a sequencer that isn't content stays so, and coordinates by its 6 + m-th tick
pub loaded : {M : Type 0} (g : Group M) → 2 * g.resilience < g.nodes → g.nodes ≤ 256 → (n : Net M) (m : ℕ) → Loaded g m n → (list : List (Move M)) → Idle g n list → ticks_in list ≤ m + 5
loaded g small few n m c list idle = ⊎_elim (λ e. omega arith) (λ l. omega arith) (climb (climbs_loaded g m small (acting g n m c.acts) few) list n c idle)

pub loaded_law : (M : Type 0) → LoadedLaw M
loaded_law M g small few n m reached acts leads more list idle = loaded g small few n m (record { real = reached; acts = acts; leads = leads; more = more }) list idle
