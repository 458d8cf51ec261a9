-- A sequencer of a later incarnation than a member promised: its Accept leads the member to ask for the whole log, which it gets.
use Rattle.std.proofs.Common.{◌≡◌, ℕ, ◌%◌, ◌≤◌, ◌<◌, ◌==◌, ◌&&◌, not, nat_lt, nat_le, ◌⊎◌, inl, inr, ⊎_elim, Bool, true, false, Option, Some, None, List, refl, sym, ap, ◌∙◌, arith, subst, if◌then◌else◌, slice_get}
use Rattle.std.proofs.lemmas.Bool.{cond_both, eqb-true, eqb-false, ltb-false, le-leb}
use Rattle.group_rules.specs.Sets.{In}
use Rattle.group_rules.specs.Messages.{Group}
use Rattle.group_rules.specs.Member.{Kind, Letter, Member, is_active, leads, is_acker, stable_of}
use Rattle.group_rules.specs.Member.Kind.{Accept, Nack, News}
use Rattle.group_rules.specs.Work.{Work, idle, becomes}
use Rattle.group_rules.specs.World.{may_submit, acts_on}
use Rattle.group_rules.specs.Sequencer.{finish, hears, news_of, send_news, accept_of}
use Rattle.group_rules.specs.Receiver.{send_ack}
use Rattle.group_rules.specs.Reset.{heeds, listens, told, take_news, announced}
use Rattle.group_rules.specs.Steps.{deliver, receive, ticked, is_due, timer}
use Rattle.group_law.proofs.Walk.{nothing, w_finish}
use Rattle.group_idle.specs.Net.{Net, Move, part, comes, without_at, moves}
use Rattle.group_idle.specs.Idle.{Unmoved, Still}
use Rattle.group_idle.proofs.Parts.{TwoLaw}
use Rattle.group_idle.proofs.Rising.{coordinate_above}
use Rattle.group_idle.proofs.Stretches.{with_here, acting, timed, lives_submit, lives_deliver, lives_tick, acts_same}
use Rattle.group_idle.proofs.Inactive.{no, requests_installed}
use Rattle.group_idle.proofs.Busy.{Leads, leads_is, still_leads}
use Rattle.group_idle.proofs.Owing.{Owes, at_most_one, Posts, posts_keeps, posts_first, posts_others, tick_posts, in_left, in_right, taken, nothing_in}

-- sequencer s leads k, and m promised less
pub record Later {M : Type 0} (g : Group M) (s m k : ℕ) (n : Net M) : Type 0 where
  pub acts : acts_on g n.world s ≡ true
  pub leads : leads g s (n.world.members s) ≡ true
  pub at : (n.world.members s).installed ≡ k
  pub lives : acts_on g n.world m ≡ true
  pub less : (n.world.members m).promised < k
  pub stands : (n.world.members m).installed ≤ (n.world.members m).promised

apart : {M : Type 0} {g : Group M} {s m k : ℕ} {n : Net M} → Later g s m k n → s ≡ m → ⊥
apart {M} {g} {s} {m} {k} {n} c e =
    let a = (leads_is g s (n.world.members s) c.leads).same in
    let b : (n.world.members s).promised ≡ (n.world.members m).promised = ap (λ (i : ℕ). (n.world.members i).promised) e in
    let d = c.less in let f = c.at in
    absurd (omega arith)

-- ---- what is on its way

abbrev pub letter : {M : Type 0} → ℕ → ℕ → ℕ → Kind M → Letter M
letter from to k t = record { to = to; packet = record { inc = k; from = from; kind = t } }

pub record Whole {M : Type 0} (s m k : ℕ) (n : Net M) : Type 0 where
  pub accepted : ℕ
  pub base : ℕ
  pub members : ℕ → Bool
  pub log : List M
  pub flies : In (letter s m k (News accepted base members log)) n.flights

pub record Tells {M : Type 0} (s m k : ℕ) (n : Net M) : Type 0 where
  pub accepted : ℕ
  pub stable : ℕ
  pub flies : In (letter s m k (Accept accepted stable)) n.flights

pub record Asks {M : Type 0} (s m k : ℕ) (n : Net M) : Type 0 where
  pub applied : ℕ
  pub flies : In (letter m s k (Nack 0 applied true)) n.flights

abbrev pub Owed : {M : Type 0} → ℕ → ℕ → ℕ → Net M → Type 0
Owed s m k n = Tells s m k n ⊎ (Asks s m k n ⊎ Whole s m k n)

-- ---- the three steps

pub heeds_is : {M : Type 0} (t : Member M) (k : ℕ) → t.outside ≡ false → t.promised ≤ k → heeds t k ≡ true
heeds_is t k alive l = ap (λ (b : Bool). not b && nat_le t.promised k) alive ∙ le-leb t.promised k l

-- the member asks for the whole log
asks_whole : {M : Type 0} (g : Group M) (m s k a b : ℕ) (t : Member M) → t.outside ≡ false → t.promised < k → t.installed < k → Posts (letter m s k (Nack 0 t.applied true)) (receive g m s k (Accept a b) t)
asks_whole {M} g m s k a b t alive less below = cond_both (not (heeds t k)) _ _ (Posts (letter m s k (Nack 0 t.applied true)))
    (λ e. let h = heeds_is t k alive (omega arith) in no (sym e ∙ ap not h))
    (λ e. cond_both (k == t.installed) _ _ (Posts (letter m s k (Nack 0 t.applied true))) (λ q. let d = eqb-true k t.installed q in absurd (omega arith)) (λ q. posts_first m k s (Nack 0 t.applied true) (idle t)))

-- the sequencer sends it
record Sends {M : Type 0} (s m k : ℕ) (v : Work M) : Type 0 where
  accepted : ℕ
  base : ℕ
  members : ℕ → Bool
  log : List M
  posts : Posts (letter s m k (News accepted base members log)) v

sends_whole : {M : Type 0} (g : Group M) (s m k a : ℕ) (t : Member M) → s < g.nodes → (m ≡ s → ⊥) → t.outside ≡ false → t.promised ≡ k → t.installed ≡ k → k % g.nodes ≡ s → Sends s m k (receive g s m k (Nack 0 a true) t)
sends_whole {M} g s m k a t low other alive pro inst here = cond_both (not (heeds t k)) _ _ (Sends s m k)
    (λ e. let h = heeds_is t k alive (omega arith) in no (sym e ∙ ap not h))
    (λ e. cond_both (k == t.installed) _ _ (Sends s m k) (λ q. cond_both (k % g.nodes == s) _ _ (Sends s m k) (λ r. sent) (λ r. absurd (eqb-false (k % g.nodes) s r here))) (λ q. absurd (eqb-false k t.installed q (sym inst))))
  where
    u : Work M
    u = becomes (hears m a (listens g m k t)) (becomes (listens g m k t) (idle t))

    installed : u.state.installed ≡ k
    installed = cond_both (nat_le (listens g m k t).base a) _ (listens g m k t) (λ (r : Member M). r.installed ≡ k) (λ e. own) (λ e. own)
      where
        own : (listens g m k t).installed ≡ k
        own = cond_both ((k == t.installed) && (m == k % g.nodes)) _ t (λ (r : Member M). r.installed ≡ k) (λ e. inst) (λ e. inst)

    sent : Sends s m k (finish g s (send_news s m u))
    sent = record {
      accepted = u.state.accepted;
      base = u.state.base;
      members = u.state.answered;
      log = u.state.log;
      posts = (w_finish (posts_keeps g s nothing (letter s m k (news_of u.state)) low) tt (send_news s m u) (record { at = installed; is = subst (λ (i : ℕ). Posts (letter s m i (news_of u.state)) (send_news s m u)) installed (posts_first s u.state.installed m (news_of u.state) u) })).is;
    }

-- the member takes it, or leaves
takes_whole : {M : Type 0} (g : Group M) (m from k a b : ℕ) (members : ℕ → Bool) (log : List M) (t : Member M) → t.promised < k → t.installed < k → Unmoved t (announced g m from k a b members log t).state → ⊥
takes_whole {M} g m from k a b members log t less below = cond_both (not (heeds t k)) _ _ Goal
    (λ e o. let h = heeds_is t k o.inside (omega arith) in no (sym e ∙ ap not h))
    (λ e. cond_both (nat_lt t.installed k) _ _ Goal
    (λ q. cond_both (nat_le b t.applied) _ _ Goal (λ r o. let d = o.installed in let n = news in absurd (omega arith)) (λ r o. no o.stays))
    (λ q o. let d = ltb-false t.installed k q in absurd (omega arith)))
  where
    Goal : Work M → Type 0
    Goal v = Unmoved t v.state → ⊥

    r0 : Member M
    r0 = told k a b members log t

    news : (take_news g m k a b members log t).state.installed ≡ k
    news = requests_installed g m r0.pending (if is_acker g m r0 then send_ack g m (idle r0) else idle r0) ∙ cond_both (is_acker g m r0) (send_ack g m (idle r0)) (idle r0) (λ (v : Work M). v.state.installed ≡ k) (λ e. refl) (λ e. refl)

-- ---- the stretch

stays_later : {M : Type 0} {g : Group M} {s m k : ℕ} (n u : Net M) → s < g.nodes → m < g.nodes → Later g s m k n → u.world.lives ≡ n.world.lives → Still g n u → Later g s m k u
stays_later {M} {g} {s} {m} {k} n u sl ml c lives still = record {
  acts = acts_same g n u s lives c.acts;
  leads = still_leads g s (n.world.members s) (u.world.members s) (still s sl) c.leads;
  at = (still s sl).installed ∙ c.at;
  lives = acts_same g n u m lives c.lives;
  less = let a = (still m ml).promised in let b = c.less in omega arith;
  stands = let a = (still m ml).promised in let d = (still m ml).installed in let b = c.stands in omega arith;
}

pub lives_move : {M : Type 0} (g : Group M) (n : Net M) (move : Move M) → (moves g n move).world.lives ≡ n.world.lives
lives_move g n (Move.Submits y x) = lives_submit g n y x
lives_move g n (Move.Delivers place) = lives_deliver g n place
lives_move g n Move.Ticks = lives_tick g n

-- the sequencer's timer tells what is accepted
pub tick_tells : {M : Type 0} (g : Group M) (s m : ℕ) (t : Member M) → s < g.nodes → m < g.nodes → (m ≡ s → ⊥) → leads g s t ≡ true → Unmoved t (timer g s t).state → Posts (letter s m t.installed (accept_of g s (ticked g s t))) (timer g s t)
tick_tells {M} g s m t sl ml other l = cond_both t.outside _ _ Goal (λ e o. no (sym e ∙ o.inside))
    (λ e. cond_both (is_due s r) _ _ Goal (λ q o. let a = coordinate_above g s r sl o.inside in let b = o.promised in absurd (omega arith))
    (λ q o. cond_both (is_active r) _ _ (Posts one) (λ a. cond_both (leads g s r) _ _ (Posts one) (λ d. posts_others g.nodes s t.installed m (accept_of g s r) (idle r) ml other) (λ d. no (sym l ∙ d))) (λ a. no (sym (leads_is g s r l).active ∙ a))))
  where
    r : Member M
    r = ticked g s t

    one : Letter M
    one = letter s m t.installed (accept_of g s r)

    Goal : Work M → Type 0
    Goal v = Unmoved t v.state → Posts one v

-- what stays on its way
still_owed : {M : Type 0} (s m k : ℕ) (n u : Net M) → ((l : Letter M) → In l n.flights → In l u.flights) → Owed s m k n → Owed s m k u
still_owed s m k n u f (inl a) = inl (record { accepted = a.accepted; stable = a.stable; flies = f _ a.flies })
still_owed s m k n u f (inr (inl a)) = inr (inl (record { applied = a.applied; flies = f _ a.flies }))
still_owed s m k n u f (inr (inr a)) = inr (inr (record { accepted = a.accepted; base = a.base; members = a.members; log = a.log; flies = f _ a.flies }))

pub come_grows : {M : Type 0} (g : Group M) (n : Net M) (o : Option (Letter M)) (l : Letter M) → In l n.flights → In l (comes g n o).flights
come_grows g n None l i = i
come_grows {M} g n (Some one) l i = cond_both (acts_on g n.world one.to && not (one.to == one.packet.from)) _ n (λ (u : Net M). In l u.flights) (λ e. in_left l n.flights _ i) (λ e. i)

pub submit_grows : {M : Type 0} (g : Group M) (n : Net M) (y : ℕ) (x : M) (l : Letter M) → In l n.flights → In l (moves g n (Move.Submits y x)).flights
submit_grows {M} g n y x l i = cond_both (acts_on g n.world y && may_submit g n.world y x) _ n (λ (u : Net M). In l u.flights) (λ e. in_left l n.flights _ i) (λ e. i)

-- this letter comes to a member that acts
pub come_there : {M : Type 0} (g : Group M) (n : Net M) (one : Letter M) (Q : Net M → Type 0) → acts_on g n.world one.to ≡ true → (one.to ≡ one.packet.from → ⊥) → Q (part n one.to n.world.past (deliver g one.to one.packet (n.world.members one.to))) → Q (comes g n (Some one))
come_there {M} g n one Q acts other q = cond_both (acts_on g n.world one.to && not (one.to == one.packet.from)) _ n Q (λ e. q) (λ e. no (sym yes ∙ e))
  where
    by : (b : Bool) → (one.to == one.packet.from) ≡ b → not b ≡ true
    by true e = absurd (other (eqb-true one.to one.packet.from e))
    by false e = refl

    yes : (acts_on g n.world one.to && not (one.to == one.packet.from)) ≡ true
    yes = ap (λ (b : Bool). b && not (one.to == one.packet.from)) acts ∙ by (one.to == one.packet.from) refl

pub there : {M : Type 0} (g : Group M) (n : Net M) (one : Letter M) → acts_on g n.world one.to ≡ true → (one.to ≡ one.packet.from → ⊥) → Still g n (comes g n (Some one)) → Unmoved (n.world.members one.to) (deliver g one.to one.packet (n.world.members one.to)).state
there {M} g n one acts other still = subst (λ (t : Member M). Unmoved (n.world.members one.to) t) (with_here n.world.members one.to (deliver g one.to one.packet (n.world.members one.to)).state)
    (come_there g n one (λ (u : Net M). Still g n u → Unmoved (n.world.members one.to) ((part n one.to n.world.past (deliver g one.to one.packet (n.world.members one.to))).world.members one.to)) acts other (λ q. q one.to (acting g n one.to acts)) still)

delivers_owed : {M : Type 0} (g : Group M) (s m k : ℕ) (n : Net M) (place : ℕ) → s < g.nodes → m < g.nodes → Later g s m k n → Owed s m k n → Still g n (moves g n (Move.Delivers place)) → Owed s m k (moves g n (Move.Delivers place))
delivers_owed {M} g s m k n place sl ml c o still = go o
  where
    r : Net M
    r = record { world = n.world; flights = without_at place n.flights }

    rest : (l : Letter M) → In l r.flights → In l (moves g n (Move.Delivers place)).flights
    rest l i = come_grows g r (slice_get n.flights place) l i

    came : (one : Letter M) (Q : Net M → Type 0) → slice_get n.flights place ≡ Some one → Q (comes g r (Some one)) → Q (moves g n (Move.Delivers place))
    came one Q e q = subst (λ (o : Option (Letter M)). Q (comes g r o)) (sym e) q

    still_at : (one : Letter M) → slice_get n.flights place ≡ Some one → Still g r (comes g r (Some one))
    still_at one e = subst (λ (o : Option (Letter M)). Still g r (comes g r o)) e still

    other : s ≡ m → ⊥
    other = apart c

    l : Leads g s (n.world.members s)
    l = leads_is g s (n.world.members s) c.leads

    below : (n.world.members m).installed < k
    below = let a = c.less in let b = c.stands in omega arith

    inside : (x : ℕ) → x < g.nodes → (n.world.members x).outside ≡ false
    inside x low = (still x low).inside

    go : Owed s m k n → Owed s m k (moves g n (Move.Delivers place))
    go (inl a) = ⊎_elim
        (λ e. came (letter s m k (Accept a.accepted a.stable)) (Owed s m k) e (come_there g r (letter s m k (Accept a.accepted a.stable)) (Owed s m k) c.lives (λ q. other (sym q)) (inr (inl (record { applied = (n.world.members m).applied; flies = in_right _ r.flights _ (asks_whole g m s k a.accepted a.stable (n.world.members m) (inside m ml) c.less below) })))))
        (λ i. inl (record { accepted = a.accepted; stable = a.stable; flies = rest _ i })) (taken _ place n.flights a.flies)
    go (inr (inl a)) = ⊎_elim
        (λ e. came (letter m s k (Nack 0 a.applied true)) (Owed s m k) e (come_there g r (letter m s k (Nack 0 a.applied true)) (Owed s m k) c.acts other (let w = sends_whole g s m k a.applied (n.world.members s) sl (λ q. other (sym q)) (inside s sl) (sym l.same ∙ c.at) c.at (ap (λ (i : ℕ). i % g.nodes) (sym c.at) ∙ l.here) in inr (inr (record { accepted = w.accepted; base = w.base; members = w.members; log = w.log; flies = in_right _ r.flights _ w.posts })))))
        (λ i. inr (inl (record { applied = a.applied; flies = rest _ i }))) (taken _ place n.flights a.flies)
    go (inr (inr a)) = ⊎_elim
        (λ e. absurd (takes_whole g m s k a.accepted a.base a.members a.log (n.world.members m) c.less below (there g r (letter s m k (News a.accepted a.base a.members a.log)) c.lives (λ q. other (sym q)) (still_at _ e))))
        (λ i. inr (inr (record { accepted = a.accepted; base = a.base; members = a.members; log = a.log; flies = rest _ i }))) (taken _ place n.flights a.flies)

owes : {M : Type 0} (g : Group M) (s m k : ℕ) → s < g.nodes → m < g.nodes → Owes {M = M} g (Later g s m k) (Owed s m k)
owes {M} g s m k sl ml = record {
  stays = λ n move c still. stays_later n (moves g n move) sl ml c (lives_move g n move) still;
  ticks = λ n c still.
      let e = (timed g n g.nodes).ran s sl c.acts in
      let p = tick_tells g s m (n.world.members s) sl ml (λ q. apart c (sym q)) c.leads (subst (λ (t : Member M). Unmoved (n.world.members s) t) e (still s sl)) in
      inl (record { accepted = (ticked g s (n.world.members s)).accepted; stable = stable_of g s (ticked g s (n.world.members s)); flies = tick_posts g n s (letter s m k (accept_of g s (ticked g s (n.world.members s)))) c.acts (subst (λ (i : ℕ). Posts (letter s m i (accept_of g s (ticked g s (n.world.members s)))) (timer g s (n.world.members s))) c.at p) g.nodes sl });
  submits = λ n y x c p still. still_owed s m k n (moves g n (Move.Submits y x)) (submit_grows g n y x) p;
  delivers = λ n place c p still. delivers_owed g s m k n place sl ml c p still;
  none = λ n c p e. ⊎_elim (λ a. nothing_in _ n.flights e a.flies) (λ b. ⊎_elim (λ a. nothing_in _ n.flights e a.flies) (λ a. nothing_in _ n.flights e a.flies) b) p;
}

pub two : (M : Type 0) → TwoLaw M
two M g n s m sa leads ma less stands list idle = at_most_one (owes g s m (n.world.members s).installed (acting g n s sa) (acting g n m ma)) list n (record { acts = sa; leads = leads; at = refl; lives = ma; less = less; stands = stands }) idle
