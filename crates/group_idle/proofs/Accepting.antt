-- What the sequencer tells to be accepted is accepted by a member that holds it.
use Rattle.std.proofs.Common.{◌≡◌, ℕ, ◌-◌, ◌%◌, ◌≤◌, ◌<◌, ◌==◌, ◌&&◌, not, min, max, nat_lt, nat_le, ⊎_elim, Bool, true, Option, List, [], ◌∷◌, length, refl, sym, ap, ◌∙◌, arith, le_refl, subst, if◌then◌else◌, slice_get}
use Rattle.std.proofs.lemmas.Bool.{cond_both, eqb-true, eqb-false, and_parts}
use Rattle.orca_base.specs.declared.limits.TheConstants.{ENTRIES_BEFORE_PURGE}
use Rattle.group_rules.specs.Sets.{In}
use Rattle.group_rules.specs.Messages.{Group, is_repeat}
use Rattle.group_rules.specs.Member.{Letter, Member, is_active, leads, stable_of}
use Rattle.group_rules.specs.Member.Kind.{Accept}
use Rattle.group_rules.specs.Work.{Work, idle, becomes, when}
use Rattle.group_rules.specs.World.{acts_on}
use Rattle.group_rules.specs.Sequencer.{finish, accept_of}
use Rattle.group_rules.specs.Receiver.{request, request_all, may_nack, nack, accepts, take_accept, send_status}
use Rattle.group_rules.specs.Reset.{heeds, listens}
use Rattle.group_rules.specs.Steps.{receive, at_sequencer, at_other, ticked, is_due, timer}
use Rattle.group_idle.specs.Net.{Net, Move, comes, without_at, moves}
use Rattle.group_idle.specs.Idle.{Unmoved, Still}
use Rattle.group_idle.proofs.Parts.{AcceptLaw}
use Rattle.group_idle.proofs.Rising.{coordinate_above}
use Rattle.group_idle.proofs.Stretches.{Steps, submit_keeps, deliver_keeps, acting, timed, acts_same}
use Rattle.group_idle.proofs.Inactive.{no}
use Rattle.group_idle.proofs.Busy.{leads_is, still_leads}
use Rattle.group_idle.proofs.Following.{Follows, Grown, grown_self, grown_trans, follows_same, request_grown, submit_grown, deliver_grown}
use Rattle.group_idle.proofs.Owing.{Owes, at_most_one, Posts, tick_posts, taken, nothing_in}
use Rattle.group_idle.proofs.Two.{letter, heeds_is, tick_tells, come_grows, submit_grows, there, lives_move}

-- sequencer s of k knows a to be accepted, and member x less, b, though it holds more
pub record Known {M : Type 0} (g : Group M) (s x k a b : ℕ) (n : Net M) : Type 0 where
  pub acts : acts_on g n.world s ≡ true
  pub leads : leads g s (n.world.members s) ≡ true
  pub at : (n.world.members s).installed ≡ k
  pub most : (n.world.members s).accepted ≡ a
  pub lives : acts_on g n.world x ≡ true
  pub follows : Follows g x (n.world.members x)
  pub there : (n.world.members x).installed ≡ k
  pub knows : (n.world.members x).accepted ≡ b
  pub less : b < a
  pub holds : b < length (n.world.members x).log

pub still_active : {M : Type 0} (s t : Member M) → Unmoved s t → is_active s ≡ true → is_active t ≡ true
still_active {M} s t o e = ap (λ (i : ℕ). f i t.promised t.outside) o.installed ∙ ap (λ (p : ℕ). f s.installed p t.outside) o.promised ∙ ap (λ (b : Bool). f s.installed s.promised b) (o.stays ∙ sym o.inside) ∙ e
  where
    f : ℕ → ℕ → Bool → Bool
    f i p b = (i == p) && not b

-- ---- member x's steps

requests_grown : {M : Type 0} (g : Group M) (m : ℕ) (xs : List M) (u : Work M) → Grown u.state (request_all g m xs u).state
requests_grown g m [] u = grown_self _
requests_grown {M} g m (x ∷ xs) u = grown_trans (cond_both (is_repeat g u.state.log x) u (request g m x u) (λ (v : Work M). Grown u.state v.state) (λ e. grown_self _) (λ e. request_grown g m x u)) (requests_grown g m xs (if is_repeat g u.state.log x then u else request g m x u))

pub timer_grown : {M : Type 0} (g : Group M) (m : ℕ) (s : Member M) → m < g.nodes → Follows g m s → Unmoved s (timer g m s).state → Grown s (timer g m s).state
timer_grown {M} g m s low f = cond_both s.outside _ _ Goal (λ e o. grown_self s)
    (λ e. cond_both (is_due m t) _ _ Goal (λ q o. let a = coordinate_above g m t low o.inside in let b = o.promised in absurd (omega arith))
    (λ q o. cond_both (is_active t) _ _ (λ (v : Work M). Grown s v.state)
    (λ a. cond_both (leads g m t) _ _ (λ (v : Work M). Grown s v.state) (λ l. absurd (f.other (eqb-true (s.installed % g.nodes) m (and_parts (is_active t) (s.installed % g.nodes == m) l).1))) (λ l. grown_trans start (grown_trans (requests_grown g m t.pending (idle t)) (status (request_all g m t.pending (idle t))))))
    (λ a. no (sym f.active ∙ a))))
  where
    t : Member M
    t = ticked g m s

    Goal : Work M → Type 0
    Goal v = Unmoved s v.state → Grown s v.state

    start : Grown s t
    start = record { longer = le_refl _; base = le_refl _; fits = λ e. e }

    status : (u : Work M) → Grown u.state (send_status g m u).state
    status u = record { longer = le_refl _; base = le_refl _; fits = λ e. e }

steps : {M : Type 0} (g : Group M) (m : ℕ) → Steps g m (λ (s t : Member M). Follows g m s → Grown s t)
steps {M} g m = record {
  submits = λ x s o f. submit_grown g m x s f;
  delivers = λ q s other o f. deliver_grown g m q s f o;
  rests = λ s f. grown_self s;
}

pub move_grown : {M : Type 0} (g : Group M) (x : ℕ) (n : Net M) (move : Move M) → acts_on g n.world x ≡ true → Follows g x (n.world.members x) → Still g n (moves g n move) → Grown (n.world.members x) ((moves g n move).world.members x)
move_grown g x n (Move.Submits y m) acts f still = submit_keeps (steps g x) n y m still f
move_grown g x n (Move.Delivers place) acts f still = deliver_keeps (steps g x) n place still f
move_grown {M} g x n Move.Ticks acts f still =
    let low = acting g n x acts in
    let e = (timed g n g.nodes).ran x low acts in
    subst (λ (t : Member M). Grown (n.world.members x) t) (sym e) (timer_grown g x (n.world.members x) low f (subst (λ (t : Member M). Unmoved (n.world.members x) t) e (still x low)))

-- ---- the Accept comes

accepted_by : {M : Type 0} (g : Group M) (m a b : ℕ) (u : Work M) → (take_accept g m a b u).state.accepted ≡ max u.state.accepted (min a (length u.state.log))
accepted_by {M} g m a b u = cond_both (nat_le ENTRIES_BEFORE_PURGE (length v.state.log - v.state.base)) _ v.state (λ (t : Member M). t.accepted ≡ (accepts a u.state).accepted) (λ e. nacked) (λ e. nacked)
  where
    r : Work M
    r = becomes (accepts a u.state) u

    v : Work M
    v = when (nat_lt (length u.state.log) a) (nack g m) r

    nacked : v.state.accepted ≡ (accepts a u.state).accepted
    nacked = cond_both (nat_lt (length u.state.log) a) _ r (λ (w : Work M). w.state.accepted ≡ (accepts a u.state).accepted)
        (λ e. cond_both (may_nack r.state) _ r (λ (w : Work M). w.state.accepted ≡ (accepts a u.state).accepted) (λ q. refl) (λ q. refl)) (λ e. refl)

comes_there : {M : Type 0} (g : Group M) (x s k a b : ℕ) (t : Member M) → Follows g x t → t.installed ≡ k → t.accepted < a → t.accepted < length t.log → Unmoved t (receive g x s k (Accept a b) t).state → ⊥
comes_there {M} g x s k a b t f at less holds = cond_both (not (heeds t k)) _ _ Goal
    (λ e o. let h = heeds_is t k o.inside (let c = follows_same t f.active in omega arith) in no (sym e ∙ ap not h))
    (λ e. cond_both (k == t.installed) _ _ Goal (λ q. own) (λ q. absurd (eqb-false k t.installed q (sym at))))
  where
    Goal : Work M → Type 0
    Goal v = Unmoved t v.state → ⊥

    u : Work M
    u = becomes (listens g s k t) (idle t)

    more : t.accepted < (take_accept g x a b u).state.accepted
    more = let e = accepted_by g x a b u in
        let c : (listens g s k t).accepted ≡ t.accepted = cond_both ((k == t.installed) && (s == k % g.nodes)) _ t (λ (r : Member M). r.accepted ≡ t.accepted) (λ e. refl) (λ e. refl) in
        let d : length (listens g s k t).log ≡ length t.log = cond_both ((k == t.installed) && (s == k % g.nodes)) _ t (λ (r : Member M). length r.log ≡ length t.log) (λ e. refl) (λ e. refl) in
        omega arith

    own : Goal (if k % g.nodes == x then finish g x (at_sequencer g x s (Accept a b) u) else at_other g x (Accept a b) u)
    own = cond_both (k % g.nodes == x) _ _ Goal (λ q. absurd (f.other (ap (λ (i : ℕ). i % g.nodes) at ∙ eqb-true (k % g.nodes) x q))) (λ q o. let c = o.accepted in let d = more in absurd (omega arith))

-- ---- the stretch

pub record Told {M : Type 0} (s x k a : ℕ) (n : Net M) : Type 0 where
  pub accepted : ℕ
  pub stable : ℕ
  pub least : a ≤ accepted
  pub flies : In (letter s x k (Accept accepted stable)) n.flights

pub owes : {M : Type 0} (g : Group M) (s x k a b : ℕ) → s < g.nodes → x < g.nodes → (x ≡ s → ⊥) → Owes {M = M} g (Known g s x k a b) (Told s x k a)
owes {M} g s x k a b sl xl other = record {
  stays = λ n move c still. let o = still x xl in let d = move_grown g x n move c.lives c.follows still in record {
    acts = acts_same g n (moves g n move) s (lives_move g n move) c.acts;
    leads = still_leads g s (n.world.members s) ((moves g n move).world.members s) (still s sl) c.leads;
    at = (still s sl).installed ∙ c.at;
    most = (still s sl).accepted ∙ c.most;
    lives = acts_same g n (moves g n move) x (lives_move g n move) c.lives;
    follows = record { active = still_active _ _ o c.follows.active; other = λ e. c.follows.other (ap (λ (i : ℕ). i % g.nodes) (sym o.installed) ∙ e) };
    there = o.installed ∙ c.there;
    knows = o.accepted ∙ c.knows;
    less = c.less;
    holds = let l = d.longer in let h = c.holds in omega arith;
  };
  ticks = λ n c still.
      let e = (timed g n g.nodes).ran s sl c.acts in
      let p = tick_tells g s x (n.world.members s) sl xl other c.leads (subst (λ (t : Member M). Unmoved (n.world.members s) t) e (still s sl)) in
      let one = accept_of g s (ticked g s (n.world.members s)) in
      record { accepted = (n.world.members s).accepted; stable = stable_of g s (ticked g s (n.world.members s)); least = let m = c.most in omega arith; flies = tick_posts g n s (letter s x k one) c.acts (subst (λ (i : ℕ). Posts (letter s x i one) (timer g s (n.world.members s))) c.at p) g.nodes sl };
  submits = λ n y m c p still. record { accepted = p.accepted; stable = p.stable; least = p.least; flies = submit_grows g n y m _ p.flies };
  delivers = λ n place c p still. ⊎_elim
      (λ e. absurd (comes_there g x s k p.accepted p.stable (n.world.members x) c.follows c.there (let l = p.least in let d = c.less in let f = c.knows in omega arith) (let h = c.holds in let f = c.knows in omega arith)
      (there g (record { world = n.world; flights = without_at place n.flights }) (letter s x k (Accept p.accepted p.stable)) c.lives other (subst (λ (o : Option (Letter M)). Still g (record { world = n.world; flights = without_at place n.flights }) (comes g (record { world = n.world; flights = without_at place n.flights }) o)) e still))))
      (λ i. record { accepted = p.accepted; stable = p.stable; least = p.least; flies = come_grows g (record { world = n.world; flights = without_at place n.flights }) (slice_get n.flights place) _ i })
      (taken _ place n.flights p.flies);
  none = λ n c p e. nothing_in _ n.flights e p.flies;
}

pub accepted : (M : Type 0) → AcceptLaw M
accepted M g n s x sa leads xa other active same less holds list idle =
    let l = leads_is g s (n.world.members s) leads in
    at_most_one (owes g s x (n.world.members s).installed (n.world.members s).accepted (n.world.members x).accepted (acting g n s sa) (acting g n x xa) other) list n
    (record { acts = sa; leads = leads; at = refl; most = refl; lives = xa; follows = record { active = active; other = λ e. other (sym e ∙ ap (λ (i : ℕ). i % g.nodes) same ∙ l.here) }; there = same; knows = refl; less = less; holds = holds }) idle
