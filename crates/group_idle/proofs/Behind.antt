-- A member that lacks an accepted entry gets it: its Status is answered by that entry, which fits into its window.
use Rattle.std.proofs.Common.{◌≡◌, ℕ, zero, suc, ◌+◌, ◌-◌, ◌*◌, ◌%◌, ◌≤◌, ◌<◌, ◌==◌, ◌&&◌, not, max, nat_lt, nat_le, ◌⊎◌, inl, inr, ⊎_elim, Bool, true, false, Option, Some, None, List, [], ◌∷◌, length, refl, sym, ap, ◌∙◌, arith, subst, if◌then◌else◌, slice_get}
use Rattle.std.proofs.lemmas.Bool.{cond_both, eqb-true, eqb-false, ltb-true, ltb-false, leb-true, leb-false, and_parts}
use Rattle.std.proofs.lemmas.List.{length_push}
use Rattle.orca_base.specs.declared.limits.TheConstants.{WINDOW, MESSAGE_BY_REQUEST}
use Rattle.group_rules.specs.Sets.{In, entry_at}
use Rattle.group_rules.specs.Messages.{Group, is_repeat}
use Rattle.group_rules.specs.Member.{Report, Letter, Member, is_active, leads, has_room, purged, stable_of}
use Rattle.group_rules.specs.Member.Kind.{Entry, Status, News}
use Rattle.group_rules.specs.Work.{Work, idle, becomes}
use Rattle.group_rules.specs.World.{GroupWorld, acts_on}
use Rattle.group_rules.specs.Sequencer.{raise, hears, finish, tell_entry, send_entry, send_entries, take_status, send_news, news_of}
use Rattle.group_rules.specs.Receiver.{is_newer, keep_body, request, request_all, take_number, acknowledge, take_entry, send_status}
use Rattle.group_rules.specs.Reset.{heeds, listens, announced}
use Rattle.group_rules.specs.Steps.{receive, ticked, is_due, timer}
use Rattle.group_rules.specs.Agree.{Kept}
use Rattle.group_law.specs.Told.{Purges}
use Rattle.group_law.proofs.Grows.{at_both}
use Rattle.group_law.proofs.Ready.{Inv}
use Rattle.group_law.proofs.Law.{reached}
use Rattle.group_law.proofs.Tally.{purges_law}
use Rattle.group_law.proofs.Walk.{nothing, w_finish}
use Rattle.group_idle.specs.Net.{Net, Move, part, comes, without_at, moves}
use Rattle.group_idle.specs.Idle.{Reached, Unmoved, Still}
use Rattle.group_idle.proofs.Parts.{BehindLaw}
use Rattle.group_idle.proofs.Rising.{coordinate_above, told_others_state}
use Rattle.group_idle.proofs.Room.{at_most_least, fits}
use Rattle.group_idle.proofs.Stretches.{acting, timed, acts_same}
use Rattle.group_idle.proofs.Inactive.{no, requests_installed}
use Rattle.group_idle.proofs.Busy.{Leads as Leader, leads_is, still_leads}
use Rattle.group_idle.proofs.Following.{Follows, Grown, follows_same, take_accept_grown, acknowledge_state, deliver_grown}
use Rattle.group_idle.proofs.Owing.{Leads, at_most_one, at_most_two, Posts, posts_keeps, posts_first, tick_posts, in_left, in_right, taken, nothing_in}
use Rattle.group_idle.proofs.Two.{letter, heeds_is, come_grows, submit_grows, come_there, there, lives_move}
use Rattle.group_idle.proofs.Tying.{reached_moves}
use Rattle.group_idle.proofs.Accepting.{Known, still_active, move_grown, owes}

-- sequencer s of k knows a to be accepted, and member x less, b, all of which it applied
pub record Behind {M : Type 0} (g : Group M) (s x k a b : ℕ) (n : Net M) : Type 0 where
  pub reached : Reached g n
  pub acts : acts_on g n.world s ≡ true
  pub leads : leads g s (n.world.members s) ≡ true
  pub at : (n.world.members s).installed ≡ k
  pub most : (n.world.members s).accepted ≡ a
  pub lives : acts_on g n.world x ≡ true
  pub follows : Follows g x (n.world.members x)
  pub there : (n.world.members x).installed ≡ k
  pub knows : (n.world.members x).accepted ≡ b
  pub applied : (n.world.members x).applied ≡ b
  pub less : b < a
  pub fits : b ≤ length (n.world.members x).log

known : {M : Type 0} {g : Group M} {s x k a b : ℕ} {n : Net M} → Behind g s x k a b n → b < length (n.world.members x).log → Known g s x k a b n
known c h = record { acts = c.acts; leads = c.leads; at = c.at; most = c.most; lives = c.lives; follows = c.follows; there = c.there; knows = c.knows; less = c.less; holds = h }

-- ---- x tells how much it has

requests_log : {M : Type 0} (g : Group M) (m : ℕ) (xs : List M) (u : Work M) → (request_all g m xs u).state.log ≡ u.state.log
requests_log g m [] u = refl
requests_log {M} g m (x ∷ xs) u = requests_log g m xs (if is_repeat g u.state.log x then u else request g m x u) ∙ cond_both (is_repeat g u.state.log x) u (request g m x u) (λ (v : Work M). v.state.log ≡ u.state.log) (λ e. refl) (λ e. one)
  where
    one : (request g m x u).state.log ≡ u.state.log
    one = cond_both (nat_le (g.bytes x) MESSAGE_BY_REQUEST) _ _ (λ (v : Work M). v.state.log ≡ u.state.log) (λ e. refl)
        (λ e. ap (λ (t : Member M). t.log) (told_others_state g.nodes m _ _ (becomes (keep_body g x u.state) u)) ∙ cond_both (is_newer g x (u.state.bodies (g.process x))) _ u.state (λ (t : Member M). t.log ≡ u.state.log) (λ q. refl) (λ q. refl))

record Tells {M : Type 0} (x s k b : ℕ) (v : Work M) : Type 0 where
  told : ℕ
  posts : Posts (letter x s k (Status b told)) v

tick_status : {M : Type 0} (g : Group M) (x s k b : ℕ) (t : Member M) → x < g.nodes → Follows g x t → t.installed ≡ k → k % g.nodes ≡ s → length t.log ≡ b → Unmoved t (timer g x t).state → Tells x s k b (timer g x t)
tick_status {M} g x s k b t low f at here long = cond_both t.outside _ _ Goal (λ e o. no (sym e ∙ o.inside))
    (λ e. cond_both (is_due x r) _ _ Goal (λ q o. let a = coordinate_above g x r low o.inside in let d = o.promised in absurd (omega arith))
    (λ q o. cond_both (is_active r) _ _ (Tells x s k b)
    (λ a. cond_both (leads g x r) _ _ (Tells x s k b) (λ l. absurd (f.other (eqb-true (t.installed % g.nodes) x (and_parts (is_active r) (t.installed % g.nodes == x) l).1))) (λ l. sent))
    (λ a. no (sym f.active ∙ a))))
  where
    r : Member M
    r = ticked g x t

    Goal : Work M → Type 0
    Goal v = Unmoved t v.state → Tells x s k b v

    u : Work M
    u = request_all g x r.pending (idle r)

    installed : u.state.installed ≡ k
    installed = requests_installed g x r.pending (idle r) ∙ at

    long_still : length u.state.log ≡ b
    long_still = ap length (requests_log g x r.pending (idle r)) ∙ long

    sent : Tells x s k b (send_status g x u)
    sent = record {
      told = u.state.applied;
      posts = subst (λ (n : ℕ). Posts (letter x s k (Status n u.state.applied)) (send_status g x u)) long_still
          (subst (λ (to : ℕ). Posts (letter x to k (Status (length u.state.log) u.state.applied)) (send_status g x u)) here
          (subst (λ (i : ℕ). Posts (letter x (i % g.nodes) i (Status (length u.state.log) u.state.applied)) (send_status g x u)) installed
          (posts_first x u.state.installed (u.state.installed % g.nodes) (Status (length u.state.log) u.state.applied) (becomes (record u.state { reported = u.state.applied }) u))));
    }

-- ---- s answers

-- the next entry, with a stable number that makes room; or its whole log, where it purged that entry
record Gives {M : Type 0} (s x k b b0 : ℕ) (v : Work M) : Type 0 where
  accepted : ℕ
  stable : ℕ
  base : ℕ
  entry : M
  posts : Posts (letter s x k (Entry (suc b) accepted stable entry)) v
  within : base ≤ max b0 stable
  window : suc b ≤ base + WINDOW

record Purged {M : Type 0} (s x k b : ℕ) (v : Work M) : Type 0 where
  accepted : ℕ
  base : ℕ
  members : ℕ → Bool
  log : List M
  posts : Posts (letter s x k (News accepted base members log)) v
  beyond : b < base

some_at : {A : Type 0} (xs : List A) (n : ℕ) → n < length xs → (e : A) × (slice_get xs n ≡ Some e)
some_at [] n l = absurd (omega arith)
some_at (x ∷ xs) zero l = (x, refl)
some_at (x ∷ xs) (suc n) l = some_at xs n (omega arith)

posts_entry : {M : Type 0} (g : Group M) (m to number : ℕ) (l : Letter M) (u : Work M) → Posts l u → Posts l (send_entry g m to number u)
posts_entry {M} g m to number l u h = cond_both (nat_lt u.state.base number) _ u (Posts l) (λ e. go (entry_at u.state.log number)) (λ e. h)
  where
    go : (o : Option M) → Posts l (tell_entry g m to number o u)
    go None = h
    go (Some y) = in_left l _ _ h

posts_entries : {M : Type 0} (g : Group M) (m to number n : ℕ) (l : Letter M) (u : Work M) → Posts l u → Posts l (send_entries g m to number n u)
posts_entries g m to number zero l u h = h
posts_entries g m to number (suc n) l u h = posts_entries g m to (suc number) n l (send_entry g m to number u) (posts_entry g m to number l u h)

entry_state : {M : Type 0} (g : Group M) (m to number : ℕ) (u : Work M) → (send_entry g m to number u).state ≡ u.state
entry_state {M} g m to number u = cond_both (nat_lt u.state.base number) _ u (λ (v : Work M). v.state ≡ u.state) (λ e. go (entry_at u.state.log number)) (λ e. refl)
  where
    go : (o : Option M) → (tell_entry g m to number o u).state ≡ u.state
    go None = refl
    go (Some y) = refl

entries_state : {M : Type 0} (g : Group M) (m to number n : ℕ) (u : Work M) → (send_entries g m to number n u).state ≡ u.state
entries_state g m to number zero u = refl
entries_state g m to number (suc n) u = entries_state g m to (suc number) n (send_entry g m to number u) ∙ entry_state g m to number u

-- what listening and hearing leave
record Like {M : Type 0} (k : ℕ) (t w : Member M) : Type 0 where
  installed : w.installed ≡ k
  log : w.log ≡ t.log
  base : w.base ≡ t.base
  applied : w.applied ≡ t.applied

answers : {M : Type 0} (g : Group M) (s x k b b0 a : ℕ) (t : Member M) → s < g.nodes → t.outside ≡ false → t.promised ≡ k → t.installed ≡ k → k % g.nodes ≡ s → b < length t.log → length t.log ≤ t.base + WINDOW → t.base ≤ t.applied → ((y v : ℕ) → y < g.nodes → (y ≡ s → ⊥) → t.heard y ≡ Some v → t.base ≤ max b0 v)
    → Gives s x k b b0 (receive g s x k (Status b a) t) ⊎ Purged s x k b (receive g s x k (Status b a) t)
answers {M} g s x k b b0 a t low alive pro inst here less window own each = cond_both (not (heeds t k)) _ _ Goal
    (λ e. let h = heeds_is t k alive (omega arith) in no (sym e ∙ ap not h))
    (λ e. cond_both (k == t.installed) _ _ Goal (λ q. cond_both (k % g.nodes == s) _ _ Goal (λ r. sent) (λ r. absurd (eqb-false (k % g.nodes) s r here))) (λ q. absurd (eqb-false k t.installed q (sym inst))))
  where
    Goal : Work M → Type 0
    Goal v = Gives s x k b b0 v ⊎ Purged s x k b v

    r : Member M
    r = listens g x k t

    listened : Like k t r × (r.heard ≡ t.heard)
    listened = cond_both ((k == t.installed) && (x == k % g.nodes)) _ t (λ (w : Member M). Like k t w × (w.heard ≡ t.heard)) (λ e. (record { installed = inst; log = refl; base = refl; applied = refl }, refl)) (λ e. (record { installed = inst; log = refl; base = refl; applied = refl }, refl))

    u : Work M
    u = becomes (hears x a r) (becomes r (idle t))

    heard : Like k t u.state × ((y v : ℕ) → y < g.nodes → (y ≡ s → ⊥) → u.state.heard y ≡ Some v → t.base ≤ max b0 v)
    heard = cond_both (nat_le r.base a) _ r (λ (w : Member M). Like k t w × ((y v : ℕ) → y < g.nodes → (y ≡ s → ⊥) → w.heard y ≡ Some v → t.base ≤ max b0 v))
        (λ e. let d = leb-true r.base a e in let f = listened.0.base in (
          record { installed = listened.0.installed; log = listened.0.log; base = listened.0.base; applied = listened.0.applied },
          λ y v l o. at_both r.heard x (raise (r.heard x) a) y (λ (p : Option ℕ). p ≡ Some v → t.base ≤ max b0 v) (λ q h. raised (r.heard x) v (omega arith) (λ c i. each y c l o (ap (λ (z : ℕ → Option ℕ). z y) (sym listened.1) ∙ ap r.heard q ∙ i)) h) (λ q h. each y v l o (ap (λ (z : ℕ → Option ℕ). z y) (sym listened.1) ∙ h)),
        ))
        (λ e. (listened.0, λ y v l o h. each y v l o (ap (λ (z : ℕ → Option ℕ). z y) (sym listened.1) ∙ h)))
      where
        raised : (p : Option ℕ) (v : ℕ) → t.base ≤ a → ((c : ℕ) → p ≡ Some c → t.base ≤ max b0 c) → raise p a ≡ Some v → t.base ≤ max b0 v
        raised None v d f h = let q : a ≡ v = cc in omega arith
        raised (Some c) v d f h = let q : max c a ≡ v = cc in let w = f c refl in omega arith

    within : t.base ≤ max b0 (stable_of g s u.state)
    within = by (nat_le t.base b0) refl
      where
        by : (d : Bool) → nat_le t.base b0 ≡ d → t.base ≤ max b0 (stable_of g s u.state)
        by true e = let l = leb-true t.base b0 e in omega arith
        by false e = let n = leb-false t.base b0 e in
            let i = heard.0.applied in
            let l = at_most_least g.nodes s u.state.heard u.state.applied t.base (omega arith) (λ y v below o h. let m = heard.1 y v below o h in omega arith) in omega arith

    finished : (l : Letter M) (v : Work M) → v.state ≡ u.state → Posts l v → Posts l (finish g s v)
    finished l v e h = (w_finish (posts_keeps g s nothing l low) tt v (record { at = ap (λ (w : Member M). w.installed) e ∙ heard.0.installed; is = h })).is

    sent : Goal (finish g s (take_status g s x b u))
    sent = cond_both (nat_lt b u.state.base) _ _ (λ (v : Work M). Goal (finish g s v))
        (λ e. let l = ltb-true b u.state.base e in inr (record {
          accepted = u.state.accepted;
          base = u.state.base;
          members = u.state.answered;
          log = u.state.log;
          beyond = l;
          posts = subst (λ (i : ℕ). Posts (letter s x i (news_of u.state)) (finish g s (send_news s x u))) heard.0.installed (finished (letter s x u.state.installed (news_of u.state)) (send_news s x u) refl (posts_first s u.state.installed x (news_of u.state) u));
        }))
        (λ e. let kept = ltb-false b u.state.base e in cond_both (nat_lt b (length u.state.log)) _ _ (λ (v : Work M). Goal (finish g s v)) (λ q. entry kept) (λ q. let d = ltb-false b (length u.state.log) q in let f = ap length heard.0.log in absurd (omega arith)))
      where
        entry : u.state.base ≤ b → Goal (finish g s (send_entries g s x (suc b) 16 u))
        entry kept =
            let f = ap length heard.0.log in
            let one = some_at u.state.log b (omega arith) in
            let l = letter s x k (Entry (suc b) u.state.accepted (stable_of g s u.state) one.0) in
            let first : Posts l (send_entry g s x (suc b) u) = cond_both (nat_lt u.state.base (suc b)) _ u (Posts l)
            (λ e. subst (λ (o : Option M). Posts l (tell_entry g s x (suc b) o u)) (sym one.1) (subst (λ (i : ℕ). Posts (letter s x i (Entry (suc b) u.state.accepted (stable_of g s u.state) one.0)) (tell_entry g s x (suc b) (Some one.0) u)) heard.0.installed (posts_first s u.state.installed x (Entry (suc b) u.state.accepted (stable_of g s u.state) one.0) u)))
            (λ e. let d = ltb-false u.state.base (suc b) e in absurd (omega arith)) in
            inl (record {
              accepted = u.state.accepted;
              stable = stable_of g s u.state;
              base = t.base;
              entry = one.0;
              within = within;
              window = omega arith;
              posts = finished l (send_entries g s x (suc b) 16 u) (entries_state g s x (suc b) 16 u) (posts_entries g s x (suc (suc b)) 15 l (send_entry g s x (suc b) u) first);
            })

-- ---- x appends it

appends : {M : Type 0} (g : Group M) (x s k b a b0 base stable : ℕ) (e : M) (t : Member M) → Follows g x t → t.outside ≡ false → t.installed ≡ k → length t.log ≡ b → t.applied ≡ b → b0 ≤ t.base → base ≤ max b0 stable → suc b ≤ base + WINDOW → b < length (receive g x s k (Entry (suc b) a stable e) t).state.log
appends {M} g x s k b a b0 base stable e t f alive at long applied above within window = cond_both (not (heeds t k)) _ _ Goal
    (λ q. let h = heeds_is t k alive (let c = follows_same t f.active in omega arith) in no (sym q ∙ ap not h))
    (λ q. cond_both (k == t.installed) _ _ Goal (λ c. cond_both (k % g.nodes == x) _ _ Goal (λ d. absurd (f.other (ap (λ (i : ℕ). i % g.nodes) at ∙ eqb-true (k % g.nodes) x d))) (λ d. taken_in)) (λ c. absurd (eqb-false k t.installed c (sym at))))
  where
    Goal : Work M → Type 0
    Goal v = b < length v.state.log

    u : Work M
    u = becomes (listens g s k t) (idle t)

    listened : (length u.state.log ≡ b) × (u.state.applied ≡ b) × (b0 ≤ u.state.base)
    listened = cond_both ((k == t.installed) && (s == k % g.nodes)) _ t (λ (w : Member M). (length w.log ≡ b) × (w.applied ≡ b) × (b0 ≤ w.base)) (λ e. (long, applied, above)) (λ e. (long, applied, above))

    room : has_room (purged u.state stable) ≡ true
    room = fits u.state b0 base stable (suc b) listened.2 within window (let l = listened.0 in omega arith) (listened.1 ∙ sym listened.0)

    kept_log : length (purged u.state stable).log ≡ b
    kept_log = cond_both (nat_le _ (length u.state.log - u.state.base)) _ u.state (λ (w : Member M). length w.log ≡ b) (λ e. listened.0) (λ e. listened.0)

    number : b < length (take_number g x (suc b) stable e u).state.log
    number = cond_both (suc b == suc (length u.state.log)) _ _ Goal
        (λ q. cond_both (has_room (purged u.state stable)) _ (purged u.state stable) (λ (w : Member M). b < length w.log) (λ r. let l = kept_log in omega (arith, length_push (purged u.state stable).log e)) (λ r. no (sym room ∙ r)))
        (λ q. absurd (eqb-false (suc b) (suc (length u.state.log)) q (ap suc (sym listened.0))))

    taken_in : Goal (take_entry g x (suc b) a stable e u)
    taken_in = let v = acknowledge g x (suc b) (take_number g x (suc b) stable e u) in
        let d : length v.state.log ≡ length (take_number g x (suc b) stable e u).state.log = ap (λ (w : Member M). length w.log) (acknowledge_state g x (suc b) (take_number g x (suc b) stable e u)) in
        let l = (take_accept_grown g x a stable v).longer in let n = number in omega arith

-- ---- the stretch

pub record Asked {M : Type 0} (s x k b : ℕ) (n : Net M) : Type 0 where
  pub told : ℕ
  pub flies : In (letter x s k (Status b told)) n.flights

pub record Given {M : Type 0} (s x k b : ℕ) (n : Net M) : Type 0 where
  pub accepted : ℕ
  pub stable : ℕ
  pub base : ℕ
  pub start : ℕ
  pub entry : M
  pub flies : In (letter s x k (Entry (suc b) accepted stable entry)) n.flights
  pub within : base ≤ max start stable
  pub window : suc b ≤ base + WINDOW
  pub above : start ≤ (n.world.members x).base

pub record Beyond {M : Type 0} (s x k b : ℕ) (n : Net M) : Type 0 where
  pub accepted : ℕ
  pub base : ℕ
  pub members : ℕ → Bool
  pub log : List M
  pub flies : In (letter s x k (News accepted base members log)) n.flights
  pub beyond : b < base

-- it has more, or that is on its way
abbrev pub Due : {M : Type 0} → ℕ → ℕ → ℕ → ℕ → Net M → Type 0
Due s x k b n = (b < length (n.world.members x).log) ⊎ (Asked s x k b n ⊎ (Given s x k b n ⊎ Beyond s x k b n))

-- where it has so many, or more
decide : (b l : ℕ) → b ≤ l → (b < l) ⊎ (l ≡ b)
decide b l le = by (nat_lt b l) refl
  where
    by : (d : Bool) → nat_lt b l ≡ d → (b < l) ⊎ (l ≡ b)
    by true e = inl (ltb-true b l e)
    by false e = let d = ltb-false b l e in inr (omega arith)

kept_due : {M : Type 0} (s x k b : ℕ) (n u : Net M) → ((l : Letter M) → In l n.flights → In l u.flights) → Grown (n.world.members x) (u.world.members x) → Due s x k b n → Due s x k b u
kept_due s x k b n u f o (inl l) = inl (let d = o.longer in omega arith)
kept_due s x k b n u f o (inr (inl a)) = inr (inl (record { told = a.told; flies = f _ a.flies }))
kept_due s x k b n u f o (inr (inr (inl a))) = inr (inr (inl (record { accepted = a.accepted; stable = a.stable; base = a.base; start = a.start; entry = a.entry; flies = f _ a.flies; within = a.within; window = a.window; above = let d = o.base in let e = a.above in omega arith })))
kept_due s x k b n u f o (inr (inr (inr a))) = inr (inr (inr (record { accepted = a.accepted; base = a.base; members = a.members; log = a.log; flies = f _ a.flies; beyond = a.beyond })))

-- a Result of its own incarnation puts a member outside that has less than its base
stays_inside : {M : Type 0} (g : Group M) (m from k a base : ℕ) (members : ℕ → Bool) (log : List M) (t : Member M) → is_active t ≡ true → t.installed ≡ k → Unmoved t (announced g m from k a base members log t).state → base ≤ length t.log
stays_inside {M} g m from k a base members log t act at = cond_both (not (heeds t k)) _ _ Goal
    (λ e o. let h = heeds_is t k o.inside (let c = follows_same t act in omega arith) in no (sym e ∙ ap not h))
    (λ e. cond_both (nat_lt t.installed k) _ _ Goal (λ q o. let d = ltb-true t.installed k q in absurd (omega arith))
    (λ q. cond_both (nat_lt (length t.log) base) _ _ Goal (λ r o. no o.stays) (λ r o. ltb-false (length t.log) base r)))
  where
    Goal : Work M → Type 0
    Goal v = Unmoved t v.state → base ≤ length t.log

-- what the law says of a world that events reach
record Facts {M : Type 0} (g : Group M) (w : GroupWorld M) : Type 0 where
  purges : Purges g w
  inv : Inv g w

facts : {M : Type 0} (g : Group M) (n : Net M) → 2 * g.resilience < g.nodes → Reached g n → Facts g n.world
facts {M} g n small r = subst (λ (v : GroupWorld M). Facts g v) (sym r.is) (record { purges = purges_law M g small r.events; inv = reached g small r.events })

delivers_due : {M : Type 0} (g : Group M) (s x k a b : ℕ) (n : Net M) (place : ℕ) → 2 * g.resilience < g.nodes → s < g.nodes → x < g.nodes → (x ≡ s → ⊥) → Reached g n → Behind g s x k a b n → Due s x k b n → Still g n (moves g n (Move.Delivers place)) → Due s x k b (moves g n (Move.Delivers place))
delivers_due {M} g s x k a b n place small sl xl other reach c due still = go due
  where
    r : Net M
    r = record { world = n.world; flights = without_at place n.flights }

    t : Member M
    t = n.world.members x

    grown : Grown t ((moves g n (Move.Delivers place)).world.members x)
    grown = move_grown g x n (Move.Delivers place) c.lives c.follows still

    -- what stays on its way
    rest : Due s x k b r → Due s x k b (moves g n (Move.Delivers place))
    rest d = kept_due s x k b r (moves g n (Move.Delivers place)) (λ l i. come_grows g r (slice_get n.flights place) l i) grown d

    came : (one : Letter M) (Q : Net M → Type 0) → slice_get n.flights place ≡ Some one → Q (comes g r (Some one)) → Q (moves g n (Move.Delivers place))
    came one Q e q = subst (λ (o : Option (Letter M)). Q (comes g r o)) (sym e) q

    still_at : (one : Letter M) → slice_get n.flights place ≡ Some one → Still g r (comes g r (Some one))
    still_at one e = subst (λ (o : Option (Letter M)). Still g r (comes g r o)) e still

    lead : Leader g s (n.world.members s)
    lead = leads_is g s (n.world.members s) c.leads

    go : Due s x k b n → Due s x k b (moves g n (Move.Delivers place))
    go (inl l) = inl (let d = grown.longer in omega arith)
    go (inr (inl o)) = ⊎_elim (λ e. came (letter x s k (Status b o.told)) (Due s x k b) e (come_there g r (letter x s k (Status b o.told)) (Due s x k b) c.acts (λ q. other (sym q)) asked)) (λ i. rest (inr (inl (record { told = o.told; flies = i })))) (taken _ place n.flights o.flies)
      where
        f : Facts g n.world
        f = facts g n small reach

        kept : (report : Report M) × Kept g.nodes (n.world.past.insts (n.world.members s).installed).answers report
        kept = f.purges.kept (n.world.members s).installed (f.inv.fits s).stands.up

        above : kept.0.base ≤ t.base
        above = (f.purges.base x).above kept.0 (subst (λ (i : ℕ). Kept g.nodes (n.world.past.insts i).answers kept.0) (c.at ∙ sym c.there) kept.1)

        asked : Due s x k b (part r s n.world.past (receive g s x k (Status b o.told) (n.world.members s)))
        asked = ⊎_elim
            (λ v. inr (inr (inl (record { accepted = v.accepted; stable = v.stable; base = v.base; start = kept.0.base; entry = v.entry; flies = in_right _ r.flights _ v.posts; within = v.within; window = v.window; above = at_both n.world.members s _ x (λ (w : Member M). kept.0.base ≤ w.base) (λ q. absurd (other q)) (λ q. above) }))))
            (λ v. inr (inr (inr (record { accepted = v.accepted; base = v.base; members = v.members; log = v.log; flies = in_right _ r.flights _ v.posts; beyond = v.beyond }))))
            (answers g s x k b kept.0.base o.told (n.world.members s) sl (still s sl).inside (sym lead.same ∙ c.at) c.at (ap (λ (i : ℕ). i % g.nodes) (sym c.at) ∙ lead.here) (let p = (f.inv.holds s).fits in let q = c.most in let l = c.less in omega arith) (f.inv.holds s).window (f.inv.holds s).base (λ y v l o h. f.purges.heard s y v kept.0 (sym lead.here) l o h kept.1))
    go (inr (inr (inl o))) = ⊎_elim (λ e. inl (came (letter s x k (Entry (suc b) o.accepted o.stable o.entry)) (λ (u : Net M). b < length (u.world.members x).log) e (come_there g r (letter s x k (Entry (suc b) o.accepted o.stable o.entry)) (λ (u : Net M). b < length (u.world.members x).log) c.lives other
        (at_both n.world.members x _ x (λ (w : Member M). b < length w.log) (λ q. given e) (λ q. absurd (q refl))))))
        (λ i. rest (inr (inr (inl (record { accepted = o.accepted; stable = o.stable; base = o.base; start = o.start; entry = o.entry; flies = i; within = o.within; window = o.window; above = o.above }))))) (taken _ place n.flights o.flies)
      where
        given : slice_get n.flights place ≡ Some (letter s x k (Entry (suc b) o.accepted o.stable o.entry)) → b < length (receive g x s k (Entry (suc b) o.accepted o.stable o.entry) t).state.log
        given e = ⊎_elim
            (λ l. let one = letter s x k (Entry (suc b) o.accepted o.stable o.entry) in let d : length t.log ≤ length (receive g x s k (Entry (suc b) o.accepted o.stable o.entry) t).state.log = (deliver_grown g x one.packet t c.follows (there g r one c.lives other (still_at one e))).longer in omega arith)
            (λ l. appends g x s k b o.accepted o.start o.base o.stable o.entry t c.follows (still x xl).inside c.there l c.applied o.above o.within o.window)
            (decide b (length t.log) c.fits)
    go (inr (inr (inr o))) = ⊎_elim
        (λ e. inl (let d = grown.longer in let i = stays_inside g x s k o.accepted o.base o.members o.log t c.follows.active c.there (there g r (letter s x k (News o.accepted o.base o.members o.log)) c.lives other (still_at _ e)) in let y = o.beyond in omega arith))
        (λ i. rest (inr (inr (inr (record { accepted = o.accepted; base = o.base; members = o.members; log = o.log; flies = i; beyond = o.beyond }))))) (taken _ place n.flights o.flies)

leading : {M : Type 0} (g : Group M) (s x k a b : ℕ) → 2 * g.resilience < g.nodes → s < g.nodes → x < g.nodes → (x ≡ s → ⊥) → Leads {M = M} g (Behind g s x k a b) (Due s x k b) (Known g s x k a b)
leading {M} g s x k a b small sl xl other = record {
  stays = λ n move c still. let o = still x xl in let d = move_grown g x n move c.lives c.follows still in record {
    reached = reached_moves g n move c.reached;
    acts = acts_same g n (moves g n move) s (lives_move g n move) c.acts;
    leads = still_leads g s (n.world.members s) ((moves g n move).world.members s) (still s sl) c.leads;
    at = (still s sl).installed ∙ c.at;
    most = (still s sl).accepted ∙ c.most;
    lives = acts_same g n (moves g n move) x (lives_move g n move) c.lives;
    follows = record { active = still_active _ _ o c.follows.active; other = λ e. c.follows.other (ap (λ (i : ℕ). i % g.nodes) (sym o.installed) ∙ e) };
    there = o.installed ∙ c.there;
    knows = o.accepted ∙ c.knows;
    applied = o.applied ∙ c.applied;
    less = c.less;
    fits = let l = d.longer in let h = c.fits in omega arith;
  };
  ticks = λ n c still. ⊎_elim (λ l. inl (known c l)) (λ l. inr (inr (inl (asked n c still l)))) (decide b (length (n.world.members x).log) c.fits);
  submits = λ n y m c p still. kept_due s x k b n (moves g n (Move.Submits y m)) (λ l i. submit_grows g n y m l i) (move_grown g x n (Move.Submits y m) c.lives c.follows still) p;
  delivers = λ n place c p still. delivers_due g s x k a b n place small sl xl other c.reached c p still;
  none = λ n c p e. ⊎_elim (λ l. known c l) (λ q. absurd (⊎_elim (λ o. nothing_in _ n.flights e o.flies) (λ r. ⊎_elim (λ o. nothing_in _ n.flights e o.flies) (λ o. nothing_in _ n.flights e o.flies) r) q)) p;
  last = λ list n q idle. at_most_one (owes g s x k a b sl xl other) list n q idle;
}
  where
    asked : (n : Net M) → Behind g s x k a b n → Still g n (moves g n Move.Ticks) → length (n.world.members x).log ≡ b → Asked s x k b (moves g n Move.Ticks)
    asked n c still long =
        let e = (timed g n g.nodes).ran x xl c.lives in
        let lead = leads_is g s (n.world.members s) c.leads in
        let p = tick_status g x s k b (n.world.members x) xl c.follows c.there (ap (λ (i : ℕ). i % g.nodes) (sym c.at) ∙ lead.here) long (subst (λ (t : Member M). Unmoved (n.world.members x) t) e (still x xl)) in
        record { told = p.told; flies = tick_posts g n x (letter x s k (Status b p.told)) c.lives p.posts g.nodes xl }

pub behind : (M : Type 0) → BehindLaw M
behind M g small n reach s x sa leads xa other active same applied less list idle =
    let l = leads_is g s (n.world.members s) leads in
    let f = facts g n small reach in
    at_most_two (leading g s x (n.world.members s).installed (n.world.members s).accepted (n.world.members x).accepted small (acting g n s sa) (acting g n x xa) other) list n
    (record { reached = reach; acts = sa; leads = leads; at = refl; most = refl; lives = xa; follows = record { active = active; other = λ e. other (sym e ∙ ap (λ (i : ℕ). i % g.nodes) same ∙ l.here) }; there = same; knows = refl; applied = applied; less = less; fits = (f.inv.holds x).fits }) idle
