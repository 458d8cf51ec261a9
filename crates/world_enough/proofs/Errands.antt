-- In a faultless run the Asks and Answers that were delivered are paid by the calls of processes: two for each, and none where no object is
-- single.
use Rattle.std.proofs.Common.{◌≡◌, ◌≤◌, ◌<◌, ◌⊎◌, ◌+◌, ◌*◌, inl, inr, ⊎_elim, ℕ, zero, suc, Bool, true, false, List, length, Option, Some, None, refl, sym, ap, ◌∙◌, arith, subst, nat_lt}
use Rattle.std.proofs.lemmas.Bool.{and_parts, cases_lt, cond_both, ltb-true}
use Rattle.orca_base.specs.declared.limits.TheConstants.{PROCESSES}
use Rattle.value_core.specs.declared.action.Line.{Line}
use Rattle.group_rules.specs.Sets.{with_at}
use Rattle.group_rules.specs.Steps.{deliver}
use Rattle.net_rules.specs.Flights.{ready_copy}
use Rattle.world_rules.specs.declared.event.Event as world
use Rattle.world_rules.specs.declared.event.Event.TheVariants as event
use Rattle.world_rules.specs.declared.event.Step.{Step}
use Rattle.world_rules.specs.Bursts.{last_turn}
use Rattle.world_rules.specs.Frame.{Frame, group}
use Rattle.world_rules.specs.Mail.{Errand, Mail}
use Rattle.world_rules.specs.Mail.Errand.{Ask, Answer}
use Rattle.world_rules.specs.Nodes.{Node, NodeWork, idle, joins, plays}
use Rattle.world_rules.specs.Owners.{arrives}
use Rattle.world_rules.specs.Parts.{acts_of, catches_up, computes, performs_all}
use Rattle.world_rules.specs.Played.{Played, Stage}
use Rattle.world_rules.specs.Played.Stage.{Computing, Acting, Submitted, Reading, Asking, Over}
use Rattle.world_rules.specs.Steps.{AtWork, Known, Next, Possible, after_part, closes, comes, delivers, happens, lives_in, may_act_as, posts_all, untouched}
use Rattle.world_rules.specs.Worlds.{World, home_of, opening_world, played_in}
use Rattle.world_facts.specs.Processes.{ProcessesStand, StandsAt}
use Rattle.world_facts.specs.Replicated.{AllReplicated}
use Rattle.world_law.proofs.Maps.{at_both, at_here, at_other}
use Rattle.world_law.proofs.Onwards.{AreOnward, Onward, on_arrives, on_catches, on_on, stay}
use Rattle.world_enough.specs.Faultless.{IsFaultless, IsFirst, IsPlain, IsTick}
use Rattle.world_enough.specs.Paid.{calls_by, calls_in, is_asking, node_calls, sum}
use Rattle.world_enough.specs.Tie.{AreCalm}
use Rattle.world_enough.proofs.Costs.{arrives_cost, catches_cost, errand_cost, flights_cost, held_cost, joins_cost, mail_cost, mails_cost, node_cost, performed_cost, sent_cost, work_cost}
use Rattle.world_enough.proofs.Paying.{acting_of, fresh_at, is_true, performed_node}
use Rattle.world_enough.proofs.Posting.{Head, Posts, first_is, posts_each}
use Rattle.world_enough.proofs.Steps.{calm_event, errands_by, errands_come, errands_found, head_is}
use Rattle.world_enough.proofs.Weighing.{Acted, Fresh, acted, ran_far, sum_over, sum_up}

-- ---- the account

-- each call pays for its Ask and its Answer; or there are none
abbrev pub pays : Bool → ℕ → ℕ
pays true n = 2 * n
pays false n = 0

abbrev pub MayPay : Frame → Bool → Type 0
MayPay f b = (b ≡ true) ⊎ AllReplicated f

-- what is to come, in a world, and while members are at work
abbrev pub debt_in : Frame → World → ℕ
debt_in f w = flights_cost w.flights + sum f.settings.nodes (λ m. node_cost (w.nodes m))

abbrev debt_at : Frame → AtWork → ℕ
debt_at f u = debt_in f u.world + mails_cost u.mails

-- so many were delivered
abbrev pub Covered : Frame → World → ℕ → Type 0
Covered f w e = (b : Bool) → MayPay f b → e + debt_in f w ≤ pays b (calls_in f w)

-- ---- plain numbers

pays_more : (b : Bool) (x y d : ℕ) → x + d ≤ y → pays b x + pays b d ≤ pays b y
pays_more true x y d h = omega (arith, h)
pays_more false x y d h = omega arith

pays_up : (b : Bool) (x y : ℕ) → x ≤ y → pays b x + 0 ≤ pays b y
pays_up true x y h = omega (arith, h)
pays_up false x y h = omega arith

pays_asking : (f : Frame) (b : Bool) (n : ℕ) → MayPay f b → (AllReplicated f → n ≡ 0) → 2 * n ≤ pays b n
pays_asking f true n may none = omega arith
pays_asking f false n (inl e) none = absurd (cc e)
pays_asking f false n (inr all) none = let z = none all in omega (arith, z)

le_same : (n : ℕ) → n ≤ n
le_same n = omega arith

le_zero : (n : ℕ) → n + 0 ≤ n
le_zero n = omega arith

-- ---- calls of processes

asking_most : (s : Stage) → is_asking s ≤ 1
asking_most Computing = omega arith
asking_most (Acting act) = omega arith
asking_most (Submitted act) = omega arith
asking_most (Reading act) = omega arith
asking_most (Asking act) = omega arith
asking_most (Over act) = omega arith

calls_up : (free i : ℕ) (o p : Option Played) → (free ≤ i → o ≡ None) → Onward free i o p → calls_by o ≤ calls_by p
calls_up free i o p fresh (inl e) = let n = ap calls_by e in omega (arith, n)
calls_up free i o p fresh (inr (inl g)) =
    let a : calls_by o ≡ length g.before.replies + is_asking g.before.stage = ap calls_by g.was in
    let b : calls_by p ≡ length g.after.replies + is_asking g.after.stage = ap calls_by g.is in
    let s = asking_most g.before.stage in
    let more = g.more in
    omega (arith, a, b, s, more)
calls_up free i o p fresh (inr (inr b)) = let n : calls_by o ≡ 0 = ap calls_by (fresh b.late) in omega (arith, n)

node_calls_up : (node : Node) (u : NodeWork) → Fresh node → AreOnward (idle node) u → node_calls node.played ≤ node_calls u.node.played
node_calls_up node u fresh on = sum_up PROCESSES _ _ (λ i low. calls_up node.copies.processes i (node.played i) (u.node.played i) (fresh i) (on.each i))

-- with one process that did more first
node_calls_over : (node : Node) (u : NodeWork) (i d : ℕ) (r s : Played) → i < PROCESSES → i < node.copies.processes → Fresh node → node.played i ≡ Some r →
    calls_by (Some r) + d ≤ calls_by (Some s) → AreOnward (plays i s (idle node)) u → node_calls node.played + d ≤ node_calls u.node.played
node_calls_over node u i d r s low counted fresh here more on =
    sum_over PROCESSES i d (λ k. calls_by (node.played k)) (λ k. calls_by (u.node.played k)) low (λ k l. let a = before k in let b = after k in omega (arith, a, b))
    (let a = after i in
    let b : calls_by (with_at node.played i (Some s) i) ≡ calls_by (Some s) = ap calls_by (at_here node.played i (Some s)) in
    let c : calls_by (node.played i) ≡ calls_by (Some r) = ap calls_by here in
    omega (arith, a, b, c, more))
  where
    before : (k : ℕ) → calls_by (node.played k) ≤ calls_by (with_at node.played i (Some s) k)
    before k = at_both node.played i (Some s) k (λ o. calls_by (node.played k) ≤ calls_by o)
        (λ e. let c : calls_by (node.played k) ≡ calls_by (Some r) = ap calls_by (ap node.played e ∙ here) in omega (arith, c, more))
        (λ no. omega arith)

    fresh_on : (k : ℕ) → node.copies.processes ≤ k → with_at node.played i (Some s) k ≡ None
    fresh_on k late = at_both node.played i (Some s) k (λ o. o ≡ None) (λ e. absurd (omega (arith, e, late, counted))) (λ no. fresh k late)

    after : (k : ℕ) → calls_by (with_at node.played i (Some s) k) ≤ calls_by (u.node.played k)
    after k = calls_up node.copies.processes k (with_at node.played i (Some s) k) (u.node.played k) (fresh_on k) (on.each k)

-- ---- a member of a world

part_up : (f : Frame) (w : World) (m : ℕ) (node : Node) → node_calls (w.nodes m).played ≤ node_calls node.played →
    calls_in f w ≤ sum f.settings.nodes (λ k. node_calls (with_at w.nodes m node k).played)
part_up f w m node h = sum_up f.settings.nodes (λ k. node_calls (w.nodes k).played) (λ k. node_calls (with_at w.nodes m node k).played)
    (λ k low. at_both w.nodes m node k (λ (z : Node). node_calls (w.nodes k).played ≤ node_calls z.played)
    (λ e. subst (λ (j : ℕ). node_calls (w.nodes j).played ≤ node_calls node.played) (sym e) h) (λ no. le_same (node_calls (w.nodes k).played)))

less_by : (a b d : ℕ) → a + d ≤ b → a ≤ b
less_by a b d h = omega (arith, h)

less_as : (a b c d : ℕ) → a + d ≤ b → c ≡ b → a + d ≤ c
less_as a b c d h e = omega (arith, h, e)

part_over : (f : Frame) (w : World) (m d : ℕ) (node : Node) → m < f.settings.nodes → node_calls (w.nodes m).played + d ≤ node_calls node.played →
    calls_in f w + d ≤ sum f.settings.nodes (λ k. node_calls (with_at w.nodes m node k).played)
part_over f w m d node low h = sum_over f.settings.nodes m d (λ k. node_calls (w.nodes k).played) (λ k. node_calls (with_at w.nodes m node k).played) low
    (λ k l. at_both w.nodes m node k (λ (z : Node). node_calls (w.nodes k).played ≤ node_calls z.played)
    (λ e. subst (λ (j : ℕ). node_calls (w.nodes j).played ≤ node_calls node.played) (sym e) (less_by (node_calls (w.nodes m).played) (node_calls node.played) d h)) (λ no. le_same (node_calls (w.nodes k).played)))
    (less_as (node_calls (w.nodes m).played) (node_calls node.played) (node_calls (with_at w.nodes m node m).played) d h (ap (λ (z : Node). node_calls z.played) (at_here w.nodes m node)))

-- all but one stay
sum_same : (n : ℕ) (x y : ℕ → ℕ) → ((i : ℕ) → i < n → x i ≡ y i) → sum n x ≡ sum n y
sum_same zero x y same = refl
sum_same (suc n) x y same = let r = sum_same n x y (λ i l. same i (omega (arith, l))) in let o = same n (omega arith) in omega (arith, r, o)

sum_but : (n k : ℕ) (x y : ℕ → ℕ) → k < n → ((i : ℕ) → (i ≡ k → ⊥) → x i ≡ y i) → sum n x + y k ≡ sum n y + x k
sum_but zero k x y low same = absurd (omega (arith, low))
sum_but (suc n) k x y low same = ⊎_elim
    (λ (l : k < n). let r = sum_but n k x y l same in let o = same n (λ e. absurd (omega (arith, e, l))) in omega (arith, r, o))
    (λ (l : n ≤ k).
    let e : k ≡ n = omega (arith, l, low) in
    let r = sum_same n x y (λ i less. same i (λ d. absurd (omega (arith, d, e, less)))) in
    let a = ap x e in
    let b = ap y e in
    omega (arith, r, a, b))
    (cases_lt k n)

part_costs : (f : Frame) (start : World) (m c : ℕ) (v : NodeWork) → m < f.settings.nodes → work_cost v ≤ node_cost (start.nodes m) + c →
    debt_at f (after_part f m v (untouched start)) ≤ debt_in f start + c
part_costs f start m c v low h =
    let old : ℕ → ℕ = λ k. node_cost (start.nodes k) in
    let new : ℕ → ℕ = λ k. node_cost (with_at start.nodes m v.node k) in
    let b = sum_but f.settings.nodes m (λ k. node_cost (with_at start.nodes m v.node k)) (λ k. node_cost (start.nodes k)) low (λ k no. ap node_cost (at_other start.nodes m k v.node no)) in
    whole (flights_cost start.flights) (sum f.settings.nodes old) (sum f.settings.nodes new) (sent_cost v) (node_cost (start.nodes m)) (node_cost (with_at start.nodes m v.node m)) (node_cost v.node) c
    b (ap node_cost (at_here start.nodes m v.node)) h
  where
    whole : (flights old new sent before there after c : ℕ) → new + before ≡ old + there → there ≡ after → after + sent ≤ before + c → (flights + new) + sent ≤ (flights + old) + c
    whole flights old new sent before there after c one two three = omega (arith, one, two, three)

-- ---- an event

-- e were delivered in it
record Costs (f : Frame) (b : Bool) (w : World) (u : AtWork) (e : ℕ) : Type 0 where
  more : ℕ
  cost : e + debt_at f u ≤ debt_in f w + more
  calls : pays b (calls_in f w) + more ≤ pays b (calls_in f u.world)

nothing : (f : Frame) (b : Bool) (w start : World) (e : ℕ) → e + debt_in f start ≤ debt_in f w → calls_in f start ≡ calls_in f w → Costs f b w (untouched start) e
nothing f b w start e h same = record {
  more = 0;
  cost = one e (debt_in f start) (debt_in f w) h;
  calls = pays_up b (calls_in f w) (calls_in f start) (two (calls_in f w) (calls_in f start) same);
}
  where
    one : (e x y : ℕ) → e + x ≤ y → e + (x + 0) ≤ y + 0
    one e x y h = omega (arith, h)

    two : (x y : ℕ) → y ≡ x → x ≤ y
    two x y e = omega (arith, e)

-- a member does its part: what comes to it is e packets, of which c is left to come
by_part : (f : Frame) (b : Bool) (w start : World) (m c e : ℕ) (v : NodeWork) → m < f.settings.nodes → start.nodes ≡ w.nodes → Fresh (start.nodes m) → AreOnward (idle (start.nodes m)) v →
    work_cost v ≤ node_cost (start.nodes m) + c → e + (debt_in f start + c) ≤ debt_in f w → Costs f b w (after_part f m v (untouched start)) e
by_part f b w start m c e v low same fresh on h all =
    let a = part_up f start m v.node (node_calls_up (start.nodes m) v fresh on) in
    let s = ap (λ (nodes : ℕ → Node). sum f.settings.nodes (λ k. node_calls (nodes k).played)) same in
    record {
      more = 0;
      cost = one e (debt_at f (after_part f m v (untouched start))) (debt_in f start) c (debt_in f w) (part_costs f start m c v low h) all;
      calls = pays_up b (calls_in f w) (calls_in f (after_part f m v (untouched start)).world) (two (calls_in f w) (calls_in f start) (calls_in f (after_part f m v (untouched start)).world) s a);
    }
  where
    one : (e x y c z : ℕ) → x ≤ y + c → e + (y + c) ≤ z → e + x ≤ z + 0
    one e x y c z h k = omega (arith, h, k)

    two : (x y z : ℕ) → y ≡ x → y ≤ z → x ≤ z
    two x y z e h = omega (arith, e, h)

-- ---- a packet comes

one_held : (errand : Errand) → 1 + held_cost errand ≡ errand_cost errand
one_held (Ask place x) = refl
one_held (Answer place i call reply) = refl

costs_comes : (f : Frame) (b : Bool) (w start : World) (mail : Mail) → start.nodes ≡ w.nodes → ((m : ℕ) → Fresh (start.nodes m)) → debt_in f w ≡ mail_cost mail + debt_in f start →
    Costs f b w (comes f start mail) (errands_by mail)
costs_comes f b w start (Mail.Grouped letter) same fresh debt =
    cond_both (lives_in f start letter.to) (after_part f letter.to (catches_up f letter.to v) (untouched start)) (untouched start) (λ (u : AtWork). Costs f b w u 0)
    (λ e. by_part f b w start letter.to 0 0 (catches_up f letter.to v) (ltb-true letter.to f.settings.nodes (and_parts (nat_lt letter.to f.settings.nodes) (start.lives letter.to) e).0) same (fresh letter.to)
    (on_on (stay (idle (start.nodes letter.to)) v refl refl) (on_catches f letter.to v)) (less (work_cost (catches_up f letter.to v)) (work_cost v) (node_cost (start.nodes letter.to)) (catches_cost f letter.to v) joined) (all (debt_in f start) (debt_in f w) debt))
    (λ e. nothing f b w start 0 (none (debt_in f start) (debt_in f w) debt) (ap (λ (nodes : ℕ → Node). sum f.settings.nodes (λ k. node_calls (nodes k).played)) same))
  where
    v : NodeWork
    v = joins (deliver (group f) letter.to letter.packet (start.nodes letter.to).member) (idle (start.nodes letter.to))

    joined : work_cost v ≡ node_cost (start.nodes letter.to) + 0
    joined = joins_cost (deliver (group f) letter.to letter.packet (start.nodes letter.to).member) (idle (start.nodes letter.to))

    less : (x y z : ℕ) → x ≤ y → y ≡ z + 0 → x ≤ z + 0
    less x y z h e = omega (arith, h, e)

    all : (x y : ℕ) → y ≡ 0 + x → 0 + (x + 0) ≤ y
    all x y e = omega (arith, e)

    none : (x y : ℕ) → y ≡ 0 + x → 0 + x ≤ y
    none x y e = omega (arith, e)
costs_comes f b w start (Mail.Sends incarnation from to errand) same fresh debt =
    cond_both (lives_in f start to) (after_part f to (catches_up f to v) (untouched start)) (untouched start) (λ (u : AtWork). Costs f b w u 1)
    (λ e. by_part f b w start to (held_cost errand) 1 (catches_up f to v) (ltb-true to f.settings.nodes (and_parts (nat_lt to f.settings.nodes) (start.lives to) e).0) same (fresh to)
    (on_on (on_arrives errand (idle (start.nodes to))) (on_catches f to v)) (less (work_cost (catches_up f to v)) (work_cost v) (node_cost (start.nodes to)) (held_cost errand) (catches_cost f to v) (arrives_cost errand (idle (start.nodes to))))
    (all (held_cost errand) (errand_cost errand) (debt_in f start) (debt_in f w) (one_held errand) debt))
    (λ e. nothing f b w start 1 (none (held_cost errand) (errand_cost errand) (debt_in f start) (debt_in f w) (one_held errand) debt) (ap (λ (nodes : ℕ → Node). sum f.settings.nodes (λ k. node_calls (nodes k).played)) same))
  where
    v : NodeWork
    v = arrives errand (idle (start.nodes to))

    less : (x y z c : ℕ) → x ≤ y → y ≤ (z + 0) + c → x ≤ z + c
    less x y z c h k = omega (arith, h, k)

    all : (h c x y : ℕ) → 1 + h ≡ c → y ≡ c + x → 1 + (x + h) ≤ y
    all h c x y e d = omega (arith, e, d)

    none : (h c x y : ℕ) → 1 + h ≡ c → y ≡ c + x → 1 + x ≤ y
    none h c x y e d = omega (arith, e, d)

-- ---- each event

costs_delivers : (f : Frame) (b : Bool) (w : World) (number copy : ℕ) → ProcessesStand f w → AreCalm w.sent w.flights → Head w.flights number copy → Costs f b w (delivers f w number copy) (errands_found (ready_copy number copy w.flights))
costs_delivers f b w number copy stands calm head =
    let start : World = record w { flights = head.others } in
    let is : delivers f w number copy ≡ comes f start head.flight.packet.mail = head_is f w number copy head calm in
    let e : errands_found (ready_copy number copy w.flights) ≡ errands_by head.flight.packet.mail = ap errands_found head.found in
    let d = ap flights_cost head.is in
    subst (λ (u : AtWork). Costs f b w u (errands_found (ready_copy number copy w.flights))) (sym is)
    (subst (λ (k : ℕ). Costs f b w (comes f start head.flight.packet.mail) k) (sym e)
    (costs_comes f b w start head.flight.packet.mail refl (λ m. fresh_at f w m stands)
    (debt (flights_cost w.flights) (mail_cost head.flight.packet.mail) (flights_cost head.others) (sum f.settings.nodes (λ m. node_cost (w.nodes m))) d)))
  where
    debt : (all one others nodes : ℕ) → all ≡ one + others → all + nodes ≡ one + (others + nodes)
    debt all one others nodes e = omega (arith, e)

costs_act : (f : Frame) (b : Bool) (w : World) (i m : ℕ) (r : Played) (u : NodeWork) → MayPay f b → m < f.settings.nodes → ProcessesStand f w → (w.nodes m).played i ≡ Some r → is_asking r.stage ≡ 0 →
    Acted f m i r (w.nodes m) u → Costs f b w (after_part f m (catches_up f m u) (untouched w)) 0
costs_act f b w i m r u may low stands here light act = record {
  more = pays b (is_asking act.stage);
  cost = one (debt_at f (after_part f m (catches_up f m u) (untouched w))) (debt_in f w) (2 * is_asking act.stage) (pays b (is_asking act.stage))
      (part_costs f w m (2 * is_asking act.stage) (catches_up f m u) low (less (work_cost (catches_up f m u)) (work_cost u) (node_cost (w.nodes m) + 2 * is_asking act.stage) (catches_cost f m u) act.cost))
      (pays_asking f b (is_asking act.stage) may act.none);
  calls = pays_more b (calls_in f w) (calls_in f (after_part f m (catches_up f m u) (untouched w)).world) (is_asking act.stage)
      (part_over f w m (is_asking act.stage) (catches_up f m u).node low
      (node_calls_over (w.nodes m) (catches_up f m u) i (is_asking act.stage) r (record r { stage = act.stage }) (within i (w.nodes m).copies.processes PROCESSES counted (stands.few m)) counted (fresh_at f w m stands) here
      (by_stage (length r.replies) (is_asking r.stage) (is_asking act.stage) light) (on_on act.onward (on_catches f m u))));
}
  where
    counted : i < (w.nodes m).copies.processes
    counted = stands.fresh m i r here

    one : (x y c d : ℕ) → x ≤ y + c → c ≤ d → 0 + x ≤ y + d
    one x y c d h k = omega (arith, h, k)

    less : (x y z : ℕ) → x ≤ y → y ≤ z → x ≤ z
    less x y z h k = omega (arith, h, k)

    within : (a b c : ℕ) → a < b → b ≤ c → a < c
    within a b c h k = omega (arith, h, k)

    by_stage : (replies before after : ℕ) → before ≡ 0 → (replies + before) + after ≤ replies + after
    by_stage replies before after e = omega (arith, e)

costs_burst : (f : Frame) (b : Bool) (w : World) (i m place : ℕ) (reads : List Line) (r end : Played) → m < f.settings.nodes → ProcessesStand f w → (w.nodes m).played i ≡ Some r → r.stage ≡ Computing →
    length r.replies ≤ length end.replies → Costs f b w (after_part f m (computes i place reads end (w.nodes m)) (untouched w)) 0
costs_burst f b w i m place reads r end low stands here computing more = record {
  more = 0;
  cost = one (debt_at f (after_part f m v (untouched w))) (debt_in f w) (part_costs f w m 0 v low (less (work_cost v) (node_cost (w.nodes m)) performed));
  calls = pays_up b (calls_in f w) (calls_in f (after_part f m v (untouched w)).world)
      (two (calls_in f w) (calls_in f (after_part f m v (untouched w)).world)
      (part_over f w m 0 v.node low (node_calls_over (w.nodes m) v i 0 r end (within i (w.nodes m).copies.processes PROCESSES counted (stands.few m)) counted (fresh_at f w m stands) here
      (by_replies (length r.replies) (length end.replies) (is_asking r.stage) (is_asking end.stage) (ap is_asking computing) more) on)));
}
  where
    p : NodeWork
    p = performs_all place reads (idle (w.nodes m))

    v : NodeWork
    v = computes i place reads end (w.nodes m)

    same : (performs_all place reads (idle (w.nodes m))).node ≡ w.nodes m
    same = performed_node place reads (idle (w.nodes m))

    performed : work_cost v ≡ node_cost (w.nodes m) + 0
    performed = performed_cost place reads (idle (w.nodes m)) same

    on : AreOnward (plays i end (idle (w.nodes m))) v
    on = stay (plays i end (idle (w.nodes m))) v (ap (λ (z : Node). z.copies.processes) same) (ap (λ (z : Node). with_at z.played i (Some end)) same)

    counted : i < (w.nodes m).copies.processes
    counted = stands.fresh m i r here

    one : (x y : ℕ) → x ≤ y + 0 → 0 + x ≤ y + 0
    one x y h = omega (arith, h)

    two : (x y : ℕ) → x + 0 ≤ y → x ≤ y
    two x y h = omega (arith, h)

    less : (x y : ℕ) → x ≡ y + 0 → x ≤ y + 0
    less x y e = omega (arith, e)

    within : (a b c : ℕ) → a < b → b ≤ c → a < c
    within a b c h k = omega (arith, h, k)

    by_replies : (a b before after : ℕ) → before ≡ 0 → a ≤ b → (a + before) + 0 ≤ b + after
    by_replies a b before after e h = omega (arith, e, h)

costs_event : (f : Frame) (b : Bool) (w : World) (e : world.Event) (given : Known e) → MayPay f b → ((i : ℕ) → home_of f w i < f.settings.nodes) → ProcessesStand f w → AreCalm w.sent w.flights → Possible f w e given →
    IsPlain e → IsFirst w e → (IsTick e → ⊥) → Costs f b w (happens f w e given) (errands_come w e)
costs_event f b w (event.Burst i place turns) given pay homes stands calm may plain first none =
    costs_burst f b w i.0 (home_of f w i.0) place given.reads may.start given.end (homes i.0) stands may.here may.computing (ran_far f _ place i (last_turn f may.start) may.start given.reads given.end may.ran).replies
costs_event f b w (event.Act i) given pay homes stands calm may plain first none =
    let m : ℕ = home_of f w i.0 in
    let node : Node = w.nodes m in
    let p = and_parts (w.lives m) (may_act_as (played_in f w i.0)) (is_true _ may) in
    let a = acting_of (played_in f w i.0) p.1 in
    let r : Played = a.0 in
    let here : node.played i.0 ≡ Some r = a.2 in
    let last : StandsAt f i r (Acting a.1) = subst (λ (s : Stage). StandsAt f i r s) a.3 (stands.each m i r here).stands in
    costs_act f b w i.0 m r (acts_of f m i.0 (node.played i.0) (idle node)) pay (homes i.0) stands here (ap is_asking a.3) (acted f m i.0 r a.1 (node.played i.0) node here a.3 last.1)
costs_event f b w (event.Deliver number copy) given pay homes stands calm may plain first none = costs_delivers f b w number copy stands calm (first_is w.sent w.flights number copy calm first)
costs_event f b w event.Tick given pay homes stands calm may plain first none = absurd (none tt)
costs_event f b w (event.Crash node) given pay homes stands calm may plain first none = absurd plain
costs_event f b w (event.Suspect node) given pay homes stands calm may plain first none = absurd plain
costs_event f b w event.Swap given pay homes stands calm may plain first none = absurd plain

-- ---- a step

pub covered_step : (f : Frame) (w v : World) (step : Step) (e : ℕ) → ((i : ℕ) → home_of f w i < f.settings.nodes) → ProcessesStand f w → AreCalm w.sent w.flights → Next f w step v → IsFaultless w step → (IsTick step.event → ⊥) →
    Covered f w e → Covered f v (errands_come w step.event + e)
covered_step f w v step e homes stands calm next less none covered = subst (λ (z : World). Covered f z (errands_come w step.event + e)) (sym next.after) (λ b may.
    let u : AtWork = happens f w step.event next.given in
    let z : World = closes f w step (happens f w step.event next.given) in
    let c : Costs f b w u (errands_come w step.event) = costs_event f b w step.event next.given may homes stands calm next.possible less.plain less.first none in
    let p : Posts f u.world (posts_all f u.world u.mails step.fates) u.mails = posts_each f u.world u.mails step.fates less.fates next.fates (calm_event f w step.event next.given calm less.plain less.first none) in
    let nodes = ap (λ (n : ℕ → Node). sum f.settings.nodes (λ m. node_cost (n m))) p.nodes in
    let calls = ap (λ (n : ℕ → Node). pays b (sum f.settings.nodes (λ m. node_calls (n m).played))) (sym p.nodes) in
    whole e (errands_come w step.event) (debt_in f w) (debt_at f u) (debt_in f z) c.more (pays b (calls_in f w)) (pays b (calls_in f u.world)) (pays b (calls_in f z)) (covered b may) c.cost c.calls
    (parts (flights_cost z.flights) (flights_cost u.world.flights) (sum f.settings.nodes (λ m. node_cost (z.nodes m))) (sum f.settings.nodes (λ m. node_cost (u.world.nodes m))) (mails_cost u.mails) p.cost nodes) calls)
  where
    parts : (fz fu sz su m : ℕ) → fz ≡ fu + m → sz ≡ su → fz + sz ≡ (fu + su) + m
    parts fz fu sz su m one two = omega (arith, one, two)

    whole : (e e1 d du dz more a au az : ℕ) → e + d ≤ a → e1 + du ≤ d + more → a + more ≤ au → dz ≡ du → au ≡ az → (e1 + e) + dz ≤ az
    whole e e1 d du dz more a au az one two three four five = omega (arith, one, two, three, four, five)

-- ---- the opening world, and what the account says

sum_zero : (n : ℕ) (x : ℕ → ℕ) → ((i : ℕ) → x i ≡ 0) → sum n x ≡ 0
sum_zero zero x h = refl
sum_zero (suc n) x h = let r = sum_zero n x h in let o = h n in omega (arith, r, o)

pub opening_covered : (f : Frame) → Covered f (opening_world f) 0
opening_covered f b may = let z = sum_zero f.settings.nodes (λ m. node_cost ((opening_world f).nodes m)) (λ m. refl) in none (sum f.settings.nodes (λ m. node_cost ((opening_world f).nodes m))) (pays b (calls_in f (opening_world f))) z
  where
    none : (x y : ℕ) → x ≡ 0 → 0 + (0 + x) ≤ y
    none x y e = omega (arith, e)

pub covered_asked : (f : Frame) (w : World) (e : ℕ) → Covered f w e → e ≤ 2 * calls_in f w
covered_asked f w e covered = less e (debt_in f w) (2 * calls_in f w) (covered true (inl refl))
  where
    less : (e d a : ℕ) → e + d ≤ a → e ≤ a
    less e d a h = omega (arith, h)

pub covered_none : (f : Frame) (w : World) (e : ℕ) → Covered f w e → AllReplicated f → e ≡ 0
covered_none f w e covered all = less e (debt_in f w) (covered false (inr all))
  where
    less : (e d : ℕ) → e + d ≤ 0 → e ≡ 0
    less e d h = omega (arith, h)
