-- An active member whose sequencer crashed: from the first tick on nothing of that sequencer is on its way.
use Rattle.std.proofs.Common.{◌≡◌, ℕ, zero, suc, ◌+◌, ◌%◌, ◌≤◌, ◌<◌, ◌==◌, ◌&&◌, not, min, nat_lt, nat_le, ◌⊎◌, inl, inr, ⊎_elim, Bool, true, false, Option, Some, None, List, [], ◌∷◌, ◌++◌, length, refl, sym, ap, ◌∙◌, arith, le_refl, subst, if◌then◌else◌, slice_get}
use Rattle.std.proofs.lemmas.Bool.{cond_both, eqb-true, eqb-false, leb-false, and_parts, not-true}
use Rattle.orca_base.specs.declared.limits.TheConstants.{MESSAGE_BY_REQUEST, PATIENCE}
use Rattle.group_rules.specs.Sets.{In}
use Rattle.group_rules.specs.Messages.{Group, is_repeat}
use Rattle.group_rules.specs.Member.{Letter, Member, is_active, leads}
use Rattle.group_rules.specs.Work.{Work, idle, becomes, letters_of}
use Rattle.group_rules.specs.World.{acts_on, may_submit, submitted_past}
use Rattle.group_rules.specs.Receiver.{is_newer, keep_body, request, request_all}
use Rattle.group_rules.specs.Steps.{SILENCE, is_empty, submit, deliver, ticked, is_due, timer}
use Rattle.group_law.proofs.Grows.{at_both}
use Rattle.group_idle.specs.Net.{Net, Move, part, comes, without_at, ticks_at, ticks_below, moves}
use Rattle.group_idle.specs.Idle.{Unmoved, Still, Idle, ticks_in}
use Rattle.group_idle.proofs.Parts.{DesertedLaw}
use Rattle.group_idle.proofs.Rising.{coordinate_above, told_others_state}
use Rattle.group_idle.proofs.Stretches.{with_here, acting, Climbs, climb, Timed, timed, acts_same}
use Rattle.group_idle.proofs.Inactive.{no, Ticked}
use Rattle.group_idle.proofs.Following.{Follows}
use Rattle.group_idle.proofs.Calming.{submit_calm, deliver_calm}
use Rattle.group_idle.proofs.Owing.{nothing_in}
use Rattle.group_idle.proofs.Two.{lives_move}
use Rattle.group_idle.proofs.Accepting.{still_active}
use Rattle.group_idle.proofs.Senders.{AllOwn, submit_own, timer_own, deliver_own}

-- what is on its way is of members that live
abbrev pub FromLiving : {M : Type 0} → Group M → Net M → Type 0
FromLiving {M} g n = (l : Letter M) → In l n.flights → acts_on g n.world l.packet.from ≡ true

pub record Alone {M : Type 0} (g : Group M) (x k : ℕ) (n : Net M) : Type 0 where
  pub acts : acts_on g n.world x ≡ true
  pub follows : Follows g x (n.world.members x)
  pub at : (n.world.members x).installed ≡ k
  pub dead : acts_on g n.world (k % g.nodes) ≡ false

pub record Silent {M : Type 0} (g : Group M) (x k : ℕ) (n : Net M) : Type 0 where
  pub alone : Alone g x k n
  pub living : FromLiving g n

-- ---- what is on its way stays so

in_both : {A : Type 0} (x : A) (xs ys : List A) → In x (xs ++ ys) → In x xs ⊎ In x ys
in_both x [] ys i = inr i
in_both x (z ∷ xs) ys (inl e) = inl (inl e)
in_both x (z ∷ xs) ys (inr i) = ⊎_elim (λ j. inl (inr j)) (λ j. inr j) (in_both x xs ys i)

not_taken : {A : Type 0} (x : A) (place : ℕ) (xs : List A) → In x (without_at place xs) → In x xs
not_taken x place [] i = absurd i
not_taken x zero (z ∷ xs) i = inr i
not_taken x (suc place) (z ∷ xs) (inl e) = inl e
not_taken x (suc place) (z ∷ xs) (inr i) = inr (not_taken x place xs i)

stands_at : {A : Type 0} (x : A) (place : ℕ) (xs : List A) → slice_get xs place ≡ Some x → In x xs
stands_at x place [] e = absurd cc
stands_at x zero (z ∷ xs) e = let q : z ≡ x = cc in inl (sym q)
stands_at x (suc place) (z ∷ xs) e = inr (stands_at x place xs e)

part_living : {M : Type 0} (g : Group M) (n : Net M) (m : ℕ) (p : _) (v : Work M) → acts_on g n.world m ≡ true → AllOwn m v → FromLiving g n → FromLiving g (part n m p v)
part_living g n m p v acts own all l i = ⊎_elim (λ j. all l j) (λ j. ap (λ (y : ℕ). acts_on g n.world y) (own l j) ∙ acts) (in_both l n.flights (letters_of v.acts) i)

unmoved_at : {M : Type 0} (g : Group M) (n : Net M) (m : ℕ) (p : _) (v : Work M) → m < g.nodes → Still g n (part n m p v) → Unmoved (n.world.members m) v.state
unmoved_at {M} g n m p v low still = subst (λ (t : Member M). Unmoved (n.world.members m) t) (with_here n.world.members m v.state) (still m low)

submit_living : {M : Type 0} (g : Group M) (n : Net M) (y : ℕ) (m : M) → FromLiving g n → Still g n (moves g n (Move.Submits y m)) → FromLiving g (moves g n (Move.Submits y m))
submit_living {M} g n y m all = cond_both (acts_on g n.world y && may_submit g n.world y m) _ n (λ (u : Net M). Still g n u → FromLiving g u)
    (λ e still. let acts = (and_parts (acts_on g n.world y) (may_submit g n.world y m) e).0 in let low = acting g n y acts in
    part_living g n y (submitted_past g y m n.world.past) (submit g y m (n.world.members y)) acts (submit_own g y m (n.world.members y) low (unmoved_at g n y (submitted_past g y m n.world.past) (submit g y m (n.world.members y)) low still)) all)
    (λ e still. all)

come_living : {M : Type 0} (g : Group M) (n : Net M) (o : Option (Letter M)) → ((l : Letter M) → o ≡ Some l → acts_on g n.world l.packet.from ≡ true) → FromLiving g n → Still g n (comes g n o) → FromLiving g (comes g n o)
come_living g n None from all still = all
come_living {M} g n (Some one) from all still = go still
  where
    go : Still g n (comes g n (Some one)) → FromLiving g (comes g n (Some one))
    go = cond_both (acts_on g n.world one.to && not (one.to == one.packet.from)) _ n (λ (u : Net M). Still g n u → FromLiving g u)
        (λ e still. let a = and_parts (acts_on g n.world one.to) (not (one.to == one.packet.from)) e in let low = acting g n one.to a.0 in
        part_living g n one.to n.world.past (deliver g one.to one.packet (n.world.members one.to)) a.0
        (deliver_own g one.to one.packet (n.world.members one.to) low (acting g n one.packet.from (from one refl)) (λ q. eqb-false one.to one.packet.from (not-true (one.to == one.packet.from) a.1) (sym q)) (unmoved_at g n one.to n.world.past (deliver g one.to one.packet (n.world.members one.to)) low still)) all)
        (λ e still. all)

deliver_living : {M : Type 0} (g : Group M) (n : Net M) (place : ℕ) → FromLiving g n → Still g n (moves g n (Move.Delivers place)) → FromLiving g (moves g n (Move.Delivers place))
deliver_living {M} g n place all still = come_living g (record { world = n.world; flights = without_at place n.flights }) (slice_get n.flights place) (λ l e. all l (stands_at l place n.flights e)) (λ l i. all l (not_taken l place n.flights i)) still

-- the timers below k, of which each leaves its member as the whole tick does
tick_living : {M : Type 0} (g : Group M) (n : Net M) → FromLiving g n → ((y : ℕ) → y < g.nodes → acts_on g n.world y ≡ true → Unmoved (n.world.members y) (timer g y (n.world.members y)).state) → (k : ℕ) → k ≤ g.nodes → FromLiving g (ticks_below g k n)
tick_living g n all each zero l = all
tick_living {M} g n all each (suc k) l = go (timed g n k) (tick_living g n all each k (omega arith))
  where
    u : Net M
    u = ticks_below g k n

    go : Timed g n k u → FromLiving g u → FromLiving g (ticks_at g k u)
    go t ih = cond_both (acts_on g u.world k) _ u (λ (v : Net M). FromLiving g v)
        (λ a. part_living g u k u.world.past (timer g k (u.world.members k)) a (subst (λ (s : Member M). AllOwn k (timer g k s)) (sym (t.rests k (le_refl _))) (timer_own g k (n.world.members k) (omega arith) (each k (omega arith) (sym (ap (λ (f : ℕ → Bool). nat_lt k g.nodes && f k) t.lives) ∙ a)))) ih)
        (λ a. ih)

-- ---- x's own steps

requests_silent : {M : Type 0} (g : Group M) (m : ℕ) (xs : List M) (u : Work M) → (request_all g m xs u).state.silent ≡ u.state.silent
requests_silent g m [] u = refl
requests_silent {M} g m (x ∷ xs) u = requests_silent g m xs (if is_repeat g u.state.log x then u else request g m x u) ∙ cond_both (is_repeat g u.state.log x) u (request g m x u) (λ (v : Work M). v.state.silent ≡ u.state.silent) (λ e. refl) (λ e. one)
  where
    one : (request g m x u).state.silent ≡ u.state.silent
    one = cond_both (nat_le (g.bytes x) MESSAGE_BY_REQUEST) _ _ (λ (v : Work M). v.state.silent ≡ u.state.silent) (λ e. refl)
        (λ e. ap (λ (t : Member M). t.silent) (told_others_state g.nodes m _ _ (becomes (keep_body g x u.state) u)) ∙ cond_both (is_newer g x (u.state.bodies (g.process x))) _ u.state (λ (t : Member M). t.silent ≡ u.state.silent) (λ q. refl) (λ q. refl))

quiet_tick : {M : Type 0} (g : Group M) (x : ℕ) (s : Member M) → x < g.nodes → g.nodes ≤ 256 → Follows g x s → Unmoved s (timer g x s).state → Ticked x s.silent (timer g x s).state.silent
quiet_tick {M} g x s low few f = cond_both s.outside _ _ Goal (λ e o. no (sym e ∙ o.inside))
    (λ e. cond_both (is_due x t) _ _ Goal (λ q o. let a = coordinate_above g x t low o.inside in let b = o.promised in absurd (omega arith))
    (λ q. cond_both (is_active t) _ _ Goal (λ a. cond_both (leads g x t) _ _ Goal (λ l. no (sym l ∙ not_leading)) (λ l o. record {
      more = let c = same_silent in let d = silent in let b = leb-false (PATIENCE + x) t.silent q in omega arith;
      less = let c = same_silent in let b = leb-false (PATIENCE + x) t.silent q in omega arith;
    })) (λ a. no (sym f.active ∙ a))))
  where
    t : Member M
    t = ticked g x s

    Goal : Work M → Type 0
    Goal v = Unmoved s v.state → Ticked x s.silent v.state.silent

    not_leading : leads g x s ≡ false
    not_leading = by (leads g x s) refl
      where
        by : (b : Bool) → leads g x s ≡ b → b ≡ false
        by true e = absurd (f.other (eqb-true (s.installed % g.nodes) x (and_parts (is_active s) (s.installed % g.nodes == x) e).1))
        by false e = refl

    silent : t.silent ≡ min (suc s.silent) SILENCE
    silent = ap (λ (b : Bool). if (b && (nat_le (length s.log) s.accepted && is_empty s.waiting)) then 0 else min (suc s.silent) SILENCE) not_leading

    same_silent : (request_all g x t.pending (idle t)).state.silent ≡ t.silent
    same_silent = requests_silent g x t.pending (idle t)

-- ---- the stretch

stays : {M : Type 0} {g : Group M} {x k : ℕ} (n : Net M) (move : Move M) → x < g.nodes → Alone g x k n → Still g n (moves g n move) → Alone g x k (moves g n move)
stays {M} {g} {x} {k} n move low c still = let o = still x low in record {
  acts = acts_same g n (moves g n move) x (lives_move g n move) c.acts;
  follows = record { active = still_active _ _ o c.follows.active; other = λ e. c.follows.other (ap (λ (i : ℕ). i % g.nodes) (sym o.installed) ∙ e) };
  at = o.installed ∙ c.at;
  dead = ap (λ (f : ℕ → Bool). nat_lt (k % g.nodes) g.nodes && f (k % g.nodes)) (lives_move g n move) ∙ c.dead;
}

come_silent : {M : Type 0} (g : Group M) (x k : ℕ) (n : Net M) (o : Option (Letter M)) → x < g.nodes → Alone g x k n → ((l : Letter M) → o ≡ Some l → acts_on g n.world l.packet.from ≡ true) → Still g n (comes g n o) → (n.world.members x).silent ≤ ((comes g n o).world.members x).silent
come_silent g x k n None low c from still = le_refl _
come_silent {M} g x k n (Some one) low c from still = go still
  where
    apart : one.packet.from ≡ (n.world.members x).installed % g.nodes → ⊥
    apart e = let a = from one refl in let b : acts_on g n.world one.packet.from ≡ false = ap (λ (y : ℕ). acts_on g n.world y) (e ∙ ap (λ (i : ℕ). i % g.nodes) c.at) ∙ c.dead in no (sym a ∙ b)

    go : Still g n (comes g n (Some one)) → (n.world.members x).silent ≤ ((comes g n (Some one)).world.members x).silent
    go = cond_both (acts_on g n.world one.to && not (one.to == one.packet.from)) _ n (λ (u : Net M). Still g n u → (n.world.members x).silent ≤ (u.world.members x).silent)
        (λ e still. let a = and_parts (acts_on g n.world one.to) (not (one.to == one.packet.from)) e in let to = acting g n one.to a.0 in
        at_both n.world.members one.to (deliver g one.to one.packet (n.world.members one.to)).state x (λ (t : Member M). (n.world.members x).silent ≤ t.silent)
        (λ q. subst (λ (i : ℕ). (n.world.members x).silent ≤ (deliver g i one.packet (n.world.members i)).state.silent) q (deliver_calm g x one.packet (n.world.members x) apart c.follows (subst (λ (i : ℕ). Unmoved (n.world.members i) (deliver g i one.packet (n.world.members i)).state) (sym q) (unmoved_at g n one.to n.world.past (deliver g one.to one.packet (n.world.members one.to)) to still))))
        (λ q. le_refl _))
        (λ e still. le_refl _)

submit_silent : {M : Type 0} (g : Group M) (x k : ℕ) (n : Net M) (y : ℕ) (m : M) → Alone g x k n → Still g n (moves g n (Move.Submits y m)) → (n.world.members x).silent ≤ ((moves g n (Move.Submits y m)).world.members x).silent
submit_silent {M} g x k n y m c = cond_both (acts_on g n.world y && may_submit g n.world y m) _ n (λ (u : Net M). Still g n u → (n.world.members x).silent ≤ (u.world.members x).silent)
    (λ e still. at_both n.world.members y (submit g y m (n.world.members y)).state x (λ (t : Member M). (n.world.members x).silent ≤ t.silent)
    (λ q. subst (λ (i : ℕ). (n.world.members x).silent ≤ (submit g i m (n.world.members i)).state.silent) q (submit_calm g x m (n.world.members x) c.follows)) (λ q. le_refl _))
    (λ e still. le_refl _)

climbs : {M : Type 0} (g : Group M) (x k : ℕ) → x < g.nodes → g.nodes ≤ 256 → Climbs g x (PATIENCE + x) (Silent {M = M} g x k)
climbs {M} g x k low few = record {
  submits = λ n y m c still. (record { alone = stays n (Move.Submits y m) low c.alone still; living = λ l i. lives n (Move.Submits y m) l (submit_living_here n y m c still l i) }, submit_silent g x k n y m c.alone still);
  delivers = λ n place c still. (record { alone = stays n (Move.Delivers place) low c.alone still; living = deliver_living g n place c.living still }, come_silent g x k (record { world = n.world; flights = without_at place n.flights }) (slice_get n.flights place) low (record { acts = c.alone.acts; follows = c.alone.follows; at = c.alone.at; dead = c.alone.dead }) (λ l e. c.living l (stands_at l place n.flights e)) still);
  ticks = λ n c none still.
      let e = (timed g n g.nodes).ran x low c.alone.acts in
      let d = subst (λ (t : Member M). Ticked x (n.world.members x).silent t.silent) (sym e) (quiet_tick g x (n.world.members x) low few c.alone.follows (subst (λ (t : Member M). Unmoved (n.world.members x) t) e (still x low))) in
      (record { alone = stays n Move.Ticks low c.alone still; living = tick_living g n c.living (λ y l a. subst (λ (t : Member M). Unmoved (n.world.members y) t) ((timed g n g.nodes).ran y l a) (still y l)) g.nodes (le_refl _) }, d.more, d.less);
}
  where
    submit_living_here : (n : Net M) (y : ℕ) (m : M) → Silent g x k n → Still g n (moves g n (Move.Submits y m)) → FromLiving g (moves g n (Move.Submits y m))
    submit_living_here n y m c still = submit_living g n y m c.living still

    lives : (n : Net M) (move : Move M) (l : Letter M) → acts_on g (moves g n move).world l.packet.from ≡ true → acts_on g (moves g n move).world l.packet.from ≡ true
    lives n move l e = e

-- up to the first tick anything may be on its way
from_first : {M : Type 0} (g : Group M) (x k : ℕ) → x < g.nodes → g.nodes ≤ 256 → (list : List (Move M)) (n : Net M) → Alone g x k n → Idle g n list → ticks_in list < PATIENCE + x
from_first g x k low few [] n c i = omega arith
from_first g x k low few (Move.Submits y m ∷ more) n c i = from_first g x k low few more _ (stays n (Move.Submits y m) low c i.1) i.2
from_first g x k low few (Move.Delivers place ∷ more) n c i = from_first g x k low few more _ (stays n (Move.Delivers place) low c i.1) i.2
from_first g x k low few (Move.Ticks ∷ more) n c i = ⊎_elim (λ e. omega arith) (λ l. omega arith) (climb (climbs g x k low few) (Move.Ticks ∷ more) n (record { alone = c; living = λ l j. absurd (nothing_in l n.flights i.0.0 j) }) i)

pub deserted : (M : Type 0) → DesertedLaw M
deserted M g few n m acts active dead list idle =
    let low = acting g n m acts in
    let l = from_first g m (n.world.members m).installed low few list n (record { acts = acts; follows = record { active = active; other = λ e. no (sym acts ∙ ap (λ (y : ℕ). acts_on g n.world y) (sym e) ∙ dead) }; at = refl; dead = dead }) idle in
    omega arith
