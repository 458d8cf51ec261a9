-- From the account to the number: bursts and acts are at most two for each call, one for each process, and one for each 10,000 turns.
use Rattle.std.proofs.Common.{◌≡◌, ◌≤◌, ◌<◌, ◌*◌, ◌+◌, ◌/◌, ◌==◌, ⊎_elim, ℕ, zero, suc, Bool, true, false, List, [], ◌∷◌, length, Option, Some, None, refl, sym, ap, arith, subst, if◌then◌else◌}
use Rattle.std.proofs.lemmas.Bool.{cases_lt, cond_both, eqb-true, eqb-false}
use Rattle.orca_base.specs.declared.limits.TheConstants.{BURST_TURNS, PROCESSES}
use Rattle.value_core.specs.declared.action.Line.{Line}
use Rattle.book_law.specs.Events.{lines_by}
use Rattle.group_rules.specs.Sets.{count}
use Rattle.world_rules.specs.Frame.{Frame}
use Rattle.world_rules.specs.Played.{Played, Stage}
use Rattle.world_rules.specs.Played.Stage.{Computing, Acting, Submitted, Reading, Asking, Over}
use Rattle.world_rules.specs.Standings.{process_count, stands}
use Rattle.world_rules.specs.Worlds.{Book, World, home_of, played_in}
use Rattle.world_facts.specs.Ends.{turns_in}
use Rattle.world_enough.specs.Bound.{calls_of, is_at_action, all_turns}
use Rattle.world_enough.specs.Paid.{calls_by, calls_in, is_asking, stage_weight, sum, weight_in, weight_of}
use Rattle.world_enough.proofs.Weighing.{sum_up}

-- ---- sums

sum_plus : (n : ℕ) (f g : ℕ → ℕ) → sum n (λ i. f i + g i) ≡ sum n f + sum n g
sum_plus zero f g = refl
sum_plus (suc n) f g = let r = sum_plus n f g in omega (arith, r)

sum_none : (n : ℕ) (f : ℕ → ℕ) → ((i : ℕ) → f i ≡ 0) → sum n f ≡ 0
sum_none zero f h = refl
sum_none (suc n) f h = let r = sum_none n f h in let o = h n in omega (arith, r, o)

-- in either order
swapped : (n k : ℕ) (x : ℕ → ℕ → ℕ) → sum n (λ m. sum k (λ i. x m i)) ≡ sum k (λ i. sum n (λ m. x m i))
swapped zero k x = sym (sum_none k (λ i. 0) (λ i. refl))
swapped (suc n) k x =
    let r = swapped n k x in
    let p = sum_plus k (λ i. sum n (λ m. x m i)) (λ i. x n i) in
    omega (arith, r, p)

-- all but one are nothing
sum_before : (k h : ℕ) (x : ℕ → ℕ) → k ≤ h → ((m : ℕ) → (m ≡ h → ⊥) → x m ≡ 0) → sum k x ≡ 0
sum_before zero h x le none = refl
sum_before (suc k) h x le none = let r = sum_before k h x (omega (arith, le)) none in let o = none k (λ e. absurd (omega (arith, e, le))) in omega (arith, r, o)

sum_one : (n h : ℕ) (x : ℕ → ℕ) → ((m : ℕ) → (m ≡ h → ⊥) → x m ≡ 0) → sum n x ≤ x h
sum_one zero h x none = omega arith
sum_one (suc n) h x none = go (n == h) refl (sum_one n h x none)
  where
    go : (b : Bool) → (n == h) ≡ b → sum n x ≤ x h → sum n x + x n ≤ x h
    go true e r = let same = eqb-true n h e in let z = sum_before n h x (omega (arith, same)) none in let y : x n ≡ x h = ap x same in omega (arith, z, y)
    go false e r = let o = none n (eqb-false n h e) in omega (arith, r, o)

rising : (a b : ℕ) (z : ℕ → ℕ) → a ≤ b → sum a z ≤ sum b z
rising a zero z le = let e : a ≡ 0 = omega (arith, le) in subst (λ (k : ℕ). sum k z ≤ 0) (sym e) (omega arith)
rising a (suc b) z le = let r = rising a b z in ⊎_elim
    (λ (l : a < suc b). let q = r (omega (arith, l)) in omega (arith, q))
    (λ (l : suc b ≤ a). let e : a ≡ suc b = omega (arith, l, le) in subst (λ (k : ℕ). sum k z ≤ sum (suc b) z) (sym e) (omega arith))
    (cases_lt a (suc b))

-- nothing from p on
sum_cut : (n p : ℕ) (z : ℕ → ℕ) → ((i : ℕ) → p ≤ i → z i ≡ 0) → sum n z ≤ sum p z
sum_cut zero p z none = omega arith
sum_cut (suc n) p z none = let r = sum_cut n p z none in ⊎_elim
    (λ (l : n < p). rising (suc n) p z (omega (arith, l)))
    (λ (l : p ≤ n). let o = none n l in omega (arith, r, o))
    (cases_lt n p)

combine : (n : ℕ) (y l a t : ℕ → ℕ) → ((i : ℕ) → y i ≤ BURST_TURNS * (2 * (l i + a i) + 1) + t i) →
    sum n y ≤ BURST_TURNS * (2 * (sum n l + sum n a) + n) + sum n t
combine zero y l a t h = omega arith
combine (suc n) y l a t h = let r = combine n y l a t h in let o = h n in omega (arith, r, o)

sum_count : (n : ℕ) (test : ℕ → Bool) → sum n (λ i. if test i then 1 else 0) ≡ count n test
sum_count zero test = refl
sum_count (suc n) test = let r = sum_count n test in cond_both (test n) (suc (count n test)) (count n test)
    (λ (k : ℕ). sum n (λ i. if test i then 1 else 0) + (if test n then 1 else 0) ≡ k)
    (λ e. rw e (omega (arith, r))) (λ e. rw e (omega (arith, r)))

-- ---- lines

one_line : (n : ℕ) (l : Line) (lines : List Line) → sum n (λ i. length (lines_by i (l ∷ lines))) ≤ 1 + sum n (λ i. length (lines_by i lines))
one_line n l lines =
    let p = sum_plus n (λ i. length (lines_by i lines)) (λ i. if l.process.0 == i then 1 else 0) in
    let u = sum_up n (λ i. length (lines_by i (l ∷ lines))) (λ i. length (lines_by i lines) + (if l.process.0 == i then 1 else 0))
    (λ i low. cond_both (l.process.0 == i) (l ∷ lines_by i lines) (lines_by i lines) (λ z. length z ≤ length (lines_by i lines) + (if l.process.0 == i then 1 else 0))
    (λ e. rw e (omega arith)) (λ e. rw e (omega arith))) in
    let o = sum_one n l.process.0 (λ i. if l.process.0 == i then 1 else 0)
    (λ i no. cond_both (l.process.0 == i) 1 0 (λ (k : ℕ). k ≡ 0) (λ e. absurd (no (sym (eqb-true l.process.0 i e)))) (λ e. refl)) in
    let b = cond_both (l.process.0 == l.process.0) 1 0 (λ (k : ℕ). k ≤ 1) (λ e. omega arith) (λ e. omega arith) in
    omega (arith, p, u, o, b)

all_lines : (n : ℕ) (lines : List Line) → sum n (λ i. length (lines_by i lines)) ≤ length lines
all_lines n [] = let z = sum_none n (λ i. 0) (λ i. refl) in omega (arith, z)
all_lines n (l ∷ lines) = let r = all_lines n lines in let o = one_line n l lines in omega (arith, r, o)

-- ---- processes

stage_cost : (s : Stage) → stage_weight s ≤ 2 * (if is_at_action s then 1 else 0) + 1
stage_cost Computing = omega arith
stage_cost (Acting act) = omega arith
stage_cost (Submitted act) = omega arith
stage_cost (Reading act) = omega arith
stage_cost (Asking act) = omega arith
stage_cost (Over act) = omega arith

-- each process is played by its home alone, exists, and has no more replies than the book has lines of it
pub record IsPlayedWell (f : Frame) (w : World) : Type 0 where
  pub home : (m i : ℕ) (r : Played) → (w.nodes m).played i ≡ Some r → home_of f w i ≡ m
  pub exists : (i : ℕ) (r : Played) → played_in f w i ≡ Some r → i < process_count f w
  pub replies : (i : ℕ) (r : Played) → played_in f w i ≡ Some r → length r.replies ≤ length (lines_by i (Book f w))

cost_of : (f : Frame) (w : World) (i : ℕ) (o : Option Played) → ((r : Played) → o ≡ Some r → length r.replies ≤ length (lines_by i (Book f w))) →
    weight_of o ≤ BURST_TURNS * (2 * (length (lines_by i (Book f w)) + (if stands is_at_action o then 1 else 0)) + 1) + turns_in o
cost_of f w i None h = omega arith
cost_of f w i (Some r) h = let n = h r refl in let s = stage_cost r.stage in omega (arith, n, s)

none_or : (o : Option Played) → ((r : Played) → o ≡ Some r → ⊥) → weight_of o ≡ 0
none_or None h = refl
none_or (Some r) h = absurd (h r refl)

too_late : (i p : ℕ) → i < p → p ≤ i → ⊥
too_late i p l late = absurd (omega (arith, l, late))

pub weight_most : (f : Frame) (w : World) → IsPlayedWell f w → weight_in f w ≤ BURST_TURNS * (2 * calls_of f w + process_count f w) + all_turns f w
weight_most f w well =
    let p : ℕ = process_count f w in
    let y : ℕ → ℕ = λ i. weight_of (played_in f w i) in
    let a = swapped f.settings.nodes PROCESSES (λ m i. weight_of ((w.nodes m).played i)) in
    let b = sum_up PROCESSES (λ i. sum f.settings.nodes (λ m. weight_of ((w.nodes m).played i))) y
    (λ i low. sum_one f.settings.nodes (home_of f w i) (λ m. weight_of ((w.nodes m).played i))
    (λ m no. none_or ((w.nodes m).played i) (λ r here. no (sym (well.home m i r here))))) in
    let c = sum_cut PROCESSES p y (λ i late. none_or (played_in f w i) (λ r here. too_late i p (well.exists i r here) late)) in
    let d = combine p y (λ i. length (lines_by i (Book f w))) (λ i. if stands is_at_action (played_in f w i) then 1 else 0) (λ i. turns_in (played_in f w i))
    (λ i. cost_of f w i (played_in f w i) (well.replies i)) in
    let e = all_lines p (Book f w) in
    let k = sum_count p (λ i. stands is_at_action (played_in f w i)) in
    whole (weight_in f w) (sum PROCESSES (λ i. sum f.settings.nodes (λ m. weight_of ((w.nodes m).played i)))) (sum PROCESSES y) (sum p y)
    (sum p (λ i. length (lines_by i (Book f w)))) (sum p (λ i. if stands is_at_action (played_in f w i) then 1 else 0)) (all_turns f w) p (length (Book f w))
    (count p (λ i. stands is_at_action (played_in f w i))) a b c d e k
  where
    whole : (x x1 x2 x3 l a t p lines acts : ℕ) → x ≡ x1 → x1 ≤ x2 → x2 ≤ x3 → x3 ≤ BURST_TURNS * (2 * (l + a) + p) + t → l ≤ lines → a ≡ acts →
        x ≤ BURST_TURNS * (2 * (lines + acts) + p) + t
    whole x x1 x2 x3 l a t p lines acts e1 e2 e3 e4 e5 e6 = omega (arith, e1, e2, e3, e4, e5, e6)

-- ---- the calls that Asks and Answers may be of are no more than all calls

asking_at : (s : Stage) → is_asking s ≤ (if is_at_action s then 1 else 0)
asking_at Computing = omega arith
asking_at (Acting act) = omega arith
asking_at (Submitted act) = omega arith
asking_at (Reading act) = omega arith
asking_at (Asking act) = omega arith
asking_at (Over act) = omega arith

calls_at : (f : Frame) (w : World) (i : ℕ) (o : Option Played) → ((r : Played) → o ≡ Some r → length r.replies ≤ length (lines_by i (Book f w))) →
    calls_by o ≤ length (lines_by i (Book f w)) + (if stands is_at_action o then 1 else 0)
calls_at f w i None h = omega arith
calls_at f w i (Some r) h = let n = h r refl in let s = asking_at r.stage in omega (arith, n, s)

no_calls : (o : Option Played) → ((r : Played) → o ≡ Some r → ⊥) → calls_by o ≡ 0
no_calls None h = refl
no_calls (Some r) h = absurd (h r refl)

pub calls_most : (f : Frame) (w : World) → IsPlayedWell f w → calls_in f w ≤ calls_of f w
calls_most f w well =
    let p : ℕ = process_count f w in
    let y : ℕ → ℕ = λ i. calls_by (played_in f w i) in
    let l : ℕ → ℕ = λ i. length (lines_by i (Book f w)) in
    let t : ℕ → ℕ = λ i. if stands is_at_action (played_in f w i) then 1 else 0 in
    let a = swapped f.settings.nodes PROCESSES (λ m i. calls_by ((w.nodes m).played i)) in
    let b = sum_up PROCESSES (λ i. sum f.settings.nodes (λ m. calls_by ((w.nodes m).played i))) y
    (λ i low. sum_one f.settings.nodes (home_of f w i) (λ m. calls_by ((w.nodes m).played i))
    (λ m no. no_calls ((w.nodes m).played i) (λ r here. no (sym (well.home m i r here))))) in
    let c = sum_cut PROCESSES p y (λ i late. no_calls (played_in f w i) (λ r here. too_late i p (well.exists i r here) late)) in
    let d = sum_up p y (λ i. l i + t i) (λ i low. calls_at f w i (played_in f w i) (well.replies i)) in
    let g = sum_plus p l t in
    let e = all_lines p (Book f w) in
    let k = sum_count p (λ i. stands is_at_action (played_in f w i)) in
    whole (calls_in f w) (sum PROCESSES (λ i. sum f.settings.nodes (λ m. calls_by ((w.nodes m).played i)))) (sum PROCESSES y) (sum p y) (sum p (λ i. l i + t i))
    (sum p l) (sum p t) (length (Book f w)) (count p (λ i. stands is_at_action (played_in f w i))) a b c d g e k
  where
    whole : (x x1 x2 x3 x4 l t lines acts : ℕ) → x ≡ x1 → x1 ≤ x2 → x2 ≤ x3 → x3 ≤ x4 → x4 ≡ l + t → l ≤ lines → t ≡ acts → x ≤ lines + acts
    whole x x1 x2 x3 x4 l t lines acts e1 e2 e3 e4 e5 e6 e7 = omega (arith, e1, e2, e3, e4, e5, e6, e7)

pub divided : (k a t : ℕ) → BURST_TURNS * k ≤ BURST_TURNS * a + t → k ≤ a + t / BURST_TURNS
divided k a t h = omega (arith, h)
