-- N + 5 is attained: a stretch of 8 ticks among three members, r = 1, computed. Member 2 leads incarnation 5, whose only acker, member 0,
-- crashed; a Request of member 1 was lost before. At the first tick the sequencer is content; then the Request comes again, its message is
-- ordered and can't be accepted, and the sequencer coordinates at the ninth tick.
use Rattle.std.proofs.Common.{◌≡◌, ℕ, zero, suc, ◌≤◌, ◌<◌, ◌==◌, ◌&&◌, not, nat_lt, Bool, true, false, List, [], ◌∷◌, ◌++◌, refl, sym, ap, ◌∙◌, arith, le_refl, subst}
use Rattle.std.proofs.lemmas.Bool.{eqb-true, eqb-false, ltb-true, and_parts, not-true}
use Rattle.group_rules.specs.Sets.{count}
use Rattle.group_rules.specs.Member.{Member}
use Rattle.group_rules.specs.Steps.{is_empty}
use Rattle.group_rules.specs.World.{Event, acts_on, run, opening}
use Rattle.group_rules.specs.World.Event.{Submit, Deliver, Coordinate, Crash}
use Rattle.group_idle.specs.Net.{Net, Move, moves}
use Rattle.group_idle.specs.Idle.{Unmoved, Possible, Idle}
use Rattle.group_idle.specs.Worst.{Attains, three}
use Rattle.group_idle.proofs.Inactive.{no}

abbrev before : List (Event ℕ)
before = Coordinate 2 ∷ Deliver 1 ∷ Deliver 3 ∷ Deliver 5 ∷ Crash 0 ∷ Submit 1 7 ∷ []

abbrev start : Net ℕ
start = record { world = run three opening before; flights = [] }

-- a tick, and then all that is on its way comes
abbrev round : List (Move ℕ)
round = Move.Ticks ∷ Move.Delivers 0 ∷ Move.Delivers 0 ∷ Move.Delivers 0 ∷ Move.Delivers 0 ∷ Move.Delivers 0 ∷ Move.Delivers 0 ∷ Move.Delivers 0 ∷ Move.Delivers 0 ∷ []

abbrev rounds : ℕ → List (Move ℕ)
rounds zero = []
rounds (suc n) = round ++ rounds n

-- ---- what is to be computed

abbrev unmoved : Member ℕ → Member ℕ → Bool
unmoved s t = (t.promised == s.promised) && ((t.installed == s.installed) && ((t.accepted == s.accepted) && ((t.applied == s.applied) && (not s.outside && not t.outside))))

abbrev still_below : ℕ → Net ℕ → Net ℕ → Bool
still_below zero n u = true
still_below (suc m) n u = unmoved (n.world.members m) (u.world.members m) && still_below m n u

abbrev possible : Net ℕ → Move ℕ → Bool
possible n (Move.Submits m x) = true
possible n (Move.Delivers place) = true
possible n Move.Ticks = is_empty n.flights && (acts_on three n.world 1 && not (is_empty (n.world.members 1).pending))

abbrev idles : Net ℕ → List (Move ℕ) → Bool
idles n [] = true
idles n (move ∷ more) = possible n move && (still_below 3 n (moves three n move) && idles (moves three n move) more)

-- ---- and what it shows

unmoved_is : (s t : Member ℕ) → unmoved s t ≡ true → Unmoved s t
unmoved_is s t e =
    let a = and_parts (t.promised == s.promised) ((t.installed == s.installed) && ((t.accepted == s.accepted) && ((t.applied == s.applied) && (not s.outside && not t.outside)))) e in
    let b = and_parts (t.installed == s.installed) ((t.accepted == s.accepted) && ((t.applied == s.applied) && (not s.outside && not t.outside))) a.1 in
    let c = and_parts (t.accepted == s.accepted) ((t.applied == s.applied) && (not s.outside && not t.outside)) b.1 in
    let d = and_parts (t.applied == s.applied) (not s.outside && not t.outside) c.1 in
    let f = and_parts (not s.outside) (not t.outside) d.1 in
    record {
      promised = eqb-true t.promised s.promised a.0;
      installed = eqb-true t.installed s.installed b.0;
      accepted = eqb-true t.accepted s.accepted c.0;
      applied = eqb-true t.applied s.applied d.0;
      inside = not-true s.outside f.0;
      stays = not-true t.outside f.1;
    }

still_is : (k : ℕ) (n u : Net ℕ) → still_below k n u ≡ true → (m : ℕ) → m < k → Unmoved (n.world.members m) (u.world.members m)
still_is zero n u e m l = absurd (omega arith)
still_is (suc k) n u e m l = by (λ q. still_is k n u (and_parts (unmoved (n.world.members k) (u.world.members k)) (still_below k n u) e).1 m q) (m == k) refl
  where
    by : (m < k → Unmoved (n.world.members m) (u.world.members m)) → (b : Bool) → (m == k) ≡ b → Unmoved (n.world.members m) (u.world.members m)
    by ih true q = subst (λ (i : ℕ). Unmoved (n.world.members i) (u.world.members i)) (sym (eqb-true m k q)) (unmoved_is (n.world.members k) (u.world.members k) (and_parts (unmoved (n.world.members k) (u.world.members k)) (still_below k n u) e).0)
    by ih false q = let d = eqb-false m k q in ih (grind arith)

empty : {A : Type 0} (xs : List A) → is_empty xs ≡ true → xs ≡ []
empty [] e = refl
empty (x ∷ xs) e = no (sym e)

possible_is : (n : Net ℕ) (move : Move ℕ) → possible n move ≡ true → Possible three n move
possible_is n (Move.Submits m x) e = tt
possible_is n (Move.Delivers place) e = tt
possible_is n Move.Ticks e =
    let a = and_parts (is_empty n.flights) (acts_on three n.world 1 && not (is_empty (n.world.members 1).pending)) e in
    let b = and_parts (acts_on three n.world 1) (not (is_empty (n.world.members 1).pending)) a.1 in
    (empty n.flights a.0, λ d. no (sym (ap (λ (xs : List ℕ). is_empty xs) (d.each 1 b.0).pending) ∙ not-true (is_empty (n.world.members 1).pending) b.1))

idles_is : (list : List (Move ℕ)) (n : Net ℕ) → idles n list ≡ true → Idle three n list
idles_is [] n e = tt
idles_is (move ∷ more) n e =
    let a = and_parts (possible n move) (still_below 3 n (moves three n move) && idles (moves three n move) more) e in
    let b = and_parts (still_below 3 n (moves three n move)) (idles (moves three n move) more) a.1 in
    (possible_is n move a.0, (λ m l. still_is 3 n (moves three n move) b.0 m l), idles_is more (moves three n move) b.1)

-- ---- the stretch

computed : idles start (rounds 8) ≡ true
computed = refl

-- and at the ninth tick a number changes
ninth : idles start (rounds 9) ≡ false
ninth = refl

living_applied : (m : ℕ) → acts_on three start.world m ≡ true → (start.world.members m).applied ≡ (start.world.members m).accepted
living_applied zero e = refl
living_applied (suc zero) e = refl
living_applied (suc (suc zero)) e = refl
living_applied (suc (suc (suc m))) e = let d : suc (suc (suc m)) < 3 = ltb-true (suc (suc (suc m))) 3 (and_parts (nat_lt (suc (suc (suc m))) 3) (start.world.lives (suc (suc (suc m)))) e).0 in absurd (omega arith)

few : count three.nodes (λ m. not (start.world.lives m)) ≤ three.resilience
few = le_refl _

pub worst : Attains three 8
worst = record {
  net = start;
  begins = record { reached = record { events = before; is = refl; sent = λ l i. absurd i }; crashes = few; applied = living_applied };
  list = rounds 8;
  idle = idles_is (rounds 8) start computed;
  has = refl;
}
