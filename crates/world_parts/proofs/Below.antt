-- Tests of all numbers below one, as a loop comes to know them.
use Rattle.std.proofs.Common.{◌≡◌, ◌<◌, ◌≤◌, ◌+◌, ◌-◌, ◌∙◌, ◌&&◌, ◌||◌, ℕ, zero, suc, Bool, true, false, ap, sym, subst, refl, arith}
use Rattle.world_rules.specs.Standings.{all_below, any_below}

or_right : (a b : Bool) → b ≡ true → (a || b) ≡ true
or_right true b h = refl
or_right false b h = h

and_right : (a b : Bool) → b ≡ false → (a && b) ≡ false
and_right true b h = h
and_right false b h = refl

-- ---- some

-- it is so of none below the next number either
pub any_on : (test : ℕ → Bool) (k next : ℕ) → suc k ≡ next → any_below k test ≡ false → test k ≡ false → any_below next test ≡ false
any_on test k next one none fails =
    subst (λ (n : ℕ). any_below n test ≡ false) one (ap (λ (b : Bool). b || test k) none ∙ fails)

any_further : (test : ℕ → Bool) (k more n : ℕ) → more + suc k ≡ n → test k ≡ true → any_below n test ≡ true
any_further test k zero n is holds =
    let e : suc k ≡ n = omega (arith, is) in
    subst (λ (m : ℕ). any_below m test ≡ true) e (or_right (any_below k test) (test k) holds)
any_further test k (suc more) n is holds =
    let e : suc (more + suc k) ≡ n = omega (arith, is) in
    subst (λ (m : ℕ). any_below m test ≡ true) e
    (ap (λ (b : Bool). b || test (more + suc k)) (any_further test k more (more + suc k) refl holds))

-- it is so of this one
pub any_found : (test : ℕ → Bool) (k n : ℕ) → k < n → test k ≡ true → true ≡ any_below n test
any_found test k n lt holds = sym (any_further test k (n - suc k) n (omega (arith, lt)) holds)

-- of none below the last
pub any_none : (test : ℕ → Bool) (k n : ℕ) → k ≤ n → n ≤ k → any_below k test ≡ false → false ≡ any_below n test
any_none test k n low high none =
    let is : k ≡ n = omega (arith, low, high) in
    sym (subst (λ (m : ℕ). any_below m test ≡ false) is none)

-- ---- all

pub all_on : (test : ℕ → Bool) (k next : ℕ) → suc k ≡ next → all_below k test ≡ true → test k ≡ true → all_below next test ≡ true
all_on test k next one all holds =
    subst (λ (n : ℕ). all_below n test ≡ true) one (ap (λ (b : Bool). b && test k) all ∙ holds)

all_further : (test : ℕ → Bool) (k more n : ℕ) → more + suc k ≡ n → test k ≡ false → all_below n test ≡ false
all_further test k zero n is fails =
    let e : suc k ≡ n = omega (arith, is) in
    subst (λ (m : ℕ). all_below m test ≡ false) e (and_right (all_below k test) (test k) fails)
all_further test k (suc more) n is fails =
    let e : suc (more + suc k) ≡ n = omega (arith, is) in
    subst (λ (m : ℕ). all_below m test ≡ false) e
    (ap (λ (b : Bool). b && test (more + suc k)) (all_further test k more (more + suc k) refl fails))

pub all_failed : (test : ℕ → Bool) (k n : ℕ) → k < n → test k ≡ false → false ≡ all_below n test
all_failed test k n lt fails = sym (all_further test k (n - suc k) n (omega (arith, lt)) fails)

pub all_done : (test : ℕ → Bool) (k n : ℕ) → k ≤ n → n ≤ k → all_below k test ≡ true → true ≡ all_below n test
all_done test k n low high all =
    let is : k ≡ n = omega (arith, low, high) in
    sym (subst (λ (m : ℕ). all_below m test ≡ true) is all)
