-- The lowest number of which something is so.
use Rattle.std.proofs.Common.{◌≡◌, ◌<◌, ◌≤◌, ◌+◌, ◌-◌, ◌∙◌, ℕ, zero, suc, Bool, true, false, Option, Some, None, ap, sym, subst, refl, arith}
use Rattle.world_parts.specs.Choosing.{lowest, or_at}

-- it isn't so below the next number either
pub lowest_on : (test : ℕ → Bool) (k next : ℕ) → suc k ≡ next → lowest k test ≡ None → test k ≡ false → lowest next test ≡ None
lowest_on test k next one none fails =
    ap (λ (n : ℕ). lowest n test) (sym one) ∙ ap (λ (b : Bool). or_at k b (lowest k test)) fails ∙ ap (λ (o : Option ℕ). or_at k false o) none

-- it is so of this one, and of none below it
further : (test : ℕ → Bool) (k more n : ℕ) → more + suc k ≡ n → lowest k test ≡ None → test k ≡ true → lowest n test ≡ Some k
further test k zero n is none holds =
    let e : suc k ≡ n = omega (arith, is) in
    subst (λ (m : ℕ). lowest m test ≡ Some k) e
    (ap (λ (b : Bool). or_at k b (lowest k test)) holds ∙ ap (λ (o : Option ℕ). or_at k true o) none)
further test k (suc more) n is none holds =
    let e : suc (more + suc k) ≡ n = omega (arith, is) in
    subst (λ (m : ℕ). lowest m test ≡ Some k) e
    (ap (λ (o : Option ℕ). or_at (more + suc k) (test (more + suc k)) o) (further test k more (more + suc k) refl none holds))

pub lowest_found : (test : ℕ → Bool) (k n : ℕ) → k < n → lowest k test ≡ None → test k ≡ true → Some k ≡ lowest n test
lowest_found test k n lt none holds = sym (further test k (n - suc k) n (omega (arith, lt)) none holds)

-- of none below the last
pub lowest_none : (test : ℕ → Bool) (k n : ℕ) → k ≤ n → n ≤ k → lowest k test ≡ None → None ≡ lowest n test
lowest_none test k n low high none =
    let is : k ≡ n = omega (arith, low, high) in
    sym none ∙ ap (λ (m : ℕ). lowest m test) is
