-- Rounds that change nothing: a table that is the same as the one before, and the rounds behind it.
use Rattle.std.proofs.Common.{◌≡◌, ℕ, zero, suc, ◌+◌, ◌-◌, ◌≤◌, Bool, true, false, ◌&&◌, List, [], ◌∷◌, map, Vec, Global, refl, sym, ap, ◌∙◌, arith}
use Rattle.std.specs.Prelude.{◌==◌}
use Rattle.std.specs.Cmp.Lexicographic.{pointwise, pointwise_decides}
use Rattle.std.proofs.lemmas.Bool.{eqb-true, eq-eqb}
use Rattle.link_rules.specs.Units.{Source}
use Rattle.site_estimates.specs.declared.counts.Counts.{Counts}
use Rattle.estimate_rules.specs.Estimates as estimates

-- ---- tables that compare alike are the same

abbrev pub same_counts : Counts → Counts → Bool
same_counts a b = (a.reads == b.reads) && (a.writes == b.writes)

first : (s t : Bool) → (s && t) ≡ true → s ≡ true
first true t h = refl
first false t h = h

second : (s t : Bool) → (s && t) ≡ true → t ≡ true
second true t h = h
second false t h = cc

both : (s t : Bool) → s ≡ true → t ≡ true → (s && t) ≡ true
both s t h k = ap (λ b. b && t) h ∙ k

counts_decide : (a b : Counts) → (same_counts a b ≡ true → a ≡ b) × (a ≡ b → same_counts a b ≡ true)
counts_decide a b = (
  λ h. let reads = eqb-true a.reads b.reads (first (a.reads == b.reads) (a.writes == b.writes) h) in
      let writes = eqb-true a.writes b.writes (second (a.reads == b.reads) (a.writes == b.writes) h) in
      λ i. record { reads = reads i; writes = writes i },
  λ e. both (a.reads == b.reads) (a.writes == b.writes) (eq-eqb a.reads b.reads (ap (λ (x : Counts). x.reads) e)) (eq-eqb a.writes b.writes (ap (λ (x : Counts). x.writes) e)),
)

pointwise_lists : (xs ys : List (Vec Counts Global)) →
    pointwise (λ x y. pointwise same_counts x.items y.items) xs ys ≡ pointwise (pointwise same_counts) (map (λ l. l.items) xs) (map (λ l. l.items) ys)
pointwise_lists [] [] = refl
pointwise_lists [] (y ∷ ys) = refl
pointwise_lists (x ∷ xs) [] = refl
pointwise_lists (x ∷ xs) (y ∷ ys) = ap (λ b. pointwise same_counts x.items y.items && b) (pointwise_lists xs ys)

pub alike_tables : (xs ys : List (Vec Counts Global)) → pointwise (λ x y. pointwise same_counts x.items y.items) xs ys ≡ true →
    map (λ l. l.items) xs ≡ map (λ l. l.items) ys
alike_tables xs ys e =
    (pointwise_decides (pointwise_decides counts_decide) (map (λ l. l.items) xs) (map (λ l. l.items) ys)).0 (sym (pointwise_lists xs ys) ∙ e)

-- ---- rounds behind one that changes nothing

so_on : (us : List Source) (n k : ℕ) → estimates.rounds us (suc n) ≡ estimates.rounds us n → estimates.rounds us (k + n) ≡ estimates.rounds us n
so_on us n zero e = ap (estimates.rounds us) (omega arith)
so_on us n (suc k) e =
    let next : suc k + n ≡ suc (k + n) = omega arith in
    ap (estimates.rounds us) next ∙ ap (estimates.round us) (so_on us n k e) ∙ e

pub settled : (us : List Source) (n m : ℕ) → n ≤ m → estimates.rounds us (suc n) ≡ estimates.rounds us n → estimates.rounds us m ≡ estimates.rounds us n
settled us n m le e = ap (estimates.rounds us) (omega (arith, le)) ∙ so_on us n (m - n) e
