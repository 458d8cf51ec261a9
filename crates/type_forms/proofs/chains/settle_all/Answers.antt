use Rattle.std.proofs.Common.{◌≡◌, ℕ, ◌<◌, ◌≤◌, ◌+◌, Bool, true, false, ◌||◌, List, Option, length, ◌⊎◌, inl, inr, refl, sym, ap, subst, ◌∙◌, arith}
use Rattle.std.proofs.lemmas.Bool.{cases_eq, true≢false}
use Rattle.link_rules.specs.Units.{Source}
use Rattle.type_rules.specs.declared.names.Chain.{Chain}
use Rattle.type_forms.specs.Chains.{IsStuck, unknown_count}
use Rattle.type_forms.proofs.chains.settle_all.Goals as goal

-- a name more: as many are unknown as before, or fewer
at_most : (one : Bool) (new old all : ℕ) → (one ≡ true → new < old) → (one ≡ false → new ≡ old) → old ≤ all → new ≤ all
at_most true new old all less same le = let l = less refl in omega (arith, l, le)
at_most false new old all less same le = let e = same refl in omega (arith, e, le)

fewer : (more one : Bool) (new old all : ℕ) → (one ≡ true → new < old) → (one ≡ false → new ≡ old) → old ≤ all → (more ≡ true → old < all) → (more || one) ≡ true → new < all
fewer more true new old all less same le before both = let l = less refl in omega (arith, l, le)
fewer true false new old all less same le before both = let e = same refl in let b = before refl in omega (arith, e, b)
fewer false false new old all less same le before both = absurd (true≢false (sym both))

neither : (more one : Bool) → (more || one) ≡ false → (more ≡ false) × (one ≡ false)
neither true one e = absurd (true≢false e)
neither false one e = (refl, e)

-- of the names up to this one each is stuck
stuck_more : (us : List Source) (new old : List (Option Chain)) (number i : ℕ) → new ≡ old → (i < number → i < length old → IsStuck us old i) →
    (number < length new → IsStuck us new number) → i < number + 1 → i < length new → IsStuck us new i
stuck_more us new old number i same before this lt inside = by_place (cases_eq i number)
  where
    by_place : (i ≡ number) ⊎ (i ≡ number → ⊥) → IsStuck us new i
    by_place (inl e) = subst (λ (v : ℕ). IsStuck us new v) (sym e) (this (omega (arith, inside, e)))
    by_place (inr apart) =
        subst (λ (m : List (Option Chain)). IsStuck us m i) (sym same)
        (before (omega (arith, lt, apart)) (subst (λ (m : List (Option Chain)). i < length m) same inside))

pub numbers-preserved : goal.numbers-preserved
numbers-preserved c =
    let inv = c.numbers.invariant in
    let e = c.settle_one-one.ensures in
    let one = c.settle_one-one.result in
    let new = unknown_count c.settle_one-one.new.memo.items in
    let old = unknown_count c.numbers.memo.items in
    let all = unknown_count c.args.memo.now.items in (
      (λ us x r. e.right us x (inv.0 us x r)),
      at_most one new old all e.fewer (λ f. ap unknown_count (e.same f)) inv.1,
      (λ both. fewer c.numbers.more one new old all e.fewer (λ f. ap unknown_count (e.same f)) inv.1 inv.2 (sym c.either-more.ensures ∙ both)),
      e.long ∙ inv.3,
      (λ us x both i lt inside.
          let n = neither c.numbers.more one (sym c.either-more.ensures ∙ both) in
          stuck_more us c.settle_one-one.new.memo.items c.numbers.memo.items c.numbers.number i (e.same n.1) (inv.4 us x n.0 i) (e.stuck us x n.1) lt inside),
    )

pub returns-clause-stuck : goal.returns-clause-stuck
returns-clause-stuck c = λ us x none i lt. c.numbers.invariant.4 us x none i (let long = c.numbers.invariant.3 in let end = c.numbers-test.false in let count = c.len-number-end.ensures in omega (arith, lt, long, end, count)) lt
