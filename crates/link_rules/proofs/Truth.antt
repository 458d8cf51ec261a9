-- Truth of conjunctions, alternatives and negations.
use Rattle.std.proofs.Common.{◌≡◌, Bool, true, false, not, ◌&&◌, ◌||◌, refl, sym, ap, ◌∙◌}
use Rattle.std.proofs.lemmas.Bool.{true≢false}

pub and_first : (p q : Bool) → (p && q) ≡ true → p ≡ true
and_first true q e = refl
and_first false q e = e

pub and_second : (p q : Bool) → (p && q) ≡ true → q ≡ true
and_second true q e = e
and_second false q e = absurd (true≢false (sym e))

pub both_true : (p q : Bool) → p ≡ true → q ≡ true → (p && q) ≡ true
both_true p q e f = ap (λ (t : Bool). t && q) e ∙ f

pub not_true : (p : Bool) → (p ≡ true → ⊥) → p ≡ false
not_true true h = absurd (h refl)
not_true false h = refl

pub not_false : (p : Bool) → not p ≡ false → p ≡ true
not_false true e = refl
not_false false e = absurd (true≢false e)

pub or_left : (p q : Bool) → p ≡ true → (p || q) ≡ true
or_left p q e = ap (λ (t : Bool). t || q) e

pub or_right : (p q : Bool) → q ≡ true → (p || q) ≡ true
or_right true q e = refl
or_right false q e = e
