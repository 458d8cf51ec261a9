-- How large the place of a byte may be, and that places rise.
use Rattle.std.proofs.Common.{◌≡◌, ℕ, zero, suc, ◌+◌, ◌-◌, ◌<◌, ◌≤◌, Bool, true, false, List, length, take, get_or, not, inl, inr, refl, ap, ◌∙◌, subst, arith, length-take}
use Rattle.std.specs.Prelude.{◌==◌}
use Rattle.std.specs.List.{suffix_len}
use Rattle.std.proofs.lemmas.List.Sums.{count_by_more_no, count_by_more_yes, suffix_len-le-length, suffix_len-take_yes}
use Rattle.orca_base.specs.declared.place.Place.{Place}
use Rattle.orca_lexer.specs.Tokens.{column_of, place_in}
use Rattle.orca_lexer.specs.Order.{StandsBefore}

pub column_within : (text : List ℕ) (n : ℕ) → column_of (take n text) ≤ n + 1
column_within text n = omega (arith, suffix_len-le-length (λ c. not (c == 10)) (take n text), length-take n text)

-- one byte on: the next line, or the next column
one_on : (text : List ℕ) (n : ℕ) → n < length text → StandsBefore (place_in text n) (place_in text (n + 1))
one_on text n within = by_test (get_or text n 0 == 10) refl
  where
    by_test : (b : Bool) → (get_or text n 0 == 10) ≡ b → StandsBefore (place_in text n) (place_in text (n + 1))
    by_test true is = let more = count_by_more_yes (λ c. c == 10) text n 0 within is in inl (omega (arith, more))
    by_test false is =
        let lines = count_by_more_no (λ c. c == 10) text n 0 within is in
        let back : n + 1 - 1 ≡ n = omega arith in
        let plain : not (get_or text (n + 1 - 1) 0 == 10) ≡ true = ap (λ k. not (get_or text k 0 == 10)) back ∙ ap not is in
        let more = suffix_len-take_yes (λ c. not (c == 10)) text (n + 1) 0 (omega arith) (omega arith) plain in
        let same : suffix_len (λ c. not (c == 10)) (take (n + 1 - 1) text) ≡ suffix_len (λ c. not (c == 10)) (take n text) =
        ap (λ k. suffix_len (λ c. not (c == 10)) (take k text)) back in
        inr (omega (arith, lines), omega (arith, more, same))

before_all : (p q r : Place) → StandsBefore p q → StandsBefore q r → StandsBefore p r
before_all p q r (inl a) (inl b) = inl (omega (arith, a, b))
before_all p q r (inl a) (inr b) = inl (omega (arith, a, b.0))
before_all p q r (inr a) (inl b) = inl (omega (arith, a.0, b))
before_all p q r (inr a) (inr b) = inr (a.0 ∙ b.0, omega (arith, a.1, b.1))

so_many_on : (text : List ℕ) (m n k : ℕ) → n ≡ m + suc k → n ≤ length text → StandsBefore (place_in text m) (place_in text n)
so_many_on text m n zero is within =
    let next : m + 1 ≡ n = omega (arith, is) in
    subst (λ (x : ℕ). StandsBefore (place_in text m) (place_in text x)) next (one_on text m (omega (arith, is, within)))
so_many_on text m n (suc k) is within =
    before_all (place_in text m) (place_in text (m + 1)) (place_in text n) (one_on text m (omega (arith, is, within))) (so_many_on text (m + 1) n k (omega (arith, is)) within)

-- a later byte has a later place
pub place_rises : (text : List ℕ) (m n : ℕ) → m < n → n ≤ length text → StandsBefore (place_in text m) (place_in text n)
place_rises text m n less within = so_many_on text m n (n - m - 1) (omega (arith, less)) within
