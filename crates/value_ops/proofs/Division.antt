-- What a quotient and a remainder are, and where there is none.
use Rattle.std.proofs.Common.{◌≡◌, ◌↔◌, ℕ, zero, suc, ◌<◌, ◌≤◌, ◌^◌, ◌/◌, ◌%◌, Bool, true, false, cond, ℤ, pos, negsuc, Ok, Err, ◌⊎◌, inl, inr, refl, ap, sym, ◌∙◌, subst, arith}
use Rattle.std.specs.Int.{w64}
use Rattle.std.specs.Prelude.{FitsSigned, ◌≤ℤ◌, ◌==◌, nat_lt, neg_ℤ, int_div, int_rem, unsigned_abs, ◌+ℤ◌, ◌*ℤ◌}
use Rattle.std.proofs.Math.Nat.{div-le_self, div-lt_self}
use Rattle.std.proofs.lemmas.Bool.Decides.{nat_tests}
use Rattle.std.proofs.lemmas.Int.{ints, quot-rem, rem_below}
use Rattle.orca_base.specs.declared.fault.FaultKind.{FaultKind}
use Rattle.orca_base.specs.declared.fault.FaultKind.TheVariants.{DivideByZero, Overflow}
use Rattle.value_ops.specs.Integers.{IsDivision, Outcome, fitted, is_word, quotient_of, remainder_of}

divisor : (b : Bool) (o : Outcome) (q : ℤ) → cond b (Err DivideByZero) o ≡ Ok q → (b ≡ false) × (o ≡ Ok q)
divisor true o q h = absurd cc
divisor false o q h = (refl, h)

chosen : (b : Bool) (z q : ℤ) → cond {A = Outcome} b (Ok z) (Err Overflow) ≡ Ok q → z ≡ q
chosen true z q h = cc
chosen false z q h = absurd cc

not_zero : (n : ℕ) → (n == 0) ≡ false → 0 < n
not_zero n h = grind (arith, nat_tests)

sign_kept : (x y : ℤ) → pos 0 ≤ℤ x → pos 0 ≤ℤ int_rem x y
sign_kept (pos a) y h = omega (arith, ints)
sign_kept (negsuc a) y h = absurd (omega (arith, ints))

negated : (k : ℕ) → neg_ℤ (pos k) ≤ℤ pos 0
negated zero = omega (arith, ints)
negated (suc k) = omega (arith, ints)

nothing_left : (n : ℕ) → 0 % n ≡ 0
nothing_left zero = refl
nothing_left (suc n) = omega arith

sign_kept_below : (x y : ℤ) → x ≤ℤ pos 0 → int_rem x y ≤ℤ pos 0
sign_kept_below (pos zero) y h = subst (λ n. pos n ≤ℤ pos 0) (sym (nothing_left (unsigned_abs y))) (omega (arith, ints))
sign_kept_below (pos (suc a)) y h = absurd (omega (arith, ints))
sign_kept_below (negsuc a) y h = negated (suc a % unsigned_abs y)

pub divides : (x y q r : ℤ) → quotient_of x y ≡ Ok q → remainder_of x y ≡ Ok r → IsDivision x y q r
divides x y q r h k =
    let by = divisor (unsigned_abs y == 0) (fitted (int_div x y)) q h in
    let left = divisor (unsigned_abs y == 0) (cond (is_word (int_div x y)) (Ok (int_rem x y)) (Err Overflow)) r k in
    let quotient : int_div x y ≡ q = chosen (is_word (int_div x y)) (int_div x y) q by.1 in
    let rest : int_rem x y ≡ r = chosen (is_word (int_div x y)) (int_rem x y) r left.1 in
    record {
      whole = ap (λ z. (z *ℤ y) +ℤ r) (sym quotient) ∙ ap (λ z. (int_div x y *ℤ y) +ℤ z) (sym rest) ∙ quot-rem x y;
      nearer = subst (λ z. unsigned_abs z < unsigned_abs y) rest (rem_below x y (not_zero (unsigned_abs y) by.0));
      not_negative = λ up. subst (λ z. pos 0 ≤ℤ z) rest (sign_kept x y up);
      not_positive = λ down. subst (λ z. z ≤ℤ pos 0) rest (sign_kept_below x y down);
    }

-- the quotient of 64 bits that doesn't fit them is that of the least integer by -1
at_least : (n m : ℕ) → nat_lt n m ≡ false → m ≤ n
at_least n m h = grind (arith, nat_tests)

far_below : (k : ℕ) → is_word (neg_ℤ (pos k)) ≡ false → 2 ^ 63 < k
far_below zero h = absurd cc
far_below (suc k) h = omega (arith, at_least k (2 ^ 63) h)

least_by : (a b : ℕ) → a < 2 ^ 63 → 2 ^ 63 ≤ suc a / suc b → (a ≡ 9223372036854775807) × (b ≡ 0)
least_by a zero low h = (omega (arith, low, h, div-le_self (suc a) 1), refl)
least_by a (suc b) low h =
    let under : suc a / suc (suc b) < suc a = div-lt_self {n = suc a} {k = suc (suc b)} (omega arith) (omega arith) in
    absurd (omega (arith, low, h, under))

pub least_over : (x y : ℤ) → FitsSigned w64 x → is_word (int_div x y) ≡ false → (x ≡ negsuc 9223372036854775807) × (y ≡ negsuc 0)
least_over (pos a) (pos b) fits h = absurd (omega (arith, fits.sfits, at_least (a / b) (2 ^ 63) h, div-le_self a b))
least_over (pos a) (negsuc b) fits h = absurd (omega (arith, fits.sfits, far_below (a / suc b) h, div-le_self a (suc b)))
least_over (negsuc a) (pos b) fits h = absurd (omega (arith, fits.sfits, far_below (suc a / b) h, div-le_self (suc a) b))
least_over (negsuc a) (negsuc b) fits h =
    let is = least_by a b fits.sfits (at_least (suc a / suc b) (2 ^ 63) h) in
    (ap negsuc is.0, ap negsuc is.1)

-- the fault of a division
over : (b : Bool) (o : Outcome) → cond b (Err DivideByZero) o ≡ Err Overflow → o ≡ Err Overflow
over true o h = absurd cc
over false o h = h

unfit : (b : Bool) (z : ℤ) → cond {A = Outcome} b (Ok z) (Err Overflow) ≡ Err Overflow → b ≡ false
unfit true z h = absurd cc
unfit false z h = refl

pub quotient_over : (x y : ℤ) → FitsSigned w64 x → (quotient_of x y ≡ Err Overflow) ↔ ((x ≡ negsuc 9223372036854775807) × (y ≡ negsuc 0))
quotient_over x y fits = (
  λ h. least_over x y fits (unfit (is_word (int_div x y)) (int_div x y) (over (unsigned_abs y == 0) (fitted (int_div x y)) h)),
  λ h. ap (λ z. quotient_of z y) h.0 ∙ ap (quotient_of (negsuc 9223372036854775807)) h.1,
)

pub remainder_over : (x y : ℤ) → FitsSigned w64 x → (remainder_of x y ≡ Err Overflow) ↔ ((x ≡ negsuc 9223372036854775807) × (y ≡ negsuc 0))
remainder_over x y fits = (
  λ h. least_over x y fits
      (unfit (is_word (int_div x y)) (int_rem x y) (over (unsigned_abs y == 0) (cond (is_word (int_div x y)) (Ok (int_rem x y)) (Err Overflow)) h)),
  λ h. ap (λ z. remainder_of z y) h.0 ∙ ap (remainder_of (negsuc 9223372036854775807)) h.1,
)

-- there is no third fault
two_faults : (b c : Bool) (z : ℤ) (fault : FaultKind) → cond {A = Outcome} b (Err DivideByZero) (cond c (Ok z) (Err Overflow)) ≡ Err fault → (fault ≡ Overflow) ⊎ (fault ≡ DivideByZero)
two_faults true c z fault h = inr cc
two_faults false true z fault h = absurd cc
two_faults false false z fault h = inl cc

pub quotient_faults : (x y : ℤ) (fault : FaultKind) → quotient_of x y ≡ Err fault → (fault ≡ Overflow) ⊎ (fault ≡ DivideByZero)
quotient_faults x y fault h = two_faults (unsigned_abs y == 0) (is_word (int_div x y)) (int_div x y) fault h

pub remainder_faults : (x y : ℤ) (fault : FaultKind) → remainder_of x y ≡ Err fault → (fault ≡ Overflow) ⊎ (fault ≡ DivideByZero)
remainder_faults x y fault h = two_faults (unsigned_abs y == 0) (is_word (int_div x y)) (int_rem x y) fault h
