-- What the operators give on integers of 64 bits, over the integers of mathematics (docs/LANGUAGE.md, Operators).
use Rattle.std.specs.Prelude.{◌^◌, Bool, ℤ, pos, negsuc, ◌+ℤ◌, ◌-ℤ◌, ◌*ℤ◌, neg_ℤ, int_div, int_rem, Result, Ok, Err, nat_lt, ◌==◌, if◌then◌else◌, unsigned_abs, ◌≡◌, ◌<◌, ◌≤ℤ◌}
use Rattle.orca_base.specs.declared.fault.FaultKind.{FaultKind}
use Rattle.orca_base.specs.declared.fault.FaultKind.TheVariants.{Overflow, DivideByZero}

-- an integer, or the fault in its place
abbrev pub Outcome : Type 0
Outcome = Result ℤ FaultKind

-- whether an integer lies from -2^63 up to 2^63 - 1
abbrev pub is_word : ℤ → Bool
is_word (pos n) = nat_lt n (2 ^ 63)
is_word (negsuc n) = nat_lt n (2 ^ 63)

-- an integer where it fits 64 bits
abbrev pub fitted : ℤ → Outcome
fitted z = if is_word z then Ok z else Err Overflow

-- `+`, `-` and `*`
abbrev pub sum_of : ℤ → ℤ → Outcome
sum_of x y = fitted (x +ℤ y)

abbrev pub difference_of : ℤ → ℤ → Outcome
difference_of x y = fitted (x -ℤ y)

abbrev pub product_of : ℤ → ℤ → Outcome
product_of x y = fitted (x *ℤ y)

-- the integer with the other sign
abbrev pub negative_of : ℤ → Outcome
negative_of x = fitted (neg_ℤ x)

-- an outcome where the divisor isn't 0
abbrev pub divided_by : ℤ → Outcome → Outcome
divided_by y outcome = if unsigned_abs y == 0 then Err DivideByZero else outcome

-- `/`, which cuts toward zero
abbrev pub quotient_of : ℤ → ℤ → Outcome
quotient_of x y = divided_by y (fitted (int_div x y))

-- `%`, what `/` leaves, where that fits
abbrev pub remainder_of : ℤ → ℤ → Outcome
remainder_of x y = divided_by y (if is_word (int_div x y) then Ok (int_rem x y) else Err Overflow)

-- x divided by y is q, cut toward zero, and leaves r: q times y and r are x, r is nearer to zero than y, and has the sign of x
pub record IsDivision (x y q r : ℤ) : Type 0 where
  pub whole : (q *ℤ y) +ℤ r ≡ x
  pub nearer : unsigned_abs r < unsigned_abs y
  pub not_negative : pos 0 ≤ℤ x → pos 0 ≤ℤ r
  pub not_positive : x ≤ℤ pos 0 → r ≤ℤ pos 0
