-- Operators (docs/LANGUAGE.md, Operators): what each gives, and its fault.
use Rattle.std.specs.Prelude.{ℕ, ℤ, pos, Bool, false, not, List, nat_le, if◌then◌else◌, Result, Ok, Err}
use Rattle.std.specs.Ordering.{is_eq, is_lt, is_gt}
use Rattle.orca_base.specs.declared.fault.FaultKind.{FaultKind}
use Rattle.orca_base.specs.declared.fault.FaultKind.TheVariants.{TooLarge}
use Rattle.orca_base.specs.declared.limits.TheConstants.{VALUE_SIZE}
use Rattle.orca_tree.specs.declared.tree.Operator.{Operator}
use Rattle.orca_tree.specs.declared.tree.Operator.TheVariants as op
use Rattle.value_core.specs.Datum.{Datum, Data}
use Rattle.value_core.specs.Datum as datum
use Rattle.value_core.specs.Order.{datum_cmp}
use Rattle.value_core.specs.Size.{size_of, size_of_all}
use Rattle.value_core.specs.History.{string_in}
use Rattle.value_ops.specs.Integers.{sum_of, difference_of, product_of, quotient_of, remainder_of}
use Rattle.value_ops.specs.Texts.{joined}
use Rattle.value_ops.specs.Elements.{elements, has}

-- a value, or a fault, and what comes behind the value
abbrev pub and_then : {A B : Type 0} → Result A FaultKind → (A → Result B FaultKind) → Result B FaultKind
and_then (Ok x) next = next x
and_then (Err fault) next = Err fault

-- ---- values of a type, and values as results; of a value of another type nothing is said that counts

abbrev pub integer_in : Datum → ℤ
integer_in (datum.int z) = z
integer_in v = pos 0

abbrev pub truth_in : Datum → Bool
truth_in (datum.truth b) = b
truth_in v = false

abbrev pub of_integer : Result ℤ FaultKind → Result Datum FaultKind
of_integer (Ok z) = Ok (datum.int z)
of_integer (Err fault) = Err fault

abbrev pub of_string : Result (List ℕ) FaultKind → Result Datum FaultKind
of_string (Ok s) = Ok (datum.text s)
of_string (Err fault) = Err fault

abbrev pub of_truth : Bool → Result Datum FaultKind
of_truth b = Ok (datum.truth b)

-- ---- operators between two operands

-- whether the left operand alone decides: of `or` a true one, of `and` a false one
abbrev pub decides : Operator → Datum → Bool
decides op.Or left = truth_in left
decides op.And left = not (truth_in left)
decides _ left = false

-- what an operator gives of both operands; where the left one of `or` or `and` decides nothing, the right one is the value
abbrev pub applied : Operator → Datum → Datum → Result Datum FaultKind
applied op.Or left right = Ok right
applied op.And left right = Ok right
applied op.Equal left right = of_truth (is_eq (datum_cmp left right))
applied op.Different left right = of_truth (not (is_eq (datum_cmp left right)))
applied op.Less left right = of_truth (is_lt (datum_cmp left right))
applied op.AtMost left right = of_truth (not (is_gt (datum_cmp left right)))
applied op.Greater left right = of_truth (is_gt (datum_cmp left right))
applied op.AtLeast left right = of_truth (not (is_lt (datum_cmp left right)))
applied op.In left right = of_truth (has left (elements right))
applied op.Join left right = of_string (joined (string_in left) (string_in right))
applied op.Add left right = of_integer (sum_of (integer_in left) (integer_in right))
applied op.Subtract left right = of_integer (difference_of (integer_in left) (integer_in right))
applied op.Multiply left right = of_integer (product_of (integer_in left) (integer_in right))
applied op.Divide left right = of_integer (quotient_of (integer_in left) (integer_in right))
applied op.Remainder left right = of_integer (remainder_of (integer_in left) (integer_in right))

-- ---- sizes

-- a value, where it is no larger than a variable may hold
abbrev pub fitting : Datum → Result Datum FaultKind
fitting v = if nat_le (size_of v) VALUE_SIZE then Ok v else Err TooLarge

-- the arguments of one call or fork, where they are no larger together
abbrev pub fitting_all : Data → Result Data FaultKind
fitting_all vs = if nat_le (size_of_all vs) VALUE_SIZE then Ok vs else Err TooLarge
