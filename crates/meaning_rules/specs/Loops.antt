-- Statements that choose and that repeat (docs/LANGUAGE.md, Statements).
use Rattle.std.specs.Prelude.{ℕ, zero, suc, ◌+◌, ℤ, pos, ◌+ℤ◌, ◌-ℤ◌, nat_abs, int_le, Bool, true, false, ◌∷◌, drop, if◌then◌else◌, Option, Some, None}
use Rattle.value_core.specs.Datum.{Datum}
use Rattle.value_core.specs.Datum as datum
use Rattle.meaning_rules.specs.Operators.{integer_in, truth_in}
use Rattle.meaning_rules.specs.States.{State, Out, Goes, Stops, Busy, after, turn}

-- a statement goes on to the next, or returns, with a value where there is one
pub data Flow : Type 0 where
  On : Flow
  Back : Option Datum → Flow

abbrev pub go_on : Flow → State → (State → Out Flow) → Out Flow
go_on On s next = next s
go_on (Back x) s next = Goes (Back x) s

-- ---- `if`

-- an arm is taken where its test is true, and an `else` always
abbrev pub always : (State → Out Flow) → State → Out (Option Flow)
always body s = after (body s) (λ flow s1. Goes (Some flow) s1)

abbrev pub taken_if : Bool → (State → Out Flow) → State → Out (Option Flow)
taken_if true body s = always body s
taken_if false body s = Goes None s

abbrev pub when : (State → Out Datum) → (State → Out Flow) → State → Out (Option Flow)
when test body s = after (test s) (λ x s1. taken_if (truth_in x) body s1)

-- and those behind it only where it wasn't
abbrev pub otherwise : Option Flow → State → (State → Out Flow) → Out Flow
otherwise None s others = others s
otherwise (Some flow) s others = Goes flow s

-- ---- `while` and `repeat`

-- what a round leaves: the loop is over, goes on, or is left by a `return`
pub data Round : Type 0 where
  Over Again : Round
  Leave : Option Datum → Round

abbrev pub ended : Flow → State → Out Round
ended On s = Goes Again s
ended (Back x) s = Goes (Leave x) s

-- `while`: a turn begins once the test was true
abbrev pub round_if : Bool → (State → Out Flow) → State → Out Round
round_if true body s = after (turn s) (λ _ s1. after (body s1) ended)
round_if false body s = Goes Over s

abbrev pub while_round : (State → Out Datum) → (State → Out Flow) → State → Out Round
while_round test body s = after (test s) (λ x s1. round_if (truth_in x) body s1)

-- `repeat`: a turn begins with each round, and the test stands behind the body
abbrev pub until : (State → Out Datum) → Flow → State → Out Round
until test On s = after (test s) (λ x s1. Goes (if truth_in x then Over else Again) s1)
until test (Back x) s = Goes (Leave x) s

abbrev pub until_round : (State → Out Datum) → (State → Out Flow) → State → Out Round
until_round test body s = after (turn s) (λ _ s1. after (body s1) (until test))

-- rounds, as long as the loop goes on: so many at most, which is more than there are turns
abbrev pub next_round : Round → State → (State → Out Flow) → Out Flow
next_round Over s rounds = Goes On s
next_round Again s rounds = rounds s
next_round (Leave x) s rounds = Goes (Back x) s

unfoldable pub loop : ℕ → (State → Out Round) → State → Out Flow
loop zero round s = Stops Busy
loop (suc k) round s = after (round s) (λ r s1. next_round r s1 (loop k round))

abbrev pub repeated : (State → Out Round) → State → Out Flow
repeated round s = loop (suc s.left) round s

-- ---- `for`

-- with one name more in front of the others, and without it again
abbrev pub with_name : Datum → State → State
with_name x s = record s { frame = x ∷ s.frame }

abbrev pub without_name : State → State
without_name s = record s { frame = drop 1 s.frame }

-- a round: a turn, and the body, which sees the number as the loop's variable
abbrev pub counted_round : ℤ → (State → Out Flow) → State → Out Flow
counted_round i body s = after (turn s) (λ _ s1. after (body (with_name (datum.int i) s1)) (λ flow s2. Goes flow (without_name s2)))

-- so many rounds, counting up
abbrev pub count : ℕ → ℤ → (State → Out Flow) → State → Out Flow
count zero i body s = Goes On s
count (suc n) i body s = after (counted_round i body s) (λ flow s1. go_on flow s1 (count n (i +ℤ pos 1) body))

-- the numbers from a low to a high bound
abbrev pub rounds : ℤ → ℤ → ℕ
rounds low high = if int_le low high then nat_abs (high -ℤ low) + 1 else 0

-- both bounds are evaluated once, the low one first
abbrev pub between : (State → Out Datum) → (State → Out Datum) → (State → Out Flow) → State → Out Flow
between low high body s =
    after (low s) (λ a s1. after (high s1) (λ b s2. count (rounds (integer_in a) (integer_in b)) (integer_in a) body s2))
