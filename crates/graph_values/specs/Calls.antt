-- Lists of calls on one graph: the names that it gives, and what they say of each name.
use Rattle.std.specs.Prelude.{ℕ, zero, suc, ℤ, pos, ◌+ℤ◌, List, [], ◌∷◌, ◌++◌, Option, Some, None, Result, Ok, Err, option_map, if◌then◌else◌}
use Rattle.std.specs.Ordering.{int_eq}
use Rattle.orca_base.specs.declared.fault.FaultKind.{FaultKind}
use Rattle.value_core.specs.Datum.{Datum}
use Rattle.graph_values.specs.Graphs.{added, assigned, deleted, last_name}

-- a call that may change a graph
pub data Call : Type 0 where
  Add : Datum → Call
  Delete : ℤ → Call
  Set : ℤ → Datum → Call

-- a graph behind a call: after a fault it is as it was
abbrev pub grown : Result (ℤ × Datum) FaultKind → Datum → Datum
grown (Ok x) g = x.1
grown (Err fault) g = g

abbrev pub changed : Result Datum FaultKind → Datum → Datum
changed (Ok h) g = h
changed (Err fault) g = g

abbrev pub after_call : Datum → Call → Datum
after_call g (Add fresh) = grown (added fresh g) g
after_call g (Delete name) = changed (deleted name g) g
after_call g (Set name v) = changed (assigned name v g) g

abbrev pub after_calls : Datum → List Call → Datum
after_calls g [] = g
after_calls g (call ∷ calls) = after_calls (after_call g call) calls

-- the names that calls give
abbrev pub name_of : Result (ℤ × Datum) FaultKind → List ℤ
name_of (Ok x) = x.0 ∷ []
name_of (Err fault) = []

abbrev pub given_by : Datum → Call → List ℤ
given_by g (Add fresh) = name_of (added fresh g)
given_by g call = []

abbrev pub given : Datum → List Call → List ℤ
given g [] = []
given g (call ∷ calls) = given_by g call ++ given (after_call g call) calls

-- so many numbers, from n upwards
abbrev pub upwards : ℕ → ℤ → List ℤ
upwards zero n = []
upwards (suc k) n = n ∷ upwards k (n +ℤ pos 1)

-- what calls say of one name, from what was there and from the next name that will be given: it has the value of the call that
-- gave the name, then those last set, and none where it wasn't given or was deleted
abbrev pub told : ℤ → ℤ → Option Datum → List Call → Option Datum
told name next value [] = value
told name next value (Add fresh ∷ calls) = if int_eq next last_name then told name next value calls
    else told name (next +ℤ pos 1) (if int_eq next name then Some fresh else value) calls
told name next value (Delete other ∷ calls) = told name next (if int_eq other name then None else value) calls
told name next value (Set other v ∷ calls) = told name next (if int_eq other name then option_map (λ _. v) value else value) calls
