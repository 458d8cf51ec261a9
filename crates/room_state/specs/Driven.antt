-- How a run stands while several do it. Tasks may be out between events, which is nothing to its wires: without them it is driven as a run
-- by one thread is (Driven.antt of run_loop).
use Rattle.std.specs.Prelude.{ℕ, List, [], Option}
use Rattle.net_rules.specs.declared.asked.Asked.{Asked}
use Rattle.net_rules.specs.declared.fate.WireAct.{WireAct}
use Rattle.run_loop.specs.Driven as alone
use Rattle.world_parts.specs.Seen.{Seen}
use Rattle.world_rules.specs.Frame.{Frame}

-- the same run with no task out
abbrev pub without_tasks : {S : Type 0} → Seen S → Seen S
without_tasks s = record { steps = s.steps; out = [] }

-- no wire was asked about an act before the next event yet
abbrev pub IsDriven : {S : Type 0} → Frame → Seen S → ℕ → List (List Asked) → List (List Asked) → Type 0
IsDriven f s in_use old new = alone.IsDriven f (without_tasks s) in_use old new

-- the wire in use was asked about an act before the next event, and gave this
abbrev pub HasAnswered : {S : Type 0} → Frame → Seen S → ℕ → List (List Asked) → List (List Asked) → Option WireAct → Type 0
HasAnswered f s in_use old new answer = alone.HasAnswered f (without_tasks s) in_use old new answer

-- it was asked, and what it gave is nothing, or was passed over
abbrev pub MayGoOn : {S : Type 0} → Frame → Seen S → ℕ → List (List Asked) → List (List Asked) → Type 0
MayGoOn f s in_use old new = alone.MayGoOn f (without_tasks s) in_use old new

-- the run went on by one step
abbrev pub WentOn : {S : Type 0} → Frame → Seen S → Seen S → ℕ → List (List Asked) → List (List Asked) → Type 0
WentOn f before after in_use old new = alone.WentOn f (without_tasks before) (without_tasks after) in_use old new

-- memory lacked in a run that was going
abbrev pub HasStopped : {S : Type 0} → Frame → Seen S → List (List Asked) → List (List Asked) → Type 0
HasStopped f s old new = alone.HasStopped f (without_tasks s) old new
