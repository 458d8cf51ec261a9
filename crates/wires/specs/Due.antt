-- When acts are due.
use Rattle.std.specs.Prelude.{◌≡◌, ℕ, ◌+◌, ◌<◌, ◌≤◌, List, Some, None}
use Rattle.std.specs.List.{AllByRecursion, position_from}
use Rattle.net_rules.specs.declared.asked.Asked.{Asked}
use Rattle.net_rules.specs.declared.line.Kinds.TheVariants.{Any}
use Rattle.net_rules.specs.declared.line.ScriptLine.{ScriptLine}
use Rattle.net_rules.specs.declared.line.ScriptLine.TheVariants.{Fate, Act, Seed}
use Rattle.net_rules.specs.Asked.{count}
use Rattle.net_rules.specs.Script.{is_due}
use Rattle.wires.specs.declared.progress.Due.{Due}
use Rattle.wires.specs.declared.progress.Due.TheVariants.{Now, NotBefore}

-- as many packets are wanting for the act as for so many in all, or more
abbrev pub IsFar : List Asked → ℕ → ScriptLine → Type 0
IsFar asked packets (Fate kinds which fate) = Unit {0}
IsFar asked packets (Act kinds number act) = packets + count kinds asked ≤ number + count Any asked
IsFar asked packets (Seed seed percent) = Unit {0}

-- the place is one of so many
abbrev pub IsWithin : ℕ → Due → Type 0
IsWithin len (Now place) = place < len
IsWithin len (NotBefore packets) = Unit {0}

-- the first act that is due, or none is before so many packets
abbrev pub IsDue : List Asked → List ScriptLine → Due → Type 0
IsDue asked acts (Now place) = position_from (is_due asked) 0 acts ≡ Some place
IsDue asked acts (NotBefore packets) = (position_from (is_due asked) 0 acts ≡ None) × AllByRecursion (IsFar asked packets) acts
