use Rattle.std.proofs.Common.{◌≡◌, ◌+◌, drop, map}
use Rattle.std.specs.Prelude.{nat_le}
use Rattle.orca_base.specs.declared.limits.TheConstants.{VALUE_SIZE}
use Rattle.value_core.specs.Datum.{data_of}
use Rattle.value_core.specs.Size.{size_of_all}
use Rattle.meaning_rules.specs.Calls.{values_in}
use Rattle.frame_variables.specs.Gives.{passed_of}
use Rattle.frame_variables.proofs.sizes.size_of_passed.Given as goal

-- what was counted and what is left fit together where all do
abbrev pub invariant-passed : goal.invariant-passed
invariant-passed l = nat_le (l.size + size_of_all (data_of (values_in (map passed_of (drop l.one-index l.passed))))) VALUE_SIZE
    ≡ nat_le (size_of_all (data_of (values_in (map passed_of l.passed)))) VALUE_SIZE
