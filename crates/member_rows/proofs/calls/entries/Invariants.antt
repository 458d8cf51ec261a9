use Rattle.member_rows.specs.Tested.{IsTested}
use Rattle.member_rows.proofs.calls.entries.Given as goal

abbrev pub invariant-entries : goal.invariant-entries
invariant-entries l = IsTested l.member
