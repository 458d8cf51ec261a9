use Rattle.member_rows.specs.Tested.{IsTested}
use Rattle.member_rows.proofs.calls.submit_all.Given as goal

abbrev pub invariant-calls : goal.invariant-calls
invariant-calls l = IsTested l.member
