use Rattle.member_rows.specs.Tested.{IsTested}
use Rattle.member_rows.proofs.rows.member_row.Given as goal

abbrev pub invariant-lines : goal.invariant-lines
invariant-lines l = IsTested l.member
