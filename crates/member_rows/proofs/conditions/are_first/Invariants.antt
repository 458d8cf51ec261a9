use Rattle.std.proofs.Common.{◌<◌, ℕ, get_or}
use Rattle.member_rows.specs.Tested.{IsFirst}
use Rattle.member_rows.proofs.conditions.are_first.Given as goal

abbrev pub invariant-answers : goal.invariant-answers
invariant-answers l = (k : ℕ) (d : _) → k < l.answer-index → IsFirst (get_or l.answers k d).1
