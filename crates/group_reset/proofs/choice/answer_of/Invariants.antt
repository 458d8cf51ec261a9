use Rattle.std.proofs.Common.{◌≡◌, ◌<◌, ◌==◌, ℕ, false, get_or}
use Rattle.group_reset.proofs.choice.answer_of.Given as goal

abbrev pub invariant-answers : goal.invariant-answers
invariant-answers g l = (k : ℕ) (d : _) → k < l.answer-index → ((get_or l.answers k d).0 == l.from) ≡ false
