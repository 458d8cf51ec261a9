-- What answers by the kinds of packets alone answers by its rule.
use Rattle.std.proofs.Common.{ℕ, ◌≤◌, List, [], ◌∷◌, length}
use Rattle.net_rules.specs.declared.asked.Asked.{Asked}
use Rattle.net_rules.specs.declared.asked.Asked.TheVariants.{Packet, Act}
use Rattle.net_rules.specs.Answered.{Answered, AnsweredBehind, Answers, IsAnswer}
use Rattle.wires.specs.Wired.{AreSoBehind, IsSo, by_kind}

one_so : (answers : Answers) (before : List Asked) (one : Asked) → IsAnswer answers before one → IsSo (by_kind answers) before one
one_so answers before (Packet question fate) h = h
one_so answers before (Act event_number act) h = h

pub so_behind : (first : ℕ) (answers : Answers) (asked : List Asked) → AnsweredBehind first answers asked → AreSoBehind first (by_kind answers) asked
so_behind first answers [] h = tt
so_behind first answers (one ∷ before) h = (λ late. one_so answers before one (h.0 late), so_behind first answers before h.1)

-- what answers so always does behind any number of questions
pub so_always : (first : ℕ) (answers : Answers) (asked : List Asked) → Answered answers asked → AreSoBehind first (by_kind answers) asked
so_always first answers [] h = tt
so_always first answers (one ∷ before) h = (λ _. one_so answers before one h.0, so_always first answers before h.1)
