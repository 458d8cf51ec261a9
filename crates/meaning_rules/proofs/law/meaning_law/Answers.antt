use Rattle.std.proofs.Common.{refl}
use Rattle.meaning_rules.proofs.Answering.{replies_answer}
use Rattle.meaning_rules.proofs.Settling.{is_settled, stays_over, uses_front}
use Rattle.meaning_rules.proofs.ReadsKeeping.{reads_keep}
use Rattle.meaning_rules.proofs.Turning.{counts_turns, takes_turns}
use Rattle.meaning_rules.proofs.law.meaning_law.Goals as goal

pub returns-clause-settled : goal.returns-clause-settled
returns-clause-settled c = is_settled

pub returns-clause-reads : goal.returns-clause-reads
returns-clause-reads c = reads_keep

pub returns-clause-fronts : goal.returns-clause-fronts
returns-clause-fronts c = uses_front

pub returns-clause-over : goal.returns-clause-over
returns-clause-over c = stays_over

pub returns-clause-answers : goal.returns-clause-answers
returns-clause-answers c = replies_answer

pub returns-clause-counts : goal.returns-clause-counts
returns-clause-counts c = counts_turns

pub returns-clause-turns : goal.returns-clause-turns
returns-clause-turns c = takes_turns

pub returns-clause-first : goal.returns-clause-first
returns-clause-first c = λ frame. refl
