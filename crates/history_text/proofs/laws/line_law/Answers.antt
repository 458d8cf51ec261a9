use Rattle.history_text.proofs.LineLaws.{line_prefix}
use Rattle.history_text.proofs.Ascii.{history_ascii}
use Rattle.history_text.proofs.Histories.{one_front, one_history, whole_front}
use Rattle.history_text.proofs.laws.line_law.Goals as goal

pub returns-clause-prefix : goal.returns-clause-prefix
returns-clause-prefix c = λ names one two behind more tables is are same. line_prefix names tables one two behind more is are same

pub returns-clause-history : goal.returns-clause-history
returns-clause-history c = λ names one two tables are is same. one_history names tables one two are is same

pub returns-clause-ascii : goal.returns-clause-ascii
returns-clause-ascii c = λ names lines tables are. history_ascii names tables lines are

pub returns-clause-whole : goal.returns-clause-whole
returns-clause-whole c = λ names lines are. whole_front names lines are

pub returns-clause-once : goal.returns-clause-once
returns-clause-once c = λ names text one two bad worse tables first other. one_front names tables text one two bad worse first other
