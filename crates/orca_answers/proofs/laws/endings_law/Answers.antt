use Rattle.command_files.specs.Stopped.{StoppedAt}
use Rattle.orca_answers.proofs.EndingsOnce.{chosen_told, ending_apart, ending_once, ending_quiet, named_once, program_read, read_once}
use Rattle.orca_answers.proofs.MadeOnce.{made_once, made_unended, made_unnamed}
use Rattle.orca_answers.proofs.laws.endings_law.Goals as goal

pub returns-clause-once : goal.returns-clause-once
returns-clause-once c = λ policy words files old new was now one two a b asked other h k. ending_once c.names_law.ensures.tables policy words files old new was now one two a b asked other h k

pub returns-clause-apart : goal.returns-clause-apart
returns-clause-apart c = λ policy words files was now old new units lines one a asked h named. ending_apart policy words files was now old new units lines one a asked h named

pub returns-clause-chosen : goal.returns-clause-chosen
returns-clause-chosen c = λ policy words files old new nodes names units one a told asked program ending.
    chosen_told policy words files old new nodes names units asked program one a told ending

pub returns-clause-named : goal.returns-clause-named
returns-clause-named c = λ words files old new was now units others lines more one two. named_once words files old new was now units others lines more one two

pub returns-clause-read : goal.returns-clause-read
returns-clause-read c = λ words told other old new units others lines more one two. read_once words told other old new units others lines more one two

pub returns-clause-program : goal.returns-clause-program
returns-clause-program c = λ told other old new names units others one two. program_read told other old new names units others one two

pub returns-clause-quiet : goal.returns-clause-quiet
returns-clause-quiet c = λ policy words told before now old new one a asked never h. ending_quiet policy words told old new (StoppedAt before now old new) never one a asked h

pub returns-clause-made : goal.returns-clause-made
returns-clause-made c = λ words old new was now units others lines more one two. made_once words old new was now units others lines more one two

pub returns-clause-alone : goal.returns-clause-alone
returns-clause-alone c = λ policy words told other before after old new was now units others lines more one a asked made. (
  λ ending. made_unended words old new units lines made policy told was now (StoppedAt before after was now) one a asked ending,
  λ named. made_unnamed words old new units lines made other was now others more named,
)
