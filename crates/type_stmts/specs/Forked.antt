-- What is forked, by reference.
use Rattle.type_rules.specs.Statements as rules
use Rattle.type_stmts.specs.declared.forks.ProcessCallee.{ProcessCallee}
use Rattle.type_stmts.specs.declared.forks.ProcessCallee.TheVariants as forked

abbrev pub forked_as : ProcessCallee → rules.Forked
forked_as forked.Unknown = rules.Unknown
forked_as forked.NoProcess = rules.NoProcess
forked_as (forked.AProcess s) = rules.AProcess s.now
