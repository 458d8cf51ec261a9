use Rattle.std.proofs.Common.{refl}
use Rattle.clap.proofs.OnLiterals.{clap_on_literals}
use Rattle.command_line.specs.Command.{Command, found_in}
use Rattle.command_line.specs.Rules.{app}
use Rattle.top_tests.proofs.rows.command_rows.Goals as goal

pub returns-clause-check : goal.returns-clause-check
unfolding Command found_in app clap_on_literals
returns-clause-check c = refl

pub returns-clause-run : goal.returns-clause-run
unfolding Command found_in app clap_on_literals
returns-clause-run c = refl

pub returns-clause-code : goal.returns-clause-code
unfolding Command found_in app clap_on_literals
returns-clause-code c = refl

pub returns-clause-noted : goal.returns-clause-noted
unfolding Command found_in app clap_on_literals
returns-clause-noted c = refl

pub returns-clause-choice : goal.returns-clause-choice
unfolding Command found_in app clap_on_literals
returns-clause-choice c = refl

pub returns-clause-replay : goal.returns-clause-replay
unfolding Command found_in app clap_on_literals
returns-clause-replay c = refl

pub returns-clause-make : goal.returns-clause-make
unfolding Command found_in app clap_on_literals
returns-clause-make c = refl

pub returns-clause-join : goal.returns-clause-join
unfolding Command found_in app clap_on_literals
returns-clause-join c = refl
