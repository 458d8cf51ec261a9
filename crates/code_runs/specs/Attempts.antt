-- A try, in the definitions' words.
use Rattle.code_rules.specs.Performing as rules
use Rattle.code_rules.specs.Performing.{attempt_of}
use Rattle.emitted_code.specs.Views.{body_seen}
use Rattle.code_steps.specs.Bodies.{number_of}
use Rattle.code_runs.specs.declared.attempts.Attempt.{Attempt}

abbrev pub attempt_seen : Attempt → rules.Attempt
attempt_seen a = attempt_of (number_of a.body) (body_seen a.part.now) a.state.now a.args.now
