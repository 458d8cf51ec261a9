use Rattle.std.proofs.Common.{ap}
use Rattle.value_core.specs.declared.meaning.Tried.TheVariants as tried
use Rattle.code_steps.specs.Bodies.{config_of, effect_in}
use Rattle.code_runs.specs.Attempts.{attempt_seen}
use Rattle.code_runs.specs.Runs.{ends_with}
use Rattle.code_runs.proofs.Halting.{tried_else, tried_ended}
use Rattle.code_runs.proofs.attempts.Attempt.tried.Goals as goal

pub returns-in-Ends : goal.returns-in-Ends
returns-in-Ends c = λ small.
    tried_ended (attempt_seen c.args.self) c.args.guard c.guard_number-number.result c.args.effect (config_of c.args.config) c.in-Ends.value c.in_ok-fields-in-Ends.field-0 c.reply_of.result c.in-Ends.is
    c.guard_number-number.ensures small (c.in_ok-fields-in-Ends.ensures {u = tt}) c.reply_of.ensures

pub returns-in-Fails : goal.returns-in-Fails
returns-in-Fails c = λ small.
    let a = attempt_seen c.args.self in
    let n = small (tried.Broke c.args.guard c.in-Fails.fault) (ap (λ e. ends_with a c.args.guard (effect_in e (config_of c.args.config))) c.in-Fails.is) in
    rw c.in-Fails.is (ap (λ g. tried.Broke g c.in-Fails.fault) (c.guard_number-number.ensures n))

pub returns : goal.returns
returns c = tried_else (attempt_seen c.args.self) c.args.guard c.guard_number-number.result c.args.effect (config_of c.args.config) c.in_default.not-Ends c.in_default.not-Fails c.in_default.not-Blocks c.guard_number-number.ensures
