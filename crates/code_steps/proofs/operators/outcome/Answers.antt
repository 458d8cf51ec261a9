use Rattle.std.proofs.Common.{ap}
use Rattle.meaning_rules.specs.States.{gives}
use Rattle.code_steps.proofs.operators.outcome.Goals as goal

pub returns-in-Some : goal.returns-in-Some
returns-in-Some c = λ s. ap (λ r. gives r s) (c.in-Some.ensures {u = tt})
