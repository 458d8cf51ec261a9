use Rattle.history_check.proofs.Agreeing.{one_verdict, steps_agree}
use Rattle.history_check.proofs.verdict.verdict_law.Goals as goal

pub returns-clause-once : goal.returns-clause-once
returns-clause-once c = one_verdict

pub returns-clause-steps : goal.returns-clause-steps
returns-clause-steps c = steps_agree
