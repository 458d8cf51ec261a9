use Rattle.std.proofs.lemmas.Result.{IfOk-weaker}
use Rattle.emitted_code.specs.Views.{program_seen}
use Rattle.code_steps.proofs.stepping.transfer.Goals as goal

pub returns-in-Result : goal.returns-in-Result
returns-in-Result c = rw c.in-Result.is (IfOk-weaker c.give.result _ _ (λ e h. h (program_seen c.args.code.now)) c.give.ensures)
