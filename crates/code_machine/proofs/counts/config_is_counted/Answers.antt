use Rattle.code_machine.proofs.Waiting.{counted_callers}
use Rattle.code_machine.proofs.counts.config_is_counted.Goals as goal

pub returns-then-is_counted : goal.returns-then-is_counted
returns-then-is_counted c = λ all. (
  c.is_counted.ensures c.if-is_counted.true,
  counted_callers c.args.config.now.callers.items c.deref.result.now c.deref.ensures.value (c.callers_are_counted.ensures all),
)
