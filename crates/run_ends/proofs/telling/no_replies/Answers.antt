use Rattle.std.proofs.Common.{map, arith}
use Rattle.run_ends.proofs.Books.{hear_first}
use Rattle.run_ends.proofs.telling.no_replies.Goals as goal

pub returns : goal.returns
returns g c w is = hear_first g.P.OneRun.run.frame w c.processes._process (map (λ v. v.items) c.processes.replies.items) c.processes.invariant (omega (arith, c.processes-test.false, c.processes.auto._process-end, c.process_count-process-end.ensures w is))
