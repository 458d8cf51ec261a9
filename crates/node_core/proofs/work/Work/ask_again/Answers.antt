use Rattle.std.proofs.Common.{◌+◌, arith}
use Rattle.node_core.proofs.Sending.{asks_all, asks_more, asks_outside}
use Rattle.node_core.proofs.Keeping.{keeps_none, keeps_on}
use Rattle.node_core.proofs.work.Work.ask_again.Goals as goal

pub returns-then-is_outside-clause-does : goal.returns-then-is_outside-clause-does
returns-then-is_outside-clause-does g c = asks_outside g.P.OneRun.stood g.P.OneRun.left c.is_outside.result c.args.self.now c.is_outside.ensures c.if-is_outside.true

pub processes-init : goal.processes-init
processes-init g c = ((λ f m v work. work), keeps_none _ _)

pub processes-preserved : goal.processes-preserved
processes-preserved g c = (
  asks_more g.P.OneRun.stood g.P.OneRun.left c.processes.process (c.processes.process + 1) c.args.self.now c.processes.self c.ask_of.new.self (omega arith) c.processes.invariant.0
      (c.in_ok-ask_of.ensures {u = tt}).does,
  keeps_on _ _ _ c.processes.invariant.1 (c.in_ok-ask_of.ensures {u = tt}).tasks,
)

pub returns-clause-does : goal.returns-clause-does
returns-clause-does g c =
    let counted = c.processes-process-end.ensures.processes in
    let over = c.processes-test.false in
    let within = c.processes.auto.process-end in
    asks_all g.P.OneRun.stood g.P.OneRun.left c.processes.process c.is_outside.result c.args.self.now c.processes.self (omega (arith, counted, over, within)) c.is_outside.ensures
    c.if-is_outside.false c.processes.invariant.0

pub returns-then-is_outside-clause-tasks : goal.returns-then-is_outside-clause-tasks
returns-then-is_outside-clause-tasks g c = keeps_none _ _

pub returns-clause-tasks : goal.returns-clause-tasks
returns-clause-tasks g c = c.processes.invariant.1
