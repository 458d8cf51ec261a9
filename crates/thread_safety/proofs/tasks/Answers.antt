use denote.Exit.{no}
use denote.Param.{param}
use denote.Param.Send.{arg_send, param_send}
use Rattle.thread_safety.proofs.TasksCross.{done_send, task_send}
use Rattle.thread_safety.proofs.tasks.Goals as goal

pub may_be_sent-requires-send-T : goal.may_be_sent-requires-send-T
may_be_sent-requires-send-T g c κs within =
    param_send 0 _ (arg_send _ no _ (task_send (param 0 g.row.P) _ g.P.OneRun g.P.Processor g.P.Performer c.type_bounds.send-P-State c.type_bounds.sync-P-State))

pub may_be_sent-requires-2-send-T : goal.may_be_sent-requires-2-send-T
may_be_sent-requires-2-send-T g c κs within =
    param_send 0 _ (arg_send _ no _ (done_send (param 0 g.row.P) _ g.P.OneRun g.P.Processor g.P.Performer c.type_bounds.send-P-State c.type_bounds.sync-P-State))

pub returns-clause-task : goal.returns-clause-task
returns-clause-task g c = task_send (param 0 g.row.P) _ g.P.OneRun g.P.Processor g.P.Performer c.type_bounds.send-P-State c.type_bounds.sync-P-State

pub returns-clause-done : goal.returns-clause-done
returns-clause-done g c = done_send (param 0 g.row.P) _ g.P.OneRun g.P.Processor g.P.Performer c.type_bounds.send-P-State c.type_bounds.sync-P-State
