use denote.Exit.{no}
use denote.Param.{param}
use denote.Param.Send.{arg_send, param_send}
use Rattle.thread_safety.proofs.WorldsCross.{world_send}
use Rattle.thread_safety.proofs.worlds.Goals as goal

pub may_be_sent-requires-send-T : goal.may_be_sent-requires-send-T
may_be_sent-requires-send-T g c κs within =
    param_send 0 _ (arg_send _ no _ (world_send (param 0 g.row.P) _ g.P.OneRun g.P.Processor g.P.Performer c.type_bounds.send-P-State c.type_bounds.sync-P-State))

pub returns : goal.returns
returns g c = world_send (param 0 g.row.P) _ g.P.OneRun g.P.Processor g.P.Performer c.type_bounds.send-P-State c.type_bounds.sync-P-State
