use denote.Exit.{no}
use denote.Param.Send.{arg_send, param_send}
use Rattle.thread_safety.proofs.NodesCross.{node_row_send}
use Rattle.thread_safety.proofs.nodes.Goals as goal

pub may_be_sent-requires-send-T : goal.may_be_sent-requires-send-T
may_be_sent-requires-send-T g c κs within = param_send 0 _ (arg_send _ no _ (node_row_send _ _ c.type_bounds.send-P-State c.type_bounds.sync-P-State))
