use denote.Param.Send.{sendable}
use Rattle.thread_safety.proofs.CopiesCross.{objects_send, objects_sync}
use Rattle.thread_safety.proofs.objects.Goals as goal

pub may_be_sent-requires-send-T : goal.may_be_sent-requires-send-T
may_be_sent-requires-send-T c κs = search (objects_send, sendable) depth 60 fits 20000

pub may_be_shared-requires-sync-T : goal.may_be_shared-requires-sync-T
may_be_shared-requires-sync-T c κs = search (objects_sync, sendable) depth 60 fits 20000
