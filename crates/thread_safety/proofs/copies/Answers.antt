use denote.Param.Send.{sendable}
use Rattle.thread_safety.proofs.CopiesCross.{copies_row_send, view_row_send}
use Rattle.thread_safety.proofs.copies.Goals as goal

pub may_be_sent-requires-send-T : goal.may_be_sent-requires-send-T
may_be_sent-requires-send-T c κs = search (copies_row_send, sendable) depth 60 fits 20000

pub may_be_sent-requires-2-send-T : goal.may_be_sent-requires-2-send-T
may_be_sent-requires-2-send-T c κs = search (view_row_send, sendable) depth 60 fits 20000
