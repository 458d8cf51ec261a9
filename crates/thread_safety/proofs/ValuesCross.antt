-- Values, and what is made of them: of values, which hold values, the check's own lemmas say it, and of the rest their fields do.
use denote.Param.Send.{IsSend, IsSync, sendable}
use Rattle.std.proofs.Crossing.{crosses}
use Rattle.value_core.proofs.value.BoxedParts.TheLaws.TheKnot.{crosses as knot_crosses}
use Rattle.value_core.specs.contracts.action.Action as Action
use Rattle.value_core.specs.contracts.action.Instance as Instance
use Rattle.value_core.specs.contracts.action.Line as Line
use Rattle.value_core.specs.contracts.action.Reply as Reply
use Rattle.value_core.specs.contracts.message.Message as Message
use Rattle.value_core.specs.contracts.value.Parts as Parts

pub parts_send : IsSend Parts.the_field.row
parts_send = search (crosses, knot_crosses, sendable) depth 60 fits 20000

pub parts_sync : IsSync Parts.the_field.row
parts_sync = search (crosses, knot_crosses, sendable) depth 60 fits 20000

pub action_send : IsSend Action.the_field.row
action_send = search (parts_send, crosses, knot_crosses, sendable) depth 60 fits 20000

pub action_sync : IsSync Action.the_field.row
action_sync = search (parts_sync, crosses, knot_crosses, sendable) depth 60 fits 20000

pub reply_send : IsSend Reply.the_field.row
reply_send = search (crosses, knot_crosses, sendable) depth 60 fits 20000

pub reply_sync : IsSync Reply.the_field.row
reply_sync = search (crosses, knot_crosses, sendable) depth 60 fits 20000

pub instance_send : IsSend Instance.the_field.row
instance_send = search (parts_send, sendable) depth 60 fits 20000

pub instance_sync : IsSync Instance.the_field.row
instance_sync = search (parts_sync, sendable) depth 60 fits 20000

pub instance_row_send : IsSend Instance.the_row
instance_row_send = search (instance_send, sendable) depth 60 fits 20000

pub instance_row_sync : IsSync Instance.the_row
instance_row_sync = search (instance_sync, sendable) depth 60 fits 20000

pub line_row_send : IsSend Line.the_row
line_row_send = search (action_send, reply_send, sendable) depth 60 fits 20000

pub line_row_sync : IsSync Line.the_row
line_row_sync = search (action_sync, reply_sync, sendable) depth 60 fits 20000

pub message_row_send : IsSend Message.the_row
message_row_send = search (action_send, sendable) depth 60 fits 20000

pub message_row_sync : IsSync Message.the_row
message_row_sync = search (action_sync, sendable) depth 60 fits 20000
