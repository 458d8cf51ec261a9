-- Members of a run, put together field by field as tasks are.
use denote.Param.Send.{IsSend, IsSync, recorded_send, sendable, struct_send}
use denote.RattleType.{RattleType}
use denote.Struct.Declared.{shape}
use Rattle.std.proofs.Crossing.{Vec-send, crosses}
use Rattle.std.proofs.option.Option.TheSendSync.{the_send as option_row_send}
use Rattle.group_member.proofs.member.Member.TheSendSync.{the_field_send as member_send}
use Rattle.history_buffer.proofs.shared.Shared.TheSendSync.{the_send as shared_send}
use Rattle.orca_base.proofs.items.Items.TheSendSync.{the_send as items_send, the_sync as items_sync}
use Rattle.orca_base.proofs.what.Choice.TheSendSync.{the_send as choice_send, the_sync as choice_sync}
use Rattle.node_parts.proofs.kept.Kept.TheSendSync.{the_send as kept_send}
use Rattle.node_core.proofs.node.Known.TheSendSync.{the_send as known_send}
use Rattle.node_core.specs.contracts.node.Node as Node
use Rattle.thread_safety.proofs.ValuesCross.{message_row_send, message_row_sync}
use Rattle.thread_safety.proofs.CopiesCross.{copies_send}
use Rattle.thread_safety.proofs.TasksCross.{errand_row_send, given_row_send, resident_row_send}

module _ (P S : RattleType) where
  pub node_send : IsSend S → IsSync S → IsSend (Node.the_field P S).row
  node_send s y = struct_send (shape (Node.the_type P S)) (
    search (member_send, shared_send, message_row_send, message_row_sync, crosses, sendable) depth 60 fits 20000,
    (
      copies_send,
      (
        Vec-send _ known_send,
        (
          Vec-send _ (option_row_send _ (resident_row_send S s y)),
          (
            Vec-send _ errand_row_send,
            (
              Vec-send _ (option_row_send _ given_row_send),
              (search (kept_send, items_send, items_sync, choice_send, choice_sync, sendable) depth 60 fits 20000, tt),
            ),
          ),
        ),
      ),
    ),
  )

  pub node_row_send : IsSend S → IsSync S → IsSend (Node.the_row P S)
  node_row_send s y = recorded_send (Node.the_field P S).row _ _ (Node.the_type P S).to_one (node_send s y)
