-- What a run in code is made of, put together field by field as tasks are.
use denote.Param.Send.{IsSend, IsSync, plain_send, recorded_send, sendable, struct_send, view_send as by_view}
use denote.RattleType.{RattleType}
use denote.Struct.Declared.{shape}
use Rattle.std.proofs.Crossing.{Vec-send, crosses}
use Rattle.lossy_net.proofs.net.Net.TheSendSync.{the_send as net_send}
use Rattle.orca_base.proofs.items.Items.TheSendSync.{the_send as items_send}
use Rattle.book_law.specs.contracts.placing.Placed as Placed
use Rattle.value_core.specs.contracts.action.Line as Line
use Rattle.value_core.specs.declared.performer.Performer as performer
use Rattle.value_core.specs.declared.processor.Processor as processor
use Rattle.node_parts.specs.declared.run.OneRun as one_run
use Rattle.world_rules.proofs.event.Step.TheSendSync.{the_send as step_send}
use Rattle.world_parts.proofs.parts.Numbers.TheSendSync.{the_field_send as numbers_send}
use Rattle.world_parts.specs.contracts.ledger.Ledger as Ledger
use Rattle.world_parts.specs.contracts.ledger.Ledger.TheInside as LedgerInside
use Rattle.world_parts.specs.contracts.ledger.Piece as Piece
use Rattle.world_parts.specs.contracts.parts.Parts as Parts
use Rattle.world_core.specs.contracts.world.World as World
use Rattle.world_core.specs.contracts.world.World.TheInside as WorldInside
use Rattle.thread_safety.proofs.ValuesCross.{action_send, line_row_send, message_row_send, message_row_sync, reply_send}
use Rattle.thread_safety.proofs.NodesCross.{node_row_send}

pub line_send : IsSend Line.the_field.row
line_send = search (action_send, reply_send, sendable) depth 60 fits 20000

pub placed_send : IsSend Placed.the_field.row
placed_send = search (line_send, sendable) depth 60 fits 20000

pub piece_send : IsSend Piece.the_field.row
piece_send = search (placed_send, items_send, line_row_send, sendable) depth 60 fits 20000

pub piece_row_send : IsSend Piece.the_row
piece_row_send = search (piece_send, sendable) depth 60 fits 20000

pub ledger_send : IsSend Ledger.the_row
ledger_send =
    by_view LedgerInside.the_row _ _ _ _
    (recorded_send LedgerInside.the_field.row _ _ LedgerInside.the_type.to_one
    (struct_send (shape LedgerInside.the_type) (
      Vec-send _ step_send,
      (
        Vec-send _ (search (message_row_send, message_row_sync, crosses, sendable) depth 60 fits 20000),
        (Vec-send _ piece_row_send, (plain_send _ _ _ _ _, (plain_send _ _ _ _ _, (plain_send _ _ _ _ _, (plain_send _ _ _ _ _, tt))))),
      ),
    )))

module _ (P S : RattleType) where
  pub parts_send : IsSend S → IsSync S → IsSend (Parts.the_field P S).row
  parts_send s y = struct_send (shape (Parts.the_type P S)) (
    numbers_send,
    (
      Vec-send _ (node_row_send P S s y),
      (
        search (crosses, sendable) depth 60 fits 20000,
        (net_send, (ledger_send, (plain_send _ _ _ _ _, (plain_send _ _ _ _ _, (plain_send _ _ _ _ _, tt))))),
      ),
    ),
  )

module _ (P S : RattleType) (o : one_run.Ghosts P.Denot S.Denot) (q : processor.Ghosts P.Denot S.Denot) (f : performer.Ghosts P.Denot) where
  pub world_send : IsSend S → IsSync S → IsSend (World.the_row P S o q f)
  world_send s y =
      by_view (WorldInside.the_row P S o q f) _ _ _ _
      (recorded_send (WorldInside.the_field P S o q f).row _ _ (WorldInside.the_type P S o q f).to_one
      (struct_send (shape (WorldInside.the_type P S o q f)) (parts_send P S s y, tt)))
