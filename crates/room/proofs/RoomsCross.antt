-- What stands under a room's lock may be sent, so its workers may share the lock, and the desk: put together field by field, as worlds are.
use denote.Param.Send.{IsSend, IsSync, plain_send, recorded_send, recorded_sync, sendable, shr_sync, struct_send, struct_sync, view_send as by_view}
use denote.RattleType.{RattleType}
use denote.Ref.{NamedLft}
use denote.Struct.Declared.{shape}
use Rattle.std.proofs.Crossing.{Vec-send, crosses}
use Rattle.std.proofs.marker.PhantomData.TheSendSync.{the_field_send as phantom_send}
use Rattle.std.proofs.sync.Condvar.TheSendSync.{the_field_sync as condvar_sync}
use Rattle.std.specs.contracts.sync.Mutex as Mutex
use Rattle.value_core.specs.declared.performer.Performer as performer
use Rattle.value_core.specs.declared.processor.Processor as processor
use Rattle.wires.specs.declared.wire.Wire as wire
use Rattle.node_parts.specs.declared.run.OneRun as one_run
use Rattle.thread_safety.proofs.WorldsCross.{world_send}
use Rattle.room_state.proofs.order.TaskCounts.TheSendSync.{the_field_send as counts_send}
use Rattle.room_state.proofs.phase.Phase.TheSendSync.{the_field_send as phase_send}
use Rattle.room_state.specs.declared.run_wires.RoomRun as room_run
use Rattle.room_state.specs.contracts.drive.Driver as Driver
use Rattle.room_state.specs.contracts.state.RoomState as RoomState
use Rattle.room_state.specs.contracts.state.RoomState.TheInside as RoomStateInside
use Rattle.room.specs.contracts.desk.Room as Room
use Rattle.room.specs.contracts.desk.RoomDesk as RoomDesk

-- a lock over what may be sent may be shared
mutex_sync : (R : RattleType) → IsSend R → IsSync (Mutex.the_row R)
mutex_sync R s = search (s, crosses) depth 20

module _ (P S : RattleType) (o : one_run.Ghosts P.Denot S.Denot) (q : processor.Ghosts P.Denot S.Denot) (f : performer.Ghosts P.Denot) where
  pub driver_send : IsSend S → IsSync S → IsSend (Driver.the_field P S o q f).row
  driver_send s y = struct_send (shape (Driver.the_type P S o q f)) (world_send P S o q f s y, (plain_send _ _ _ _ _, (counts_send, tt)))

module _ (P W S : RattleType) (r : room_run.Ghosts P.Denot S.Denot) (o : one_run.Ghosts P.Denot S.Denot) (q : processor.Ghosts P.Denot S.Denot) (f : performer.Ghosts P.Denot) (w : wire.Ghosts W.Denot) where
  pub state_send : IsSend S → IsSync S → IsSend W → IsSend (RoomState.the_row P W S r o q f w)
  state_send s y v =
      by_view (RoomStateInside.the_row P W S r o q f w) _ _ _ _
      (recorded_send (RoomStateInside.the_field P W S r o q f w).row _ _ (RoomStateInside.the_type P W S r o q f w).to_one
      (struct_send (shape (RoomStateInside.the_type P W S r o q f w))
      (driver_send P S o q f s y, (Vec-send W v, (phase_send, (phantom_send P, tt))))))

  pub room_sync : IsSend S → IsSync S → IsSend W → IsSync (Room.the_field P W S r o q f w).row
  room_sync s y v =
      struct_sync (shape (Room.the_type P W S r o q f w)) (mutex_sync _ (state_send s y v), (condvar_sync, tt))

  pub room_row_sync : IsSend S → IsSync S → IsSend W → IsSync (Room.the_row P W S r o q f w)
  room_row_sync s y v = recorded_sync (Room.the_field P W S r o q f w).row _ _ (Room.the_type P W S r o q f w).to_one (room_sync s y v)

module _ (a : NamedLft) (P W S : RattleType) (r : room_run.Ghosts P.Denot S.Denot) (o : one_run.Ghosts P.Denot S.Denot) (q : processor.Ghosts P.Denot S.Denot) (f : performer.Ghosts P.Denot) (w : wire.Ghosts W.Denot) where
  pub desk_sync : IsSend S → IsSync S → IsSend W → IsSync P → IsSync (RoomDesk.the_row a P W S r o q f w)
  desk_sync s y v p =
      recorded_sync (RoomDesk.the_field a P W S r o q f w).row _ _ (RoomDesk.the_type a P W S r o q f w).to_one
      (struct_sync (shape (RoomDesk.the_type a P W S r o q f w)) (shr_sync _ _ _ (room_row_sync P W S r o q f w s y v), (shr_sync _ _ _ p, (search sendable depth 20, tt))))
