-- Processes, tasks and what was computed of them: a state that is shared by count crosses where states may be sent and shared. The check
-- finds no proof of a struct that has a type parameter and holds what holds values; so these are put together field by field.
use denote.Param.Send.{IsSend, IsSync, plain_send, recorded_send, sendable, struct_send, view_send as by_view}
use denote.RattleType.{RattleType}
use denote.Struct.Declared.{shape}
use Rattle.std.proofs.Crossing.{Vec-send, crosses}
use Rattle.std.proofs.marker.PhantomData.TheSendSync.{the_field_send as phantom_send}
use Rattle.std.proofs.option.Option.TheSendSync.{the_field_send as option_send}
use Rattle.history_buffer.proofs.shared.Shared.TheSendSync.{the_send as shared_send}
use Rattle.orca_base.proofs.ids.ProcessNo.TheSendSync.{the_field_send as process_send}
use Rattle.value_core.specs.declared.performer.Performer as performer
use Rattle.value_core.specs.declared.processor.Processor as processor
use Rattle.object_manager.specs.contracts.view.View as View
use Rattle.node_parts.proofs.kept.Kept.TheSendSync.{the_send as kept_send}
use Rattle.node_parts.specs.contracts.errand.Errand as Errand
use Rattle.node_parts.specs.contracts.errand.Given as Given
use Rattle.node_parts.specs.contracts.resident.Resident as Resident
use Rattle.node_parts.specs.contracts.resident.Stage as Stage
use Rattle.node_parts.specs.declared.run.OneRun as one_run
use Rattle.node_core.specs.contracts.task.Done as Done
use Rattle.node_core.specs.contracts.task.Done.TheInside as DoneInside
use Rattle.node_core.specs.contracts.task.Task as Task
use Rattle.node_core.specs.contracts.task.Task.TheInside as TaskInside
use Rattle.thread_safety.proofs.ValuesCross.{action_send, line_row_send, message_row_send, message_row_sync, reply_send}
use Rattle.thread_safety.proofs.CopiesCross.{view_row_send}

pub stage_send : IsSend Stage.the_field.row
stage_send = search (action_send, sendable) depth 60 fits 20000

pub errand_row_send : IsSend Errand.the_row
errand_row_send = search (reply_send, shared_send, message_row_send, message_row_sync, crosses, sendable) depth 60 fits 20000

pub given_row_send : IsSend Given.the_row
given_row_send = search (reply_send, sendable) depth 60 fits 20000

module _ (S : RattleType) where
  pub resident_send : IsSend S → IsSync S → IsSend (Resident.the_field S).row
  resident_send s y = struct_send (shape (Resident.the_type S))
      (kept_send S s y, (plain_send _ _ _ _ _, (plain_send _ _ _ _ _, (plain_send _ _ _ _ _, (stage_send, (option_send View.the_row view_row_send, tt))))))

  pub resident_row_send : IsSend S → IsSync S → IsSend (Resident.the_row S)
  resident_row_send s y = recorded_send (Resident.the_field S).row _ _ (Resident.the_type S).to_one (resident_send s y)

module _ (P S : RattleType) (o : one_run.Ghosts P.Denot S.Denot) (q : processor.Ghosts P.Denot S.Denot) (f : performer.Ghosts P.Denot) where
  pub task_send : IsSend S → IsSync S → IsSend (Task.the_row P S o q f)
  task_send s y =
      by_view (TaskInside.the_row P S o q f) _ _ _ _
      (recorded_send (TaskInside.the_field P S o q f).row _ _ (TaskInside.the_type P S o q f).to_one
      (struct_send (shape (TaskInside.the_type P S o q f))
      (process_send, (kept_send S s y, (plain_send _ _ _ _ _, (view_row_send, (plain_send _ _ _ _ _, (phantom_send P, tt))))))))

  pub done_send : IsSend S → IsSync S → IsSend (Done.the_row P S o q f)
  done_send s y =
      by_view (DoneInside.the_row P S o q f) _ _ _ _
      (recorded_send (DoneInside.the_field P S o q f).row _ _ (DoneInside.the_type P S o q f).to_one
      (struct_send (shape (DoneInside.the_type P S o q f))
      (process_send, (kept_send S s y, (plain_send _ _ _ _ _, (view_row_send, (plain_send _ _ _ _ _, (kept_send S s y, (stage_send, (Vec-send _ line_row_send, (phantom_send P, tt)))))))))))
