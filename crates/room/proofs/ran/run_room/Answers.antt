use denote.Exit.{no}
use denote.Param.{param}
use denote.Param.Send.{arg_send, arg_sync, param_send, param_sync}
use Rattle.thread_safety.proofs.TasksCross.{done_send, task_send}
use Rattle.room.proofs.RoomsCross.{desk_sync}
use Rattle.room.proofs.ran.run_room.Goals as goal

pub serve_all-requires-send-D-Work : goal.serve_all-requires-send-D-Work
serve_all-requires-send-D-Work g c κs within =
    param_send _ _ (arg_send _ no _ (task_send (param 0 g.row.P) _ g.P.OneRun g.P.Processor g.P.Performer c.type_bounds.send-P-State c.type_bounds.sync-P-State))

pub serve_all-requires-send-D-Finished : goal.serve_all-requires-send-D-Finished
serve_all-requires-send-D-Finished g c κs within =
    param_send _ _ (arg_send _ no _ (done_send (param 0 g.row.P) _ g.P.OneRun g.P.Processor g.P.Performer c.type_bounds.send-P-State c.type_bounds.sync-P-State))

pub serve_all-requires-sync-D : goal.serve_all-requires-sync-D
serve_all-requires-sync-D g c κs within =
    param_sync _ _
    (arg_sync _ no _
    (desk_sync _ (param 0 g.row.P) (param 1 g.row.W) _ g.P.RoomRun g.P.OneRun g.P.Processor g.P.Performer g.W.Wire c.type_bounds.send-P-State c.type_bounds.sync-P-State c.type_bounds.send-W c.type_bounds.sync-P))
