-- Objects, the calls that wait on them, and a member's copies and views of them.
use denote.Param.Send.{IsSend, IsSync, sendable}
use Rattle.std.proofs.Crossing.{crosses}
use Rattle.std.proofs.MapsCrossing.{crosses as maps_cross}
use Rattle.guard_queue.specs.contracts.objects.Objects as Objects
use Rattle.guard_queue.specs.contracts.objects.Write as Write
use Rattle.guard_queue.specs.contracts.queue.Queue as Queue
use Rattle.guard_queue.specs.contracts.queue.Suspended as Suspended
use Rattle.object_manager.specs.contracts.copies.Copies as Copies
use Rattle.object_manager.specs.contracts.view.View as View
use Rattle.thread_safety.proofs.ValuesCross.{instance_row_send, instance_row_sync, parts_send, parts_sync}

pub write_send : IsSend Write.the_row
write_send = search (instance_row_send, instance_row_sync, crosses, sendable) depth 60 fits 20000

pub write_sync : IsSync Write.the_row
write_sync = search (instance_row_send, instance_row_sync, crosses, sendable) depth 60 fits 20000

pub objects_send : IsSend Objects.the_field.row
objects_send = search (write_send, instance_row_send, instance_row_sync, maps_cross, crosses, sendable) depth 60 fits 20000

pub objects_sync : IsSync Objects.the_field.row
objects_sync = search (write_sync, instance_row_send, instance_row_sync, maps_cross, crosses, sendable) depth 60 fits 20000

pub suspended_send : IsSend Suspended.the_row
suspended_send = search (parts_send, sendable) depth 60 fits 20000

pub suspended_sync : IsSync Suspended.the_row
suspended_sync = search (parts_sync, sendable) depth 60 fits 20000

pub queue_send : IsSend Queue.the_field.row
queue_send = search (suspended_send, suspended_sync, maps_cross, crosses, sendable) depth 60 fits 20000

pub copies_send : IsSend Copies.the_field.row
copies_send = search (objects_send, queue_send, crosses, sendable) depth 60 fits 20000

pub copies_row_send : IsSend Copies.the_row
copies_row_send = search (copies_send, sendable) depth 60 fits 20000

pub view_send : IsSend View.the_field.row
view_send = search (objects_send, sendable) depth 60 fits 20000

pub view_row_send : IsSend View.the_row
view_row_send = search (view_send, sendable) depth 60 fits 20000
