use denote.Param.{param}
use denote.Param.Send.{IsSend, param_send, arg_send, recorded_send, struct_send, sendable}
use denote.Exit.{no}
use denote.Struct.Declared.{shape}
use denote.Struct.Tuple.{TupleAt, field_at, type_at}
use mir.Syntax.{named}
use Rattle.std.proofs.Common.{◌∷◌, []}
use Rattle.std.specs.Prelude.{codes}
use Rattle.std.proofs.Crossing as heap
use Rattle.crossbeam_channel.proofs.channel.Receiver.TheSendSync as receiver
use Rattle.crossbeam_channel.proofs.channel.Sender.TheSendSync as sender
use Rattle.crossbeam_channel.specs.contracts.channel.Receiver as Receiver
use Rattle.crossbeam_channel.specs.contracts.channel.Sender as Sender
use Rattle.std.specs.contracts.alloc.Global as Global
use Rattle.std.specs.contracts.impls.GlobalAllocator.TheImpl as Impl
use Rattle.job_server.specs.contracts.job_run.Calls as Calls
use Rattle.job_server.specs.contracts.worker.Done as Done
use Rattle.job_server.specs.contracts.worker.Task as Task
use Rattle.job_server.proofs.Sent.{done_send}
use Rattle.job_server.proofs.worker.Task.TheSendSync as task
use Rattle.shared_engine.proofs.Crossing.{shared_sync}
use Rattle.job_server.proofs.serving.start.Goals as goal

-- what a worker is lent may go to another thread
pub spawn-started-requires-send-F : goal.spawn-started-requires-send-F
spawn-started-requires-send-F g c κs within =
    let s = shared_sync (param 1 g.row.B) g.B.BoardName in
    let calls : IsSend (Calls.the_row (record { mir = named 5; lft = κs.1.1.1.1.1.0 }) (param 1 g.row.B) (param 2 g.row.R) (param 3 g.row.G) g.B.BoardName) =
    search (s, c.type_bounds.sync-R, c.type_bounds.sync-G, sendable) depth 60 fits 20000 in
    let tasks : IsSend (Receiver.the_row (Task.the_row (record { mir = named 6; lft = κs.1.1.1.1.1.1.0 }) (param 1 g.row.B) g.B.Batch) Global.the_row Impl.ghosts) = search (heap.crosses, receiver.the_send, task.the_send, sendable) depth 60 fits 20000 in
    let reports : IsSend (Sender.the_row (Done.the_row (param 1 g.row.B) g.B.BoardName g.B.Batch) Global.the_row Impl.ghosts) = search (heap.crosses, sender.the_send, done_send, sendable) depth 60 fits 20000 in
    let name = codes "job_server::serving::fn::start::spawn+Self" in
    let rows = Global.the_row ∷ (Calls.the_row (record { mir = named 5; lft = κs.1.1.1.1.1.0 }) (param 1 g.row.B) (param 2 g.row.R) (param 3 g.row.G) g.B.BoardName ∷ (Receiver.the_row (Task.the_row (record { mir = named 6; lft = κs.1.1.1.1.1.1.0 }) (param 1 g.row.B) g.B.Batch) Global.the_row Impl.ghosts ∷ (Sender.the_row (Done.the_row (param 1 g.row.B) g.B.BoardName g.B.Batch) Global.the_row Impl.ghosts ∷ []))) in
    let closure : IsSend (TupleAt name rows) = recorded_send (field_at name rows).row _ _ (type_at name rows).to_one (struct_send (shape (type_at name rows)) (heap.send, (calls, (tasks, (reports, tt))))) in
    param_send 1 _ (arg_send _ no _ closure)
