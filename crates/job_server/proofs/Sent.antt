-- What a worker hands back crosses threads, part by part.
use denote.RattleType.{RattleType}
use denote.Param.Send.{IsSend, sendable}
use Rattle.std.proofs.Crossing as heap
use Rattle.shared_engine.specs.declared.name.BoardName.{Ghosts as BoardGhosts}
use Rattle.shared_engine.proofs.session.Pass.TheSendSync as pass
use Rattle.job_scripts.specs.contracts.report.Report as Report
use Rattle.job_server.specs.declared.worker.Batch.{Ghosts as BatchGhosts}
use Rattle.job_server.specs.contracts.worker.Ran as Ran
use Rattle.job_server.specs.contracts.worker.Done as Done
use Rattle.job_server.proofs.fault.ServerFault.TheSendSync as fault

report_send : IsSend Report.the_row
report_send = search (heap.crosses, sendable) depth 60 fits 20000

ran_send : (B : RattleType) (g : BoardGhosts B.Denot) → IsSend (Ran.the_row B g)
ran_send B g = search (heap.crosses, report_send, pass.the_send, sendable) depth 60 fits 20000

pub done_send : (B : RattleType) (g : BoardGhosts B.Denot) (h : BatchGhosts B.Denot) → IsSend (Done.the_row B g h)
done_send B g h = search (heap.crosses, ran_send, fault.the_send, sendable) depth 60 fits 20000
