use Rattle.serial.specs.laws.Traces.{leaves_no_trace}
use Rattle.serial.proofs.runs.backed_transactions_leave_no_trace.Goals as goal

pub returns : goal.returns
returns c = leaves_no_trace
