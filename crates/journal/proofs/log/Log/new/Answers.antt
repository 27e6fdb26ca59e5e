use Rattle.std.proofs.Common.{arith}
use Rattle.journal.proofs.Logs.{none_in, keeps_none}
use Rattle.journal.proofs.log.Log.new.Goals as goal

pub invariant_of-result : goal.invariant_of-result
invariant_of-result c = (keeps_none _, omega arith)

pub returns-clause-units : goal.returns-clause-units
returns-clause-units c = none_in _
