use Rattle.journal.specs.laws.Log.{units_apart, logs_apart}
use Rattle.journal.specs.laws.Reading.{unit_back}
use Rattle.journal.proofs.laws.logs_read_back.Goals as goal

pub returns-clause-back : goal.returns-clause-back
returns-clause-back c = unit_back

pub returns-clause-apart : goal.returns-clause-apart
returns-clause-apart c = units_apart

pub returns-clause-logs : goal.returns-clause-logs
returns-clause-logs c = logs_apart
