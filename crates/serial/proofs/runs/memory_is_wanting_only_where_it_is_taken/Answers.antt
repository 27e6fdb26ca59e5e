use Rattle.serial.specs.laws.Replies.{early_replied, sure_replied}
use Rattle.serial.proofs.runs.memory_is_wanting_only_where_it_is_taken.Goals as goal

pub returns-clause-early : goal.returns-clause-early
returns-clause-early c = early_replied

pub returns-clause-sure : goal.returns-clause-sure
returns-clause-sure c = sure_replied
