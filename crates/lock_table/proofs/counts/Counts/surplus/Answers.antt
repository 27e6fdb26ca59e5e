use Rattle.lock_table.proofs.Less.{surplus_is}
use Rattle.lock_table.proofs.counts.Counts.surplus.Goals as goal

pub returns-clause-count : goal.returns-clause-count
returns-clause-count c = surplus_is c.args.self.now c.args.others.now c.args.name.now c.count.result c.count-2.result c.saturating_sub.result c.count.ensures.count c.count-2.ensures.count c.saturating_sub.ensures
