use Rattle.lock_table.specs.Counted.{less}
use Rattle.lock_table.proofs.Less.{gathered}
use Rattle.lock_table.proofs.counts.Counts.surplus_among.Goals as goal

pub returns : goal.returns
returns c = gathered c.new-some.result c.raise_surplus.new.self (less c.args.self.now c.args.others.now) c.args.names.now c.new-some.ensures c.raise_surplus.ensures.raised c.in_ok-raise_surplus.ensures.ok
