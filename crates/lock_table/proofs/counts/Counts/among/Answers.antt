use Rattle.lock_table.proofs.Less.{gathered}
use Rattle.lock_table.proofs.counts.Counts.among.Goals as goal

pub returns : goal.returns
returns c = gathered c.new-some.result c.raise_names.new.self c.args.self.now c.args.names.now c.new-some.ensures c.raise_names.ensures.raised c.in_ok-raise_names.ensures.ok
