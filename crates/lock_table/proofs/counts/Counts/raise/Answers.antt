use Rattle.lock_table.proofs.Smalls.{raised_by, raised_not}
use Rattle.lock_trie.specs.laws.Results.{onward}
use Rattle.lock_table.proofs.counts.Counts.raise.Goals as goal

pub returns-then-n-count-clause-ok : goal.returns-then-n-count-clause-ok
returns-then-n-count-clause-ok c = onward c.set.result (λ put. raised_by c.args.self.now c.set.new.self c.args.name.now c.look_up-count.result.0 c.args.n c.look_up-count.ensures.count c.if-n-count.true put) c.set.ensures.ok

pub returns-else-n-count-clause-ok : goal.returns-else-n-count-clause-ok
returns-else-n-count-clause-ok c = raised_not c.args.self.now c.args.name.now c.look_up-count.result.0 c.args.n c.look_up-count.ensures.count c.if-n-count.false
