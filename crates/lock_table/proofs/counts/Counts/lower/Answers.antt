use Rattle.lock_table.proofs.Smalls.{lowered_not, lowered_by, lowered_out}
use Rattle.lock_table.proofs.counts.Counts.lower.Goals as goal

pub returns-then-count-n : goal.returns-then-count-n
returns-then-count-n c = lowered_not c.args.self.now c.args.name.now c.count-count.result c.args.n c.count-count.ensures.count c.if-count-n.true

pub returns-then-n-eq0 : goal.returns-then-n-eq0
returns-then-n-eq0 c = lowered_out c.args.self.now c.remove.new.self c.args.name.now c.args.n c.if-n-eq0.true c.remove.ensures

pub returns : goal.returns
returns c = lowered_by c.args.self.now c.change.new.self c.args.name.now c.count-count.result c.args.n c.count-count.ensures.count c.if-count-n.false c.change.ensures
