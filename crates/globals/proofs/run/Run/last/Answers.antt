use Rattle.std.proofs.Common.{◌<◌, arith}
use Rattle.globals.proofs.Runs.{last_at}
use Rattle.globals.proofs.run.Run.last.Goals as goal

pub returns : goal.returns
returns c = let some : 0 < c.len-count.result = omega (arith, c.if-count-eq0.false) in last_at c.args.self.now c.len-count.result c.node.result c.len-count.ensures.length some c.node.ensures
