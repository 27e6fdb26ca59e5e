use Rattle.std.proofs.Common.{length, ap, arith, length-append}
use Rattle.btree.proofs.row.cut_anew.Goals as goal

pub returns-then-len-at-clause-length : goal.returns-then-len-at-clause-length
returns-then-len-at-clause-length g c =
    omega (arith, ap length c.move_first.ensures.items, length-append c.move_first.new.to.items c.move_first.new.from.items, length-append c.args.lower.now.items c.args.upper.now.items, c.move_first.ensures.left)
