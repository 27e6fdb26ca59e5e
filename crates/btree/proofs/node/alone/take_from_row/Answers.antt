use Rattle.std.proofs.Common.{refl}
use Rattle.btree.proofs.Alone.{taken_from_row}
use Rattle.btree.proofs.node.alone.take_from_row.Goals as goal

pub returns-then-ends_there-clause-taken : goal.returns-then-ends_there-clause-taken
returns-then-ends_there-clause-taken g c =
    let found = rw c.deref.ensures.value at c.in-Ok.ensures.found in
    let more = rw c.deref-in-Ok.ensures.value at (c.if-ends_there.ensures.some refl) in
    let past = rw c.deref-in-Ok.ensures.value at (c.if-ends_there.ensures.past refl) in
    taken_from_row g.K.Ord.cmp (g.P.Point.before c.args.past.now) c.args.key.now c.args.row.now.items c.remove-key.new.self.items c.in-Ok.at c.remove-key.result more c.remove-key.ensures.value (found.1 c.remove-key.result) (past c.remove-key.result) c.remove-key.ensures.items
