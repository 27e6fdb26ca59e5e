use Rattle.stretches.specs.laws.Entering.{but_after_set, stay_after_set, is_at, at_itself}
use Rattle.stretches.proofs.stretches_kept.Stretches.left_by_set.Goals as goal

pub returns-then-lie_beside-clause-behind : goal.returns-then-lie_beside-clause-behind
returns-then-lie_beside-clause-behind c = λ value m empty x inside stay. stay_after_set c.args.self.now c.args.key.now value (c.lie_beside.ensures c.if-lie_beside.true) m empty x inside

pub returns-clause-behind : goal.returns-clause-behind
returns-clause-behind c = λ value m empty. but_after_set (is_at c.args.key.now) c.args.self.now c.without.result c.without.ensures m empty c.args.key.now value (at_itself c.args.key.now)
