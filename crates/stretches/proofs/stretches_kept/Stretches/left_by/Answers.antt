use Rattle.std.proofs.Common.{sym, subst}
use Rattle.command.specs.declared.access.DataCommand.{DataCommand}
use Rattle.command.specs.Data.{data_after, sum_at}
use Rattle.stretches.specs.Empty.{AreEmptyBut}
use Rattle.stretches.specs.declared.left.Left.TheVariants.{All}
use Rattle.stretches.specs.laws.Entering.{stay_after_kill, but_after_merge, is_at_or_under, at_or_under_is}
use Rattle.stretches.proofs.stretches_kept.Stretches.left_by.Goals as goal

pub returns-in-Set-clause-behind : goal.returns-in-Set-clause-behind
returns-in-Set-clause-behind c = λ m empty.
    subst (λ (d : DataCommand). AreEmptyBut c.left_by_set.result c.args.self.now (data_after d m)) (sym c.in-Set.is) (c.left_by_set.ensures.behind c.in-Set.field-1 m empty)

pub returns-in-Merge-clause-behind : goal.returns-in-Merge-clause-behind
returns-in-Merge-clause-behind c = λ m empty.
    subst (λ (d : DataCommand). AreEmptyBut c.without.result c.args.self.now (data_after d m)) (sym c.in-Merge.is)
    (but_after_merge (is_at_or_under c.in-Merge.target) c.args.self.now c.without.result c.without.ensures m empty c.in-Merge.target c.in-Merge.field-1 (at_or_under_is c.in-Merge.target))

pub returns-in-Kill-clause-behind : goal.returns-in-Kill-clause-behind
returns-in-Kill-clause-behind c = λ m empty x inside stay.
    subst (λ (d : DataCommand). AreEmptyBut All c.args.self.now (data_after d m)) (sym c.in-Kill.is) (λ y there _. stay_after_kill c.args.self.now c.in-Kill.field-0 c.in-Kill.field-1 m empty y there) x inside stay

pub returns-in-Increment-clause-behind : goal.returns-in-Increment-clause-behind
returns-in-Increment-clause-behind c = λ m empty.
    subst (λ (d : DataCommand). AreEmptyBut c.left_by_set-in-Increment.result c.args.self.now (data_after d m)) (sym c.in-Increment.is)
    (c.left_by_set-in-Increment.ensures.behind (sum_at c.in-Increment.key c.in-Increment.field-1 m) m empty)
