use Rattle.std.proofs.Common.{inl, inr, true, false}
use Rattle.lock_name.specs.Locks.{locks_of}
use Rattle.lock_trie.specs.laws.Results.{onward, if_err_onward}
use Rattle.lock_table.proofs.Lists.{over_same}
use Rattle.lock_table.proofs.table.LockTable.check_more.Goals as goal

pub returns-in-Ok-clause-allowed : goal.returns-in-Ok-clause-allowed
returns-in-Ok-clause-allowed c = onward c.bear.result (over_same c.in-Ok.want (let l = locks_of c.args.job c.args.self.now in l.want) c.args.names.now false c.in-Ok.ensures) c.bear.ensures.allowed

pub returns-in-Ok-clause-full : goal.returns-in-Ok-clause-full
returns-in-Ok-clause-full c = if_err_onward c.bear.result (λ refusal cause. elim cause [
  | inl e ↦ inl e
  | inr p ↦ inr (p.0, over_same c.in-Ok.want (let l = locks_of c.args.job c.args.self.now in l.want) c.args.names.now true c.in-Ok.ensures p.1)
]) c.bear.ensures.full
