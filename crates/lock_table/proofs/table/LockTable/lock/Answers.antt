use Rattle.std.proofs.Common.{inl, inr}
use Rattle.lock_table.proofs.Tables.{made_locked, made_full, made_gone}
use Rattle.lock_table.proofs.table.LockTable.lock.Goals as goal

pub returns-in-Ok-lock_row-clause-ok : goal.returns-in-Ok-lock_row-clause-ok
returns-in-Ok-lock_row-clause-ok c = made_locked c.args.self.now c.make_row.new.self c.lock_row.new.self c.args.job c.args.inside c.in-Ok.fresh c.args.form c.args.names.now c.in-Ok.ensures.ok c.in-Ok.ensures.fresh c.in-Ok-lock_row.ensures.ok

pub returns-in-Ok-lock_row-clause-allowed : goal.returns-in-Ok-lock_row-clause-allowed
returns-in-Ok-lock_row-clause-allowed c = made_full c.args.self.now c.make_row.new.self c.args.job c.in-Ok.fresh _ c.args.form c.args.names.now c.in-Ok.ensures.ok c.in-Ok.ensures.fresh c.in-Ok-lock_row.ensures.allowed

pub returns-then-fresh-clause-full : goal.returns-then-fresh-clause-full
returns-then-fresh-clause-full c = elim c.in-Err-lock_row.ensures.full [
  | inl e ↦ inl e
  | inr p ↦ inr (p.0, made_full c.args.self.now c.make_row.new.self c.args.job c.in-Ok.fresh _ c.args.form c.args.names.now c.in-Ok.ensures.ok c.in-Ok.ensures.fresh p.1)
]

pub returns-then-fresh-clause-unchanged : goal.returns-then-fresh-clause-unchanged
returns-then-fresh-clause-unchanged c = made_gone c.args.self.now c.make_row.new.self c.lock_row.new.self c.end.new.self c.args.job c.in-Ok.fresh c.in-Ok.ensures.ok c.in-Ok.ensures.fresh c.if-fresh.true c.in-Err-lock_row.ensures.unchanged c.end.ensures
