use Rattle.std.proofs.Common.{◌∙◌, sym, ap, inl, inr}
use Rattle.std.specs.Option.{option_copied_mut}
use Rattle.lock_name.specs.Locks.{JobLocks, job_wants}
use Rattle.lock_table.specs.Rows.{want_by}
use Rattle.lock_table.proofs.Tables.{is_there, row_there, row_kept, row_joined, locks_got, put, full_along, same_put}
use Rattle.lock_trie.specs.laws.Results.{onward, err_onward, if_err_onward}
use Rattle.lock_table.proofs.table.LockTable.lock_row.Goals as goal

pub lock-requires : goal.lock-requires
lock-requires c = row_kept c.self.inside.trie c.self.inside.rows.entries c.args.job c.in-Some.row.now c.self.invariant c.in-Some.ensures.value

pub invariant_of-self : goal.invariant_of-self
invariant_of-self c = row_joined c.self.inside.trie c.lock.new.trie c.self.inside.rows.entries (c.get_mut.follows.lender c.lock.new.self).entries c.args.job c.lock.new.self c.self.invariant
    ((c.get_mut.follows.holds c.lock.new.self).3 (is_there _ c.in-Some.row.now c.in-Some.ensures.value)).0 c.lock.ensures.others c.lock.ensures.kept

pub returns-clause-ok : goal.returns-clause-ok
returns-clause-ok c = onward c.lock.result (λ done. put c.self.inside.rows.entries (c.get_mut.follows.lender c.lock.new.self).entries c.args.self.now c.args.job c.lock.new.self _ c.self.view_is
    ((c.get_mut.follows.holds c.lock.new.self).3 (is_there _ c.in-Some.row.now c.in-Some.ensures.value)).0
    (done ∙ ap (λ (l : JobLocks). job_wants c.args.inside (want_by c.args.form c.args.names.now l.want) l) (locks_got c.self.inside.rows.entries c.args.self.now c.args.job c.in-Some.row.now c.self.view_is c.in-Some.ensures.value))) c.lock.ensures.ok

pub returns-clause-allowed : goal.returns-clause-allowed
returns-clause-allowed c = onward c.lock.result (full_along c.args.form c.args.names.now _ _ _ (locks_got c.self.inside.rows.entries c.args.self.now c.args.job c.in-Some.row.now c.self.view_is c.in-Some.ensures.value)) c.lock.ensures.allowed

pub returns-clause-full : goal.returns-clause-full
returns-clause-full c = if_err_onward c.lock.result (λ refusal cause. elim cause [
  | inl e ↦ inl e
  | inr p ↦ inr (p.0, full_along c.args.form c.args.names.now _ _ _ (locks_got c.self.inside.rows.entries c.args.self.now c.args.job c.in-Some.row.now c.self.view_is c.in-Some.ensures.value) p.1)
]) c.lock.ensures.full

pub returns-clause-unchanged : goal.returns-clause-unchanged
returns-clause-unchanged c = err_onward c.lock.result (λ same. same_put c.self.inside.rows.entries (c.get_mut.follows.lender c.lock.new.self).entries c.args.self.now c.args.job c.in-Some.row.now c.lock.new.self c.self.view_is c.in-Some.ensures.value
    ((c.get_mut.follows.holds c.lock.new.self).3 (is_there _ c.in-Some.row.now c.in-Some.ensures.value)).0 same) c.lock.ensures.err

pub unreachable-requires : goal.unreachable-requires
unreachable-requires c = row_there c.self.inside.rows.entries c.args.self.now c.args.job c.self.view_is c.requires (ap option_copied_mut (sym c.in-None.is) ∙ c.get_mut.ensures.value)
