use Rattle.std.proofs.Common.{sym, ap, ◌∙◌, refl}
use Rattle.std.specs.Option.{option_copied_mut}
use Rattle.lock_name.specs.Locks.{job_commits}
use Rattle.lock_table.proofs.Tables.{is_there, row_kept, row_joined, row_changed, row_absent}
use Rattle.lock_table.proofs.table.LockTable.commit.Goals as goal

pub commit-requires : goal.commit-requires
commit-requires c = row_kept c.self.inside.trie c.self.inside.rows.entries c.args.job c.in-Some.row.now c.self.invariant c.in-Some.ensures.value

pub invariant_of-self : goal.invariant_of-self
invariant_of-self c = row_joined c.self.inside.trie c.commit.new.trie c.self.inside.rows.entries (c.get_mut.follows.lender c.commit.new.self).entries c.args.job c.commit.new.self c.self.invariant
    ((c.get_mut.follows.holds c.commit.new.self).3 (is_there _ c.in-Some.row.now c.in-Some.ensures.value)).0 c.commit.ensures.others c.commit.ensures.kept

pub returns-in-Some : goal.returns-in-Some
returns-in-Some c = row_changed job_commits c.self.inside.rows.entries (c.get_mut.follows.lender c.commit.new.self).entries c.args.self.now c.args.job c.in-Some.row.now c.commit.new.self c.self.view_is c.in-Some.ensures.value
    ((c.get_mut.follows.holds c.commit.new.self).3 (is_there _ c.in-Some.row.now c.in-Some.ensures.value)).0 c.commit.ensures.row

pub returns-in_default : goal.returns-in_default
returns-in_default c = row_absent job_commits c.self.inside.rows.entries c.get_mut.follows.lender-at-none.entries c.args.self.now c.args.job c.self.view_is (ap option_copied_mut (sym c.in_default.is) ∙ c.get_mut.ensures.value) (rw c.get_mut.follows.holds-at-none refl)
