use Rattle.std.proofs.Common.{sym, ap, ◌∙◌}
use Rattle.std.specs.Option.{option_copied}
use Rattle.lock_name.specs.Locks.{Counts, count_of, JobLocks}
use Rattle.lock_table.proofs.Tables.{locks_got, wants_nothing}
use Rattle.lock_trie.specs.laws.Results.{if_ok_onward}
use Rattle.lock_table.proofs.table.LockTable.wanted.Goals as goal

pub returns-in-Some : goal.returns-in-Some
returns-in-Some c = if_ok_onward c.named.result (λ (want : Counts) e x h. e x h ∙ ap (λ (l : JobLocks). count_of l.want x) (locks_got c.self.inside.rows.entries c.args.self.now c.args.job c.in-Some.row.now c.self.view_is (ap option_copied (sym c.in-Some.is) ∙ c.get.ensures.value))) c.named.ensures

pub returns-in-None : goal.returns-in-None
returns-in-None c = λ x h. ap (λ m. count_of m x) (c.nothing.ensures ∙ wants_nothing c.self.inside.rows.entries c.args.self.now c.args.job c.self.view_is (ap option_copied (sym c.in-None.is) ∙ c.get.ensures.value))
