use Rattle.lock_table.proofs.Tables.{put_new, new_joined, same_joined}
use Rattle.lock_table.proofs.table.LockTable.add_row.Goals as goal
use Rattle.lock_table.proofs.table.LockTable.add_row.Goals.{in-Ok, in-Err}

pub invariant_of-self : goal.invariant_of-self
invariant_of-self c = elim c.match-insert.branch [
  | in-Ok w ↦ new_joined c.self.inside.trie c.self.inside.rows.entries c.insert.new.self.entries c.args.self.now c.args.job c.new-row.result c.self.invariant c.self.view_is c.requires w.in-Ok.ensures.updates.0 c.new-row.ensures
  | in-Err w ↦ same_joined c.self.inside.trie c.self.inside.rows.entries c.insert.new.self.entries w.in-Err.ensures.err c.self.invariant
]

pub returns-clause-ok : goal.returns-clause-ok
returns-clause-ok c = elim c.match-insert.branch [
  | in-Ok w ↦ rw w.result-is (put_new c.self.inside.rows.entries c.insert.new.self.entries c.args.self.now c.args.job c.new-row.result c.self.view_is w.in-Ok.ensures.updates.0 c.new-row.ensures)
  | in-Err w ↦ rw w.result-is tt
]
