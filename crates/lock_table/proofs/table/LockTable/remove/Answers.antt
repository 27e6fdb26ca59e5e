use Rattle.std.proofs.Common.{◌∙◌, ap, refl}
use Rattle.lock_name.specs.Locks.{locks_of}
use Rattle.lock_table.proofs.Tables.{removed, removed_joined}
use Rattle.std.specs.FinMap as finmap
use Rattle.lock_table.proofs.table.LockTable.remove.Goals as goal

pub invariant_of-self : goal.invariant_of-self
invariant_of-self c = removed_joined c.self.inside.trie (finmap.from_entries c.self.inside.rows.entries) (finmap.from_entries c.remove.new.self.entries) c.args.job c.self.invariant (ap (locks_of c.args.job) c.self.view_is ∙ c.requires)
    (removed c.self.inside.rows.entries c.remove.new.self.entries (finmap.from_entries c.self.inside.rows.entries) c.args.job refl c.remove.ensures.updates.0)

pub returns : goal.returns
returns c = removed c.self.inside.rows.entries c.remove.new.self.entries c.args.self.now c.args.job c.self.view_is c.remove.ensures.updates.0
