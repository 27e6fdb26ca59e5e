use Rattle.lock_table.proofs.Rows.{within_just}
use Rattle.lock_table.proofs.inside.only.Goals as goal

pub more-requires-clause-within : goal.more-requires-clause-within
more-requires-clause-within c = within_just c.args.held.now c.args.inside.now.added c.args.inside.now.wanted c.replace-before.new.dest c.new.result c.replace-before.ensures.after c.new.ensures c.requires.within
