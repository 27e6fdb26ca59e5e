use Rattle.lock_table.specs.Rows.{want_of}
use Rattle.lock_trie.specs.laws.Results.{onward}
use Rattle.lock_table.proofs.Rows.{fewer_wanted}
use Rattle.lock_table.proofs.Wants.{want_held, none_wanted}
use Rattle.lock_table.proofs.inside.fewer.Goals as goal

pub returns-clause-ok : goal.returns-clause-ok
returns-clause-ok c = onward c.release.result (fewer_wanted c.args.held.now (want_of c.args.held.now c.args.inside.now.wanted) c.args.inside.now.added (want_of c.args.held.now c.release.new.self) c.args.names.now (let a = c.look.ensures in a.some)
    (none_wanted c.args.held.now c.args.inside.now.wanted (let a = c.look.ensures in a.some) (let a = c.look-2.ensures in a.some)) (want_held c.args.held.now c.args.inside.now.wanted (let a = c.requires in a.told_held))) c.release.ensures.ok
