use Rattle.lock_trie.specs.laws.Results.{onward}
use Rattle.lock_table.proofs.Less.{within_passed, within_kept}
use Rattle.lock_table.proofs.chosen.keep_within.Goals as goal

pub returns-then-count-eq0 : goal.returns-then-count-eq0
returns-then-count-eq0 c = within_passed c.args.kept.now.items c.args.left.now c.args.name.now c.count.result c.count.ensures.count c.if-count-eq0.true

pub returns : goal.returns
returns c = onward c.keep.result (within_kept c.args.kept.now.items c.keep.new.kept.items c.args.left.now c.take_one.new.self c.args.name.now c.count.result c.count.ensures.count c.if-count-eq0.false c.take_one.ensures) c.keep.ensures
