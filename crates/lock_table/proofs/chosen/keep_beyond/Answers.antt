use Rattle.lock_trie.specs.laws.Results.{onward}
use Rattle.lock_table.proofs.Less.{beyond_taken, beyond_kept}
use Rattle.lock_table.proofs.chosen.keep_beyond.Goals as goal

pub returns-then-count-gt0 : goal.returns-then-count-gt0
returns-then-count-gt0 c = beyond_taken c.args.kept.now.items c.args.left.now c.take_one.new.self c.args.name.now c.count.result c.count.ensures.count c.if-count-gt0.true c.take_one.ensures

pub returns : goal.returns
returns c = onward c.keep.result (beyond_kept c.args.kept.now.items c.keep.new.kept.items c.args.left.now c.args.name.now c.count.result c.count.ensures.count c.if-count-gt0.false) c.keep.ensures
