use Rattle.std.proofs.Common.{arith}
use Rattle.lock_trie.specs.Held.{held_count}
use Rattle.lock_table.proofs.Moving.{more_next, more_fits, more_back}
use Rattle.lock_table.proofs.Trie.{at_job, at_other}
use Rattle.lock_table.proofs.moves.add_names.Goals as goal

pub add-requires : goal.add-requires
add-requires c = more_fits (held_count c.args.trie.now c.args.job) (held_count c.loop-i.trie c.args.job) c.args.names.now c.loop-i.i c.index-names-i.result c.loop-i-test.true c.index-names-i.is c.requires c.loop-i.invariant.left

pub returns-in-Err-clause-err : goal.returns-in-Err-clause-err
returns-in-Err-clause-err c =
    more_back (held_count c.args.trie.now c.args.job) (held_count c.loop-i.trie c.args.job) (held_count c.add.new.self c.args.job) (held_count c.take_names.new.trie c.args.job) c.args.names.now c.loop-i.i c.loop-i.invariant.left (c.in-Err.ensures.err c.args.job)
    c.take_names.ensures.taken

pub loop-i-preserved : goal.loop-i-preserved
loop-i-preserved c = record {
  in_range = omega arith;
  others = at_other c.args.trie.now c.loop-i.trie c.add.new.self c.args.job c.index-names-i.result _ c.in-Ok.ensures.ok c.loop-i.invariant.others;
  left = more_next (held_count c.args.trie.now c.args.job) (held_count c.loop-i.trie c.args.job) (held_count c.add.new.self c.args.job) c.args.names.now c.loop-i.i _ c.index-names-i.result (omega arith) c.loop-i-test.true c.index-names-i.is
      (at_job c.loop-i.trie c.add.new.self c.args.job c.index-names-i.result _ c.in-Ok.ensures.ok) c.loop-i.invariant.left;
}
