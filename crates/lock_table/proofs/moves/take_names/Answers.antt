use Rattle.std.proofs.Common.{arith, refl}
use Rattle.lock_trie.specs.Held.{held_count}
use Rattle.lock_table.proofs.Moving.{fewer_next, fewer_done}
use Rattle.lock_table.proofs.Trie.{at_job, at_other}
use Rattle.lock_table.proofs.moves.take_names.Goals as goal

pub loop-name-init : goal.loop-name-init
loop-name-init c = record { in_range = omega arith; others = λ other x apart. refl; left = λ x. refl }

pub loop-name-preserved : goal.loop-name-preserved
loop-name-preserved c = record {
  in_range = omega arith;
  others = at_other c.args.trie.now c.loop-name.trie c.take_away.new.self c.args.job c.name-item.result _ c.take_away.ensures c.loop-name.invariant.others;
  left = fewer_next (held_count c.args.trie.now c.args.job) (held_count c.loop-name.trie c.args.job) (held_count c.take_away.new.self c.args.job) c.args.names.now c.loop-name.name-index _ c.name-item.result (omega arith) c.loop-name-test.true c.name-item.is
      (at_job c.loop-name.trie c.take_away.new.self c.args.job c.name-item.result _ c.take_away.ensures) c.loop-name.invariant.left;
}

pub returns-clause-others : goal.returns-clause-others
returns-clause-others c = c.loop-name.invariant.others

pub returns-clause-taken : goal.returns-clause-taken
returns-clause-taken c = fewer_done (held_count c.args.trie.now c.args.job) (held_count c.loop-name.trie c.args.job) c.args.names.now c.loop-name.name-index c.loop-name-test.false c.loop-name.invariant.left
