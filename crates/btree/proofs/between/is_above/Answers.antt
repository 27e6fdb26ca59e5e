use Rattle.std.proofs.Common.{arith, subst}
use Rattle.std.specs.Option.{option_map}
use Rattle.btree.specs.Order.{IsBefore}
use Rattle.btree.proofs.Leaves.{above_taken}
use Rattle.btree.proofs.between.is_above.Goals as goal

pub returns-then-at-gt0 : goal.returns-then-at-gt0
returns-then-at-gt0 g c = record {
  above = λ t. above_taken g.K.Ord.cmp g.met.K.Ord.total c.args.key.now (option_map (λ k. k.now) c.args.low) c.args.at c.args.row.now c.index-row-at.result (omega arith) (omega arith)
      (subst (λ e. IsBefore g.K.Ord.cmp c.args.key.now e) c.index-row-at.is (c.is_after.ensures t));
}
