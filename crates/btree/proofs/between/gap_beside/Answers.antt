use Rattle.std.proofs.Common.{◌≤◌, length, arith, refl}
use Rattle.std.specs.Option.{option_map}
use Rattle.btree.proofs.Leaves.{missed_at, within_at}
use Rattle.btree.proofs.between.gap_beside.Goals.{in-Less, in-Greater}
use Rattle.btree.proofs.between.gap_beside.Goals as goal

pub returns-then-goes_to-clause-missed : goal.returns-then-goes_to-clause-missed
returns-then-goes_to-clause-missed g c = λ _.
    let within : c.match-cmp.gap ≤ length c.args.row.now = elim c.match-cmp.branch [ in-Less w ↦ omega arith | in-Greater w ↦ omega arith ] in
    missed_at g.K.Ord.cmp g.met.K.Ord.total c.args.key.now (option_map (λ k. k.now) c.args.low) (option_map (λ k. k.now) c.args.high) c.match-cmp.gap c.args.row.now within c.requires.sorted c.requires.inside (c.if-goes_to.ensures.above refl) (c.if-goes_to.ensures.below refl)

pub returns-then-goes_to-clause-within : goal.returns-then-goes_to-clause-within
returns-then-goes_to-clause-within g c = λ _.
    let within : c.match-cmp.gap ≤ length c.args.row.now = elim c.match-cmp.branch [ in-Less w ↦ omega arith | in-Greater w ↦ omega arith ] in
    within_at g.K.Ord.cmp g.met.K.Ord.total c.args.key.now (option_map (λ k. k.now) c.args.low) (option_map (λ k. k.now) c.args.high) c.match-cmp.gap c.args.row.now within c.requires.sorted c.requires.inside (c.if-goes_to.ensures.above refl) (c.if-goes_to.ensures.below refl)
