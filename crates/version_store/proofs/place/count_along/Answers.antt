use Rattle.std.proofs.Common.{◌∙◌, arith}
use Rattle.version_store.proofs.PlaceLemmas.{keys_left, placed_along}
use Rattle.version_store.proofs.place.count_along.Goals as goal

pub loop-key-preserved : goal.loop-key-preserved
loop-key-preserved c =
    let now = c.loop-key.invariant in
    record {
      counted = omega (arith, now.counted);
      left = λ m keys. (let both = keys_left m _ _ _ c.in-Some.ensures.steps (now.left m keys) in both.1);
      along = λ m keys.
          (let both = keys_left m _ _ _ c.in-Some.ensures.steps (now.left m keys) in
          placed_along m c.args.changes.now c.loop-key.key-index c.loop-key-item.result c.in-Some.placed.now c.loop-key-test.true c.loop-key-item.is c.in-Equal.ensures both.0 ∙ now.along m keys);
    }
