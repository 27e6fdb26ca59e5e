use Rattle.std.proofs.Common.{refl, arith}
use Rattle.std.proofs.lemmas.Grind.{common_steps}
use Rattle.listing.specs.laws.Bytes.{written_more}
use Rattle.listing.proofs.counted.Counted.write_text.Goals as goal

pub loop-done-preserved : goal.loop-done-preserved
loop-done-preserved g c =
    let so_far = c.loop-done.invariant in
    let count = c.in_ok-done.ensures.count in
    record {
      in_range = grind (arith, common_steps, count.1);
      written = written_more _ _ _ c.args.text.now _ c.loop-done.done _ so_far.written c.in_ok-done.ensures.ok refl count.1;
      kept = grind (arith, common_steps);
    }
