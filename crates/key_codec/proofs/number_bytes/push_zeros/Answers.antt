use Rattle.std.proofs.Common.{◌≡◌, ◌∙◌, ◌-◌, ◌+◌, suc, arith}
use Rattle.key_codec.specs.laws.Grown.{goes_on_more, goes_on_then}
use Rattle.key_codec.proofs.Showing.{zeros_more}
use Rattle.key_codec.proofs.number_bytes.push_zeros.Goals as goal

pub loop-preserved : goal.loop-preserved
loop-preserved c =
    let pushed = c.in_ok-push.ensures in
    let one : c.args.count - c.loop.counter ≡ suc (c.args.count - (c.loop.counter + 1)) = omega (arith, c.loop-test.true) in
    record {
      written = zeros_more c.loop.out.items c.push.new.self.items (c.args.count - c.loop.counter) (c.args.count - (c.loop.counter + 1)) pushed.items one ∙ c.loop.invariant.written;
      kept = goes_on_then _ _ _ c.loop.invariant.kept (goes_on_more _ _ _ pushed.items);
    }
