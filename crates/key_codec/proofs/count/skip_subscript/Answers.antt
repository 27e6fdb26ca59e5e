use Rattle.key_codec.proofs.Counting.{past_text}
use Rattle.key_codec.proofs.count.skip_subscript.Goals as goal

pub returns-in-5-clause-behind : goal.returns-in-5-clause-behind
returns-in-5-clause-behind c = λ s u bounds h.
    let first = rw c.in-5.is at c.in_ok-tag.ensures.some in
    past_text c.args.bytes.now c.in_ok-tag.behind.now s u c.skip_past.result bounds h first c.skip_past.ensures.behind
