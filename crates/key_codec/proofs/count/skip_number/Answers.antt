use Rattle.key_codec.proofs.Counting.{past_number}
use Rattle.key_codec.proofs.count.skip_number.Goals as goal

pub returns-clause-behind : goal.returns-clause-behind
returns-clause-behind c = λ s u bounds h.
    let past = rw c.end_of.ensures at c.skip_past.ensures.behind in
    past_number c.args.negative c.in_ok-digits.field-0-0 c.args.bytes.now c.in_ok-digits.digits.now s u c.skip_past.result bounds h c.in_ok-digits.ensures.some past
