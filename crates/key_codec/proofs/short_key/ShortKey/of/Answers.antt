use Rattle.std.proofs.Common.{◌∙◌}
use Rattle.key_codec.specs.laws.Short.{short_kept, short_reads_back}
use Rattle.key_codec.proofs.short_key.ShortKey.of.Goals as goal

pub invariant_of-result : goal.invariant_of-result
invariant_of-result c =
    let key = rw c.in-Ok.is at c.encode_short.ensures.key in
    let form = rw c.in-Ok.is at c.encode_short.ensures.form in
    short_kept c.from_vec.result c.args.reference.now form (c.from_vec.ensures ∙ key)

pub returns-in-Ok-clause-key : goal.returns-in-Ok-clause-key
returns-in-Ok-clause-key c =
    let key = rw c.in-Ok.is at c.encode_short.ensures.key in
    let form = rw c.in-Ok.is at c.encode_short.ensures.form in
    short_reads_back c.from_vec.result c.args.reference.now form (c.from_vec.ensures ∙ key)
