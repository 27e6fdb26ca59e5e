use Rattle.std.proofs.Common.{◌∙◌}
use Rattle.key_codec.proofs.Children.{kept, reads_back}
use Rattle.key_codec.proofs.key.Key.of.Goals as goal

pub invariant_of-result : goal.invariant_of-result
invariant_of-result c = kept c.from_vec.result c.args.reference.now c.in_ok-bytes.ensures.form (c.from_vec.ensures ∙ c.in_ok-bytes.ensures.key)

pub returns : goal.returns
returns c = reads_back c.from_vec.result c.args.reference.now c.in_ok-bytes.ensures.form (c.from_vec.ensures ∙ c.in_ok-bytes.ensures.key)
