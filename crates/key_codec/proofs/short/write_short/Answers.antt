use Rattle.std.proofs.Common.{ap, ◌∙◌}
use Rattle.key_codec.specs.Short.{are_short}
use Rattle.key_codec.specs.laws.Short.{short_within}
use Rattle.key_codec.specs.laws.Key.{not_too_many}
use Rattle.collation.specs.Faults.{reference_fault}
use Rattle.key_codec.proofs.short.write_short.Goals as goal

pub push_short_subscripts-requires : goal.push_short_subscripts-requires
push_short_subscripts-requires c = short_within c.subscripts.result.now (not_too_many c.subscripts.result.now (ap reference_fault c.subscripts.ensures.value ∙ c.subscripts.ensures.form)) (ap are_short c.subscripts.ensures.value ∙ c.requires)
