use Rattle.key_codec.specs.laws.Short.{short_keys_cmp, one_short_key, key_lengthened}
use Rattle.key_codec.proofs.laws.old_keys_are_as_references.Goals as goal

pub returns-clause-order : goal.returns-clause-order
returns-clause-order c = short_keys_cmp

pub returns-clause-one_reference : goal.returns-clause-one_reference
returns-clause-one_reference c = one_short_key

pub returns-clause-lengthened : goal.returns-clause-lengthened
returns-clause-lengthened c = key_lengthened
