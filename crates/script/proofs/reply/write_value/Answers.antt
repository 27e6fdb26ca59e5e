use Rattle.key_codec.specs.laws.Grown.{goes_on_either}
use Rattle.script.proofs.reply.write_value.Goals as goal

pub returns-clause-kept : goal.returns-clause-kept
returns-clause-kept c = goes_on_either c.write_literal.result _ _ _ c.write_literal.ensures.ok c.write_literal.ensures.err
