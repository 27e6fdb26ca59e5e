use Rattle.key_codec.specs.laws.Grown.{goes_on_either}
use Rattle.script.proofs.reply.write_answer.Goals as goal

pub returns-in-Found-clause-kept : goal.returns-in-Found-clause-kept
returns-in-Found-clause-kept c = goes_on_either c.write_key.result _ _ _ c.write_key.ensures.ok c.write_key.ensures.err
