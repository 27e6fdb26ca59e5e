use Rattle.m_text.proofs.Ends.{word_len_is}
use Rattle.m_text.proofs.front.word_len.Goals as goal

pub returns-clause-value : goal.returns-clause-value
returns-clause-value c = word_len_is c.args.text.now c.split_letters.result.0.now c.split_letters.result.1.now c.run_len.result c.split_letters.ensures.letters c.split_letters.ensures.rest c.run_len.ensures.value
