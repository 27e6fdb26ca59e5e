use Rattle.std.proofs.Common.{◌∙◌, sym}
use Rattle.m_text.specs.Place as place
use Rattle.m_text.proofs.Ends.{ends_nowhere}
use Rattle.m_text.proofs.front.run_len.Goals as goal

pub returns-in-None-clause-value : goal.returns-in-None-clause-value
returns-in-None-clause-value c = ends_nowhere place.ends_word c.args.text.now (sym c.word_end.ensures ∙ c.in-None.is)
