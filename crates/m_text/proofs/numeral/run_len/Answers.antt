use Rattle.std.proofs.Common.{◌∙◌, sym}
use Rattle.m_text.specs.Literal as literal
use Rattle.m_text.proofs.Ends.{ends_nowhere}
use Rattle.m_text.proofs.numeral.run_len.Goals as goal

pub returns-in-None-clause-value : goal.returns-in-None-clause-value
returns-in-None-clause-value c = ends_nowhere literal.ends_number c.args.text.now (sym c.number_end.ensures ∙ c.in-None.is)
