use Rattle.std.proofs.Common.{◌∙◌, sym}
use Rattle.m_text.proofs.QuotedRuns.{cut_doubled, not_doubled}
use Rattle.m_text.proofs.quoted.split_doubled.Goals as goal

pub returns-in_err-at : goal.returns-in_err-at
returns-in_err-at c = rw c.from_residual.ensures (not_doubled c.args.text.now (sym c.quote_in.ensures ∙ c.in_err-at.was))

pub returns : goal.returns
returns c = cut_doubled c.args.text.now c.split_around.result.0.now c.split_around.result.1.now c.in_ok-at.at (sym c.quote_in.ensures ∙ c.in_ok-at.was) c.split_around.ensures.before c.split_around.ensures.behind
