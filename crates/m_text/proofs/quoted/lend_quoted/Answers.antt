use Rattle.std.proofs.Common.{sym, ◌∙◌}
use Rattle.m_text.proofs.Lent.{lent}
use Rattle.m_text.proofs.quoted.lend_quoted.Goals as goal

pub returns-else-goes_on : goal.returns-else-goes_on
returns-else-goes_on c =
    lent c.args.text.now c.in_ok-quoted.quoted.now c.in_ok-run.run'.now c.in_ok-run.rest.now c.in_ok-quoted.ensures.0 c.in_ok-quoted.ensures.1 c.in_ok-run.ensures.0 (sym c.goes_on.ensures ∙ c.if-goes_on.false)
