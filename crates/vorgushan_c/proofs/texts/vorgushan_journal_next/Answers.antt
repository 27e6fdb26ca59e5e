use Rattle.std.proofs.Common.{rules}
use Rattle.vorgushan_c.proofs.Called.{called}
use Rattle.vorgushan_c.proofs.texts.vorgushan_journal_next.Goals as goal

pub returns : goal.returns
returns c =
    called _ _ _ _ _ c.deref_mut.result.now c.copy_journal_lines-outcome.new.self c.copy_journal_lines-outcome.result (search rules) (search rules) (search rules) c.copy_journal_lines-outcome.ensures
