use Rattle.std.proofs.Common.{◌∷◌}
use Rattle.journal_lines.specs.Steps.{name_text}
use Rattle.journal_lines.proofs.Gathered.{all_gathered}
use Rattle.journal_lines.proofs.locking.write_more_names.Goals as goal

pub returns-clause-ok : goal.returns-clause-ok
returns-clause-ok c = all_gathered (λ n. 44 ∷ name_text n) _ _ c.args.names.now c.names.name-index c.names-test.false c.names.invariant
