use Rattle.std.proofs.Common.{◌≡◌, ◌++◌}
use Rattle.journal_lines.specs.Journals.{steps_from, lines_of}
use Rattle.journal_lines.proofs.Writing.{Writing}
use Rattle.journal_lines.proofs.whole.write_units.Given as goal

-- the units so far were written or are gathered, and no call failed
abbrev pub invariant-units : goal.invariant-units
invariant-units g l = record {
  steps : (goal.iterator-units g).can_next l.read-iterator × (goal.iterator-units g).is_finite l.read-iterator;
  writing : Writing (g.W.Write.contents l.fn.writer.inner) (g.W.Write.contents l.writer.inner) (l.fn.out.items ++ lines_of (steps_from l.fn.pending.items l.fn.units)) l.pending.items l.read-iterator l.out.items;
  kept : l.writer.failures ≡ l.fn.writer.failures;
}
