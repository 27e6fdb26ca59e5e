use Rattle.std.proofs.Common.{◌≡◌}
use Rattle.script_run.proofs.Stands.{Stands}
use Rattle.script_run.proofs.run.run_pieces.Given as goal

-- the lines so far were answered, the answers written, and no call failed
abbrev pub invariant-pieces : goal.invariant-pieces
invariant-pieces g l = record {
  stands : Stands l.fn.script.core.machine (g.R.Read.remaining l.fn.reader.inner) (g.R.Read.remaining l.reader.inner) l.begun.items (g.W.Write.contents l.fn.writer.inner) (g.W.Write.contents l.writer.inner) l.script;
  reads : l.reader.failures ≡ l.fn.reader.failures;
  writes : l.writer.failures ≡ l.fn.writer.failures;
}
