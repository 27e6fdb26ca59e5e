use Rattle.std.proofs.Common.{◌≡◌}
use Rattle.std.specs.Io.KnownBytes.{Consumes}
use Rattle.listing.proofs.whole.read_all.Given as goal

-- what was read so far is the text, and no call failed
abbrev pub invariant-pieces : goal.invariant-pieces
invariant-pieces g l = record {
  read : Consumes (g.R.Read.remaining l.fn.reader.inner) (g.R.Read.remaining l.reader.inner) l.text.items;
  kept : l.reader.failures ≡ l.fn.reader.failures;
}
