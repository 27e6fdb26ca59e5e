use Rattle.std.proofs.Common.{◌≡◌, drop}
use Rattle.steady_map.specs.Shown.{shown}
use Rattle.version_store.specs.Versions.{later, newest_among}
use Rattle.version_store.specs.Tied.{rows, AreOpen}
use Rattle.version_store.proofs.range.newest_of_row.Given as goal

abbrev pub invariant-loop-held : goal.invariant-loop-held
invariant-loop-held l = record {
  opened : AreOpen l.chains (shown (drop l.held-index l.row));
  same : later l.newest (newest_among (rows l.chains (shown (drop l.held-index l.row)))) ≡ newest_among (rows l.chains (shown l.row));
}
