use Rattle.std.proofs.Common.{◌≡◌, length}
use Rattle.version_chain.specs.Links.{from_version}
use Rattle.version_chain.specs.Versions.{at_of}
use Rattle.version_chain.proofs.chain.at_version.Given as goal

abbrev pub invariant-loop-older : goal.invariant-loop-older
invariant-loop-older g l = at_of l.stamp (from_version l.here) ≡ at_of l.fn.stamp (from_version l.fn.newest)

abbrev pub decreases-loop-older : goal.decreases-loop-older
decreases-loop-older g l = length (from_version l.here)
