use Rattle.std.proofs.Common.{◌≡◌, ◌+◌, ◌-◌, ◌^◌, min, length}
use Rattle.version_chain.specs.Links.{from_version}
use Rattle.version_chain.proofs.chain.count_from.Given as goal

-- with what is left it will be the whole
abbrev pub invariant-loop-cell : goal.invariant-loop-cell
invariant-loop-cell g l = min (l.count + length (from_version l.here)) (2 ^ 64 - 1) ≡ min (length (from_version l.fn.newest)) (2 ^ 64 - 1)

abbrev pub decreases-loop-cell : goal.decreases-loop-cell
decreases-loop-cell g l = length (from_version l.here)
