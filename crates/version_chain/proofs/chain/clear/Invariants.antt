use Rattle.std.proofs.Common.{◌≡◌, ◌+◌, length}
use Rattle.version_chain.specs.Links.{versions, pages, AllOf}
use Rattle.version_chain.proofs.chain.clear.Given as goal

abbrev pub invariant-loop-here : goal.invariant-loop-here
invariant-loop-here g l = (l.pool.out + length (versions l.fn.link) ≡ l.initial.pool.out + length (versions l.here)) × (l.pool.pages ≡ l.initial.pool.pages) × AllOf l.pool.pages (pages l.here) × (l.pool.out + l.pool.spare ≡ l.initial.pool.out + l.initial.pool.spare)

abbrev pub decreases-loop-here : goal.decreases-loop-here
decreases-loop-here g l = length (versions l.here)
