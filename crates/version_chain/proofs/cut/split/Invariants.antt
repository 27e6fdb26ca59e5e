use Rattle.std.proofs.Common.{◌≡◌, List, length}
use denote.RawPtr.{Ptr}
use Rattle.version_chain.specs.Links.{versions, pages, AllOf, back_onto, AllAfter}
use Rattle.version_chain.proofs.cut.split.Given as goal

abbrev pub invariant-loop-here : goal.invariant-loop-here
invariant-loop-here g l = (back_onto (versions l.kept) (versions l.here) ≡ versions l.fn.link) × AllAfter l.horizon (versions l.kept) × ((qs : List Ptr) → AllOf qs (pages l.fn.link) → AllOf qs (pages l.kept) × AllOf qs (pages l.here))

abbrev pub decreases-loop-here : goal.decreases-loop-here
decreases-loop-here g l = length (versions l.here)
