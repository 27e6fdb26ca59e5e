use Rattle.std.proofs.Common.{◌≡◌, List, length}
use denote.RawPtr.{Ptr}
use Rattle.version_chain.specs.Links.{versions, pages, AllOf, back_onto}
use Rattle.version_chain.proofs.cut.put_back.Given as goal

abbrev pub invariant-loop-kept : goal.invariant-loop-kept
invariant-loop-kept g l = (back_onto (versions l.kept) (versions l.here) ≡ back_onto (versions l.fn.kept) (versions l.fn.rest)) × ((qs : List Ptr) → AllOf qs (pages l.fn.kept) → AllOf qs (pages l.fn.rest) → AllOf qs (pages l.kept) × AllOf qs (pages l.here))

abbrev pub decreases-loop-kept : goal.decreases-loop-kept
decreases-loop-kept g l = length (versions l.kept)
