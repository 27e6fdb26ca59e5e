-- Members of a finite map from references, from a cut on.
use Rattle.std.specs.Prelude.{not, List, filter}
use Rattle.std.specs.FinMap as finmap
use Rattle.std.specs.FinMap.{FinMap}
use Rattle.collation.specs.Reference.{Reference}
use Rattle.collation.specs.Order.{ref_cmp}
use Rattle.globals.specs.declared.cut.Cut.{Cut}
use Rattle.globals.specs.Cuts.{stands_before}

-- the members that don't stand before the cut, in order
abbrev pub members_from : {X : Type 0} → Cut → FinMap ref_cmp X → List (Reference × X)
members_from cut m = filter (λ e. not (stands_before cut e.0)) (finmap.entries m)
