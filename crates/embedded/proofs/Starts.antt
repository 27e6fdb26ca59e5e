-- Walks from the start.
use Rattle.std.proofs.Common.{◌≡◌, ℕ, List, [], ◌∷◌, filter, refl, ap, not}
use Rattle.globals.specs.Cuts.{stands_before}
use Rattle.globals.specs.declared.cut.Cut.TheVariants.{Start}
use Rattle.collation.specs.Reference.{Reference}

-- from the start all entries are left
pub from_start : (es : List (Reference × List ℕ)) → filter (λ e. not (stands_before Start e.0)) es ≡ es
from_start [] = refl
from_start (e ∷ es) = ap (λ (l : List (Reference × List ℕ)). e ∷ l) (from_start es)
