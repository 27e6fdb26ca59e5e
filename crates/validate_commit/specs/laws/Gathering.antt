-- $GETs leave what was there.
use Rattle.std.proofs.Common.{◌≡◌, List, [], ◌∷◌, ◌++◌, refl, ap, ◌∙◌}
use Rattle.std.proofs.lemmas.List.Elements.{All-head, All-tail}
use Rattle.collation.specs.Database.{Database}
use Rattle.journal.specs.declared.unit.Unit.{Unit as JournalUnit}
use Rattle.journal.specs.History.{State, after, after_unit}
use Rattle.journal.specs.laws.History.{after-append}
use Rattle.validate_commit.specs.Gathering.{IsRightGet, AreRightGets}

-- whatever database they are right on
pub gets_leave : (gets : List JournalUnit) (m : Database) (s : State) → AreRightGets m gets → after gets s ≡ s
gets_leave [] m s right = refl
gets_leave (unit ∷ gets) m s right =
    let first = All-head (IsRightGet m) unit gets right in
    ap (λ (u : JournalUnit). after gets (after_unit u s)) first.3 ∙ gets_leave gets m s (All-tail (IsRightGet m) unit gets right)

-- behind other units
pub gets_leave_behind : (units gets : List JournalUnit) (m : Database) (s : State) → AreRightGets m gets → after (units ++ gets) s ≡ after units s
gets_leave_behind units gets m s right = after-append units gets s ∙ gets_leave gets m (after units s) right
