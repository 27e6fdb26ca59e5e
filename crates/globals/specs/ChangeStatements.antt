-- What SET, the kills, MERGE and $INCREMENT leave, reference by reference. The law functions of `laws.rt` prove each.
use Rattle.std.specs.Prelude.{◌≡◌, ℕ, List, None, Some, if◌then◌else◌}
use Rattle.std.specs.Option.{option_or}
use Rattle.std.specs.FinMap as finmap
use Rattle.command.specs.declared.access.DataCommand.TheVariants.{Set, Kill, Merge, Increment}
use Rattle.collation.specs.Reference.{Reference}
use Rattle.collation.specs.Order.{ref_eq}
use Rattle.collation.specs.Database.{Database, is_under}
use Rattle.collation.specs.Answers.{moved}
use Rattle.command.specs.Data.{data_after, sum_at, takes}
use Rattle.command.specs.declared.access.Extent.{Extent}

-- after SET r has the value v, and each other reference what it had
abbrev pub SetSetsOne : Type 0
SetSetsOne = (m : Database) (r : Reference) (v : List ℕ) (q : Reference) → finmap.get (data_after (Set r v) m) q ≡ (if ref_eq q r then Some v else finmap.get m q)

-- after a kill nothing that it takes has a value, and each other reference has what it had
abbrev pub KillTakesItsExtent : Type 0
KillTakesItsExtent = (m : Database) (r : Reference) (extent : Extent) (q : Reference) → finmap.get (data_after (Kill r extent) m) q ≡ (if takes extent r q then None else finmap.get m q)

-- after $INCREMENT r has the sum, and each other reference what it had
abbrev pub IncrementSetsTheSum : Type 0
IncrementSetsTheSum = (m : Database) (r : Reference) (n : List ℕ) (q : Reference) → finmap.get (data_after (Increment r n) m) q ≡ (if ref_eq q r then Some (sum_at r n m) else finmap.get m q)

-- after MERGE a reference at or under a has the value of what it is a copy of under b, where that had one; each other has what it had
abbrev pub MergeCopiesSubtree : Type 0
MergeCopiesSubtree = (m : Database) (a b q : Reference) → finmap.get (data_after (Merge a b) m) q ≡ (if is_under a q then option_or (finmap.get m (moved b a q)) (finmap.get m q) else finmap.get m q)
