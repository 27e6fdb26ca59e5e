-- How the records of children are gathered.
use Rattle.std.specs.Prelude.{◌≡◌, ℕ, ◌<◌, ◌≤◌, true, List, ◌++◌, length}
use Rattle.collation.specs.Answers.{order_of}
use Rattle.collation.specs.Database.{Database}
use Rattle.collation.specs.Reference.{Reference, Spot}
use Rattle.embedded.specs.Children.{child_place, child_record, child_records, place_after, AreNext}

-- the next child's record stands behind the others, within the room
pub record IsFollowed (r : Reference) (p : Spot) (m : Database) (room : ℕ) (next : Spot) (old new : List ℕ) : Type 0 where
  pub some : 0 < length (order_of true p m)
  pub place : next ≡ child_place r (order_of true p m)
  pub written : new ≡ old ++ child_record r m (order_of true p m)
  pub low : length new ≤ room

-- the records of some children stand in the text, and this is the place of the last
pub record IsUnderWay (r : Reference) (p : Spot) (m : Database) (place : Spot) (text : List ℕ) : Type 0 where
  pub children : List (List ℕ)
  pub next : AreNext r p m children
  pub some : 0 < length children
  pub at : place ≡ place_after r p children
  pub records : text ≡ child_records r m children
