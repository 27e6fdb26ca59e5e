-- What commands touch, in plain words.
use Rattle.std.specs.Prelude.{◌≡◌, ◌⊎◌, true, false, ◌||◌, List, [], ◌∷◌, ◌++◌, if◌then◌else◌}
use Rattle.std.specs.FinMap as finmap
use Rattle.collation.specs.Reference.{Reference}
use Rattle.collation.specs.Database.{Database}
use Rattle.journal.specs.declared.unit.Exchange.{Exchange}
use Rattle.journal.specs.History.{all_after}
use Rattle.journal.specs.Touching.{sets, kills, has_written, touched_by}

-- the last command that writes x decides: one that sets it touches it, one that kills it does where it had a value at first
pub record TouchesWhatItWrites (es : List Exchange) (m : Database) (x : Reference) : Type 0 where
  pub written : has_written es m x ≡ false → touched_by es m x ≡ false
  pub there : touched_by es m x ≡ true → (finmap.contains_key m x ≡ true) ⊎ (finmap.contains_key (all_after es m) x ≡ true)
  pub last : (e : Exchange) → touched_by (es ++ e ∷ []) m x ≡ (sets e.command (all_after es m) x || (if kills e.command x then finmap.contains_key m x else touched_by es m x))
