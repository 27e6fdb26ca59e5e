-- Copies that are set one after another, and what takes them back.
use Rattle.std.specs.Prelude.{ℕ, List, [], ◌∷◌, Option, Some, None, if◌then◌else◌}
use Rattle.std.specs.FinMap as finmap
use Rattle.collation.specs.Reference.{Reference}
use Rattle.collation.specs.Database.{Database}

-- a reference gets the value back that it had, if it is there, or is removed where it had none
abbrev pub taken_back : Reference × Option (List ℕ) → Database → Database
taken_back (k, None) m = finmap.remove m k
taken_back (k, Some v) m = if finmap.contains_key m k then finmap.insert m k v else m

-- all of these in turn, the last first
abbrev pub all_taken_back : List (Reference × Option (List ℕ)) → Database → Database
all_taken_back [] m = m
all_taken_back (c ∷ cs) m = taken_back c (all_taken_back cs m)
