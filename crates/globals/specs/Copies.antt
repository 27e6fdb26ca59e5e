-- What MERGE copies from one reference to another.
use Rattle.std.specs.Prelude.{ℕ, Bool, nat_lt, List, length, map}
use Rattle.collation.specs.Limits.{most_subscripts}
use Rattle.collation.specs.Reference.{Reference}
use Rattle.collation.specs.Database.{Database}
use Rattle.collation.specs.Answers.{moved, subtree_of}

-- the copy of an entry
abbrev pub copied : Reference → Reference → Reference × List ℕ → Reference × List ℕ
copied a b e = (moved a b e.0, e.1)

-- all that stands at or under b, moved to a
abbrev pub all_copies : Reference → Reference → Database → List (Reference × List ℕ)
all_copies a b m = map (copied a b) (subtree_of b m)

-- an entry whose reference has too many subscripts
abbrev pub is_deep : Reference × List ℕ → Bool
is_deep e = nat_lt most_subscripts (length e.0.subscripts)
