-- What a look for the next name answers, in plain words: no name that a node has lies between.
use Rattle.std.specs.Prelude.{◌≡◌, ℕ, Bool, true, if◌then◌else◌, List, Option}
use Rattle.std.specs.Option.{MatchOption}
use Rattle.std.specs.Ordering.{is_lt}
use Rattle.collation.specs.Database.{Database}
use Rattle.collation.specs.Reference.{Reference}
use Rattle.globals.specs.AnswerStatements.{HasValue}
use Rattle.embedded.specs.Names.{is_name_beyond, name_cmp, name_next}

-- a node has this name
abbrev pub HasName : Database → List ℕ → Type 0
HasName m n = (x : Reference) × (x.name ≡ n) × HasValue m x

-- a node has the name, which is beyond the start
pub record IsBeyondStart (forward : Bool) (start : List ℕ) (m : Database) (n : List ℕ) : Type 0 where
  pub there : HasName m n
  pub beyond : is_name_beyond forward start n ≡ true

-- in this direction s comes before n
abbrev pub IsBeforeName : Bool → List ℕ → List ℕ → Type 0
IsBeforeName forward s n = is_lt (if forward then name_cmp s n else name_cmp n s) ≡ true

-- a node has the name, which is beyond the start, and no other such name comes before it
pub record IsNearestName (forward : Bool) (start : List ℕ) (m : Database) (n : List ℕ) : Type 0 where
  pub found : IsBeyondStart forward start m n
  pub none_between : (s : List ℕ) → IsBeyondStart forward start m s → IsBeforeName forward s n → ⊥

-- the nearest name is answered; none, where no node has a name beyond the start
abbrev pub NamesTell : Bool → List ℕ → Database → Type 0
NamesTell forward start m = MatchOption (name_next forward start m) ((s : List ℕ) → IsBeyondStart forward start m s → ⊥) (IsNearestName forward start m)
