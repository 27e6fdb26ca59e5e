-- Which name a look for the next one answers: each is one that a node has, and no other lies between.
-- Read names_of, name_next, IsName, IsNameAt.
use Rattle.std.specs.Prelude.{◌≡◌, ◌⊎◌, ℕ, Bool, true, false, if◌then◌else◌, List, [], ◌∷◌, map, filter, codes, Option}
use Rattle.std.specs.declared.cmp.Ordering.{Ordering}
use Rattle.std.specs.Cmp.Lexicographic.{slice_cmp}
use Rattle.std.specs.FinMap as finmap
use Rattle.std.specs.Option.{MatchOption}
use Rattle.std.specs.Ordering.{nat_cmp, is_lt}
use Rattle.refusal.specs.declared.Refusal.{Refusal}
use Rattle.collation.specs.Answers.{is_forward}
use Rattle.collation.specs.Database.{Database}
use Rattle.collation.specs.Nearest.{nearest}
use Rattle.collation.specs.Reference.{Reference}
use Rattle.collation.specs.declared.direction.Direction.{Direction}
use Rattle.key_codec.specs.Draft.{IsDueOrMemory, reference_due}
use Rattle.journal.specs.Story.{Machine}
use Rattle.embedded.specs.Calls.{IsCopied, IsLeft}
use Rattle.embedded.specs.Looks.{IsLeftFor}
use Rattle.embedded.specs.Moments.{database_at, unseen}
use Rattle.embedded.specs.declared.outcome.Outcome.{Outcome}
use Rattle.embedded.specs.declared.outcome.Outcome.TheVariants.{AtEnd, Done, Refused as RefusedCall}

-- the order of names: by their bytes
abbrev pub name_cmp : List ℕ → List ℕ → Ordering
name_cmp = slice_cmp nat_cmp

-- the names of the members of a database, in order, each as often as members have it
abbrev pub names_of : Database → List (List ℕ)
names_of m = map (λ r. r.name) (finmap.keys m)

-- the name n comes after the start, or (not forward) before it. An empty start comes before all, and backward after all
abbrev pub is_name_beyond : Bool → List ℕ → List ℕ → Bool
is_name_beyond forward [] n = true
is_name_beyond forward (b ∷ bs) n = if forward then is_lt (name_cmp (b ∷ bs) n) else is_lt (name_cmp n (b ∷ bs))

-- the nearest name beyond the start, where there is one
abbrev pub name_next : Bool → List ℕ → Database → Option (List ℕ)
name_next forward start m = nearest forward (filter (is_name_beyond forward start) (names_of m))

-- that name was copied; or no node's name is left, and that is told
abbrev pub IsName : List ℕ → Direction → Database → Outcome → List ℕ → List ℕ → ℕ → Type 0
IsName start direction m result old new wanted =
    MatchOption (name_next (is_forward direction) start m) (IsLeft AtEnd result old new wanted) (λ name. IsCopied name Done result old new wanted)

-- no name comes after this one, as long as a name may be
abbrev pub greatest_name : List ℕ
greatest_name = codes "zzzzzzzzzzzzzzzzzzzzzzzzzzzzzzz"

-- the name by which an empty start is sought
abbrev pub sought_name : List ℕ → List ℕ
sought_name [] = greatest_name
sought_name (b ∷ bs) = b ∷ bs

-- the reference of a name alone
abbrev pub bare : List ℕ → Reference
bare name = record { name = name; subscripts = [] }

-- the start is neither empty nor a name, or memory is refused
abbrev pub IsStartCause : List ℕ → Refusal → Type 0
IsStartCause start refusal = IsDueOrMemory refusal (reference_due (bare (sought_name start)))

-- the next name at a moment; where nothing is seen, why is told; or the start was refused
abbrev pub IsNameAt : ℕ → Machine → List ℕ → Direction → Outcome → List ℕ → List ℕ → ℕ → Type 0
IsNameAt moment s start direction result old new wanted =
    MatchOption (database_at moment s) (IsLeft (RefusedCall (unseen moment)) result old new wanted) (λ m. IsName start direction m result old new wanted)
    ⊎ IsLeftFor (λ refusal. IsStartCause start refusal) result old new wanted
