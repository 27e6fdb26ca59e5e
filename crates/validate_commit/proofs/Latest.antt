-- Where no version is after a stamp, none is newer than a later start.
use Rattle.std.proofs.Common.{◌≡◌, ℕ, suc, ◌≤◌, ◌<◌, List, [], ◌∷◌, arith, Some}
use Rattle.std.specs.Prelude.{Bool}
use Rattle.collation.specs.Reference.{Reference}
use Rattle.version_chain.specs.Versions.{newest_of, IsAbove}
use Rattle.version_store.specs.Versions.{Row, Versions, versions_of}
use Rattle.validate_commit.specs.Newer.{NoneNewerIn}

not_after : (row : Row) (latest start t : ℕ) → IsAbove (suc latest) row → newest_of row ≡ Some t → latest ≤ start → start < t → ⊥
not_after [] latest start t above newest low late = cc
not_after (v ∷ vs) latest start t above newest low late = let same : v.0 ≡ t = cc in omega (arith, same, above, low, late)

pub none_after : (m : Versions) (latest start : ℕ) (test : Reference → Bool) → ((x : Reference) → IsAbove (suc latest) (versions_of m x)) → latest ≤ start → NoneNewerIn m start test
none_after m latest start test above low x inside newer = not_after (versions_of m x) latest start newer.stamp (above x) newer.newest low newer.later
