-- What a turn of the collector leaves, and what it counts.
-- Read row_left and after_horizon, then IsProgress; which keys are next in turn stands in version_store/specs/Versions.
use Rattle.std.specs.Prelude.{◌≡◌, ◌+◌, ◌-◌, ℕ, Bool, true, false, not, leb, min, if◌then◌else◌, List, [], ◌∷◌, Option, Some, None, length, filter}
use Rattle.std.specs.List.{list_any}
use Rattle.std.specs.Ordering.{eq_by_cmp}
use Rattle.std.specs.FinMap as finmap
use Rattle.collation.specs.Reference.{Reference}
use Rattle.collation.specs.Order.{ref_cmp}
use Rattle.version_chain.specs.Cut.{left_after}
use Rattle.version_store.specs.Versions.{Row, Versions, versions_of, is_bare}
pub use Rattle.version_chain.specs.Versions.{is_one_value}
pub use Rattle.version_store.specs.Versions.{last_or}
use Rattle.collector.specs.declared.turning.Progress.{Progress}

-- a row, or none where no version is left
abbrev pub kept : Row → Option Row
kept [] = None
kept (v ∷ vs) = Some (v ∷ vs)

-- the reference is one of these
abbrev pub is_among : List Reference → Reference → Bool
is_among rs r = list_any (eq_by_cmp ref_cmp r) rs

-- what is left of a reference once these are visited
abbrev pub row_left : ℕ → List Reference → Versions → Reference → Option Row
row_left horizon visits m r = if is_among visits r then kept (left_after horizon (versions_of m r)) else finmap.get m r

-- the versions after the horizon
abbrev pub after_horizon : ℕ → Row → Row
after_horizon horizon vs = filter (λ v. not (leb v.0 horizon)) vs

-- how many versions of these references go
abbrev pub versions_gone : ℕ → Versions → List Reference → ℕ
versions_gone horizon m [] = 0
versions_gone horizon m (r ∷ rs) = (length (versions_of m r) - length (left_after horizon (versions_of m r))) + versions_gone horizon m rs

-- how many of these references have no version left
abbrev pub keys_gone : ℕ → Versions → List Reference → ℕ
keys_gone horizon m rs = length (filter (λ r. is_bare (Some (left_after horizon (versions_of m r)))) rs)

-- the counts of a turn over these references; no key without a version is left
pub record IsProgress (horizon : ℕ) (visits : List Reference) (m : Versions) (progress : Progress) : Type 0 where
  pub visited : progress.visited ≡ length visits
  pub dropped : progress.dropped ≡ min 18446744073709551615 (versions_gone horizon m visits)
  pub removed : progress.removed ≡ keys_gone horizon m visits
  pub left : progress.left ≡ 0

-- ---- what a visit of keys asks for

-- each reference is placed
abbrev pub AreAllPlaced : Versions → List Reference → Type 0
AreAllPlaced m [] = Unit {0}
AreAllPlaced m (r ∷ rs) = (finmap.contains_key m r ≡ true) × AreAllPlaced m rs

-- each stands there once
abbrev pub AreDistinct : List Reference → Type 0
AreDistinct [] = Unit {0}
AreDistinct (r ∷ rs) = (is_among rs r ≡ false) × AreDistinct rs
