-- Chains of which it is known that a cut drops nothing, so that a write need not look at their older versions.
use Rattle.std.specs.Prelude.{◌≡◌, ◌<◌, ℕ, suc, max, ◌==◌, List, [], ◌∷◌, if◌then◌else◌}
use Rattle.version_chain.specs.Versions.{Entry, IsAbove}
use Rattle.version_chain.specs.Cut.{cut_of}
use Rattle.version_chain.specs.Chains.{ChainsState, versions_at}

module _ {V : Type 0} where
  -- the newest version is after the stamp
  abbrev pub IsNewerThan : ℕ → List (Entry V) → Type 0
  IsNewerThan stamp [] = ⊥
  IsNewerThan stamp (v ∷ vs) = stamp < v.0

  -- no version is after `latest`; and where the newest is after `since`, a cut at the horizon drops none
  abbrev pub IsTidy : ℕ → ℕ → ℕ → List (Entry V) → Type 0
  IsTidy horizon since latest vs = IsAbove (suc latest) vs × (IsNewerThan since vs → cut_of horizon vs ≡ vs)

  abbrev pub AreTidy : ℕ → ℕ → ℕ → ChainsState V → Type 0
  AreTidy horizon since latest s = (id : ℕ) → IsTidy horizon since latest (versions_at s id)

-- the stamp since which chains are known to be tidy, once writes cut at the horizon `now`: where it is another, none is
abbrev pub since_at : ℕ → ℕ → ℕ → ℕ → ℕ
since_at now horizon since latest = if now == horizon then since else max latest now
