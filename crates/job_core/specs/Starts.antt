-- The start stamps of open transactions: in a slab, and each job's place there by the job's number.
use Rattle.std.specs.Prelude.{◌≡◌, ◌≢◌, ◌≤◌, ℕ, List, Option, None, Some, min, refl, slice_index_or}
use Rattle.std.specs.Coded.{Coded, code_by, coded×, coded_ℕ, coded_list}
use Rattle.slab.specs.Slab.{Slab, slab_code, get, Updates, SameValues}

-- the stamps, and the places of jobs
pub record Starts : Type 0 where
  pub stamps : Slab ℕ
  pub places : List ℕ

abbrev pub starts_code : Coded Starts
starts_code =
    code_by (Slab ℕ × List ℕ) (coded× (slab_code coded_ℕ) (coded_list coded_ℕ))
    (λ s. (s.stamps, s.places)) (λ p. record { stamps = p.0; places = p.1 }) (λ _. refl)

-- a job's place, which tells something only while its transaction is open
abbrev pub place_of : Starts → ℕ → ℕ
place_of s job = slice_index_or s.places job 0

-- the start of each open transaction, by its job, is at the job's place, and nothing else is in the slab
pub record AreStarts (s : Starts) (begun : ℕ → Option ℕ) : Type 0 where
  pub there : (job stamp : ℕ) → begun job ≡ Some stamp → get s.stamps (place_of s job) ≡ Some stamp
  pub owned : (place stamp : ℕ) → get s.stamps place ≡ Some stamp → (job : ℕ) × (begun job ≡ Some stamp) × (place_of s job ≡ place)
  pub alone : (job other start later : ℕ) → begun job ≡ Some start → begun other ≡ Some later → place_of s job ≡ place_of s other → job ≡ other

-- the stamp is the least of all
pub record IsLeastIn (stamp : ℕ) (s : Starts) : Type 0 where
  pub from : (place other : ℕ) → get s.stamps place ≡ Some other → stamp ≤ other
  pub place : ℕ
  pub there : get s.stamps place ≡ Some stamp

-- there is none
abbrev pub IsBare : Starts → Type 0
IsBare s = (place : ℕ) → get s.stamps place ≡ None

-- there may be more room
pub record IsSameButRoom (old new : Starts) : Type 0 where
  pub stamps : SameValues old.stamps new.stamps
  pub places : (job : ℕ) → place_of new job ≡ place_of old job

-- a job's stamp is put where there was none
pub record HasBegun (job stamp : ℕ) (old new : Starts) : Type 0 where
  pub free : get old.stamps (place_of new job) ≡ None
  pub put : Updates old.stamps new.stamps (place_of new job) (Some stamp)
  pub others : (other : ℕ) → other ≢ job → place_of new other ≡ place_of old other

-- what is at a job's place is changed
pub record HasChanged (job : ℕ) (stamp : Option ℕ) (old new : Starts) : Type 0 where
  pub put : Updates old.stamps new.stamps (place_of old job) stamp
  pub places : new.places ≡ old.places

abbrev pub lesser_of : Option ℕ → ℕ → ℕ
lesser_of None n = n
lesser_of (Some m) n = min m n
