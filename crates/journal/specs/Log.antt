-- What the bytes of a log stand for, and what a log and a journal keep.
use Rattle.std.specs.Prelude.{◌≡◌, true, take, Result, Ok, Err, ℕ, ◌+◌, ◌*◌, ◌≤◌, ◌<◌, ◌^◌, List, [], ◌∷◌, length, Option, None, Some, unwrap_or, option_map}
use Rattle.std.specs.List.{flat_map}
use Rattle.journal.specs.declared.unit.Unit.{Unit as JournalUnit}
use Rattle.journal.specs.Format.{unit_bytes}
use Rattle.journal.specs.Based.{Based, IsBaseOf}
use Rattle.journal.specs.Kept.{job_of}
use Rattle.journal.specs.Counting.{is_tallied}
use Rattle.journal.specs.declared.list.Prepared.{Prepared}
use Rattle.journal.specs.Reading.{list_at, unit_at}
use Rattle.journal.specs.Stored.{Each, FitsUnit}

-- the units of a log, the bytes behind them, and how many sessions' ends have room
pub record Logged : Type 0 where
  pub units : List JournalUnit
  pub behind : List ℕ
  pub ends : ℕ

-- the first so many units of the bytes
unfoldable pub units_in : ℕ → List ℕ → List JournalUnit
units_in count bytes = unwrap_or (option_map (λ p. p.0) (list_at unit_at count bytes)) []

-- the first unit
unfoldable pub unit_in : List ℕ → Option JournalUnit
unit_in bytes = option_map (λ p. p.0) (unit_at bytes)

-- bytes that stand for these units, so many
pub record Stands (bytes : List ℕ) (count : ℕ) (units : List JournalUnit) : Type 0 where
  pub written : bytes ≡ flat_map unit_bytes units
  pub number : count ≡ length units
  pub fit : Each FitsUnit units

-- what a log keeps: its units end here
pub record KeepsUnits (bytes : List ℕ) (end count : ℕ) : Type 0 where
  pub within : end ≤ length bytes
  pub stands : Stands (take end bytes) count (units_in count (take end bytes))

-- behind so many bytes there is room for the ends of so many sessions, each of at most ten
abbrev pub KeepsRoom : ℕ → ℕ → ℕ → Type 0
KeepsRoom len ends capacity = len + ends * 10 ≤ capacity

-- all units, those that are dropped among them, how many these are, the bytes behind the units, and how many ends have room
pub record Recorded : Type 0 where
  pub units : List JournalUnit
  pub base : ℕ
  pub behind : List ℕ
  pub ends : ℕ

-- the base is what the dropped units leave, and a number of 64 bits counts all
pub record KeepsBase (b : Based) (dropped units : List JournalUnit) : Type 0 where
  pub base : IsBaseOf b dropped
  pub counted : b.number + length units < 2 ^ 64

-- bytes that are a unit of this job
pub record IsUnitOf (bytes : List ℕ) (job : ℕ) (u : JournalUnit) : Type 0 where
  pub is : unit_in bytes ≡ Some u
  pub written : bytes ≡ unit_bytes u
  pub fits : FitsUnit u
  pub owner : job ≡ job_of u

-- the unit that is prepared behind a log's units; where no job is noted there is none
abbrev pub prepared_in : Option ℕ → Recorded → Option JournalUnit
prepared_in None log = None
prepared_in (Some job) log = unit_in log.behind

-- the unit counts in its job's tally just as is noted, and if it does the job's number has room
pub record IsTallied (p : Prepared) (u : JournalUnit) (places : ℕ) : Type 0 where
  pub is : p.is_tallied ≡ is_tallied u
  pub room : p.is_tallied ≡ true → p.job < places

-- what a journal keeps: nothing behind its units, or a unit that has a number
abbrev pub HoldsPrepared : Option Prepared → Recorded → ℕ → Type 0
HoldsPrepared None log places = log.behind ≡ []
HoldsPrepared (Some p) log places = (length log.units + 1 < 2 ^ 64) × ((u : JournalUnit) × (IsUnitOf log.behind p.job u × IsTallied p u places))

-- a step of reading: the first unit, or nothing more for want of memory
abbrev pub ReadsFirst : {E : Type 0} → List JournalUnit → Option (Result JournalUnit E) → List JournalUnit → Type 0
ReadsFirst us None rest = (us ≡ []) × (rest ≡ [])
ReadsFirst us (Some (Ok u)) rest = us ≡ u ∷ rest
ReadsFirst us (Some (Err e)) rest = (0 < length us) × (rest ≡ [])
