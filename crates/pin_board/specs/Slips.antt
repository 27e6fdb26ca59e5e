-- Which units are on which slip, and that the slips together are the journal.
use Rattle.std.specs.Prelude.{◌≡◌, ℕ, ◌+◌, ◌≤◌, List, [], ◌∷◌, ◌++◌, length, take, Option, Some, None, slice_get}
use Rattle.std.specs.List.{All, sum_by}
use mathlib.Core.Option.{some}
use lib.ListN.{get_elem?}
use Rattle.journal.specs.declared.unit.Unit.{Unit as JournalUnit}
use Rattle.journal.specs.Kept.{Claim, claims_of, job_of}
use Rattle.pin_board.specs.declared.view.PinView.{PinView}
use Rattle.pin_board.specs.declared.view.SeatView.{SeatView}

-- the unit is in the journal at this number, the first at 1
abbrev pub IsInJournal : List JournalUnit → Claim → Type 0
IsInJournal log c = (k : ℕ) × (c.number ≡ k + 1) × (slice_get log k ≡ Some c.unit)

-- each of these units is in the journal at its number
pub record AreInJournal (log : List JournalUnit) (mine : List Claim) : Type 0 where
  pub each : All (IsInJournal log) mine

-- the journal goes on from these units
pub record IsBeginning (log seen : List JournalUnit) : Type 0 where
  pub within : length seen ≤ length log
  pub is : seen ≡ take (length seen) log

-- the claim is that of the unit that comes after these
pub record IsNext (log : List JournalUnit) (c : Claim) : Type 0 where
  pub number : c.number ≡ length log + 1
  pub job : c.job ≡ job_of c.unit

abbrev pub weigh : (Claim → ℕ) → List Claim → ℕ
weigh h mine = sum_by h mine

-- these are the units of the journal, each at its number once
abbrev pub AreAll : List JournalUnit → List Claim → Type 0
AreAll log mine = (h : Claim → ℕ) → weigh h mine ≡ weigh h (claims_of 1 log)

-- how many slips a seat has: its session's, and those that were taken off a session's seat or came back
abbrev pub slips_of : ℕ → Option PinView → ℕ
slips_of n None = n
slips_of n (Some p) = p.slips + n

abbrev pub units_of : List Claim → Option PinView → List Claim
units_of back None = back
units_of back (Some p) = back ++ p.mine

abbrev pub slips_in : SeatView → ℕ
slips_in v = slips_of v.slips v.pin

-- the units on these slips
abbrev pub units_in : SeatView → List Claim
units_in v = units_of v.back v.pin

-- what is on a seat's slips is in the journal, or begins it, and a seat without a slip has no units
pub record SlipFacts (log : List JournalUnit) (v : SeatView) : Type 0 where
  pub in_journal : AreInJournal log (units_in v)
  pub empty : slips_in v ≡ 0 → units_in v ≡ []
  pub known : All (IsBeginning log) v.known

-- each unit was written on one slip
pub record SlipsAddUp (log : List JournalUnit) (given : ℕ) (views : List SeatView) : Type 0 where
  pub writes : (j : ℕ) (v : SeatView) → get_elem? views j ≡ some v → SlipFacts log v
  pub slips : sum_by slips_in views ≡ given
  pub units : (h : Claim → ℕ) → sum_by (λ (v : SeatView). weigh h (units_in v)) views ≡ weigh h (claims_of 1 log)
