-- What contracts see of the desk at the end.
use Rattle.std.specs.Prelude.{ℕ, List}
use Rattle.journal.specs.declared.unit.Unit.{Unit as JournalUnit}
use Rattle.journal.specs.Kept.{Claim}
use Rattle.pin_board.specs.declared.view.SeatView.{SeatView}
use Rattle.pin_board.specs.Views.{desk_in}

-- all units, how many slips were given and how many came back, and what is on these
pub record Tallied : Type 0 where
  pub units : List JournalUnit
  pub given : ℕ
  pub returned : ℕ
  pub back : List Claim
  pub known : List (List JournalUnit)

abbrev pub tallied : List JournalUnit → ℕ → ℕ → List Claim → List (List JournalUnit) → Tallied
tallied units given returned back known = record { units = units; given = given; returned = returned; back = back; known = known }

-- what is on the slip of a session that has ended: its units, and the beginning of the journal that it knew of last
pub record Slipped : Type 0 where
  pub mine : List Claim
  pub known : List (List JournalUnit)

abbrev pub slipped : List Claim → List (List JournalUnit) → Slipped
slipped mine known = record { mine = mine; known = known }

abbrev pub tally_of : SeatView → Tallied
tally_of v = tallied (desk_in v).log (desk_in v).given v.slips v.back v.known
