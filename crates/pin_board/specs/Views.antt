-- What seats know, and how each call changes it. The contracts of the board cite this file.
use Rattle.std.specs.Prelude.{◌≡◌, ℕ, ◌+◌, ◌<◌, ◌≤◌, ltb, min, max, true, false, cond, List, [], ◌∷◌, ◌++◌, length, take, Option, Some, None}
use Rattle.std.specs.List.{fold, All}
use Rattle.atomic_table.specs.Table.{Me}
use Rattle.journal.specs.declared.unit.Unit.{Unit as JournalUnit}
use Rattle.journal.specs.declared.unit.Unit.TheVariants.{End}
use Rattle.journal.specs.Kept.{Claim}
use Rattle.pin_board.specs.declared.view.DeskView.{DeskView}
use Rattle.pin_board.specs.declared.view.PinView.{PinView}
use Rattle.pin_board.specs.declared.view.SeatView.{SeatView}
use Rattle.pin_board.specs.Slips.{AreInJournal, IsBeginning, AreAll}

-- the word of an idle slot, which lowers no horizon
abbrev pub idle : ℕ
idle = 18446744073709551615

-- the least of the clock that the draw read and of the stamps that it has loaded so far
abbrev pub least : DeskView → ℕ
least d = fold min d.read d.loaded

-- the stamp at which a session reads: the number of units at its start
abbrev pub start_of : PinView → Option ℕ
start_of p = cond p.settled (Some (length p.base)) None

abbrev pub new_desk : ℕ → DeskView
new_desk seats = record { log = []; given = 0; high = 0; seats = seats; dealt = 0; read = 0; raised = false; floor = 0; loaded = [] }

abbrev pub new_pin : ℕ → PinView
new_pin place = record { place = place; held = idle; base = []; settled = false; refused = 0; slips = 0; mine = []; seen = [] }

-- a session: it reads the clock, stores a stamp in its slot, loads the floor, makes its slot idle
abbrev pub clocked : PinView → List JournalUnit → PinView
clocked p b = record p { base = b }

abbrev pub stored : PinView → ℕ → PinView
stored p x = record p { held = x }

-- it is settled, unless the floor was above its stamp
abbrev pub checked : PinView → ℕ → PinView
checked p n = cond (ltb (length p.base) n) (record p { refused = p.refused + 1 }) (record p { settled = true; seen = p.base })

abbrev pub rested : PinView → PinView
rested p = record p { held = idle; settled = false }

-- the desk: it reads the clock, raises the floor to it, loads one slot after the other, and has its horizon
abbrev pub began : DeskView → ℕ → DeskView
began d n = record d { read = n; raised = false; loaded = [] }

abbrev pub lifted : DeskView → DeskView
lifted d = record d { raised = true; floor = max d.floor d.read }

abbrev pub passed : DeskView → ℕ → DeskView
passed d x = record d { loaded = d.loaded ++ x ∷ [] }

abbrev pub drew : DeskView → DeskView
drew d = record d { high = max d.high (least d) }

-- seats of smaller places than this are dealt
abbrev pub dealing : DeskView → ℕ → DeskView
dealing d n = record d { dealt = n }

abbrev pub dealt_one : DeskView → DeskView
dealt_one d = dealing d (d.dealt + 1)

-- a unit is written, which raises the clock; and a session's start is moved to now
abbrev pub logged : DeskView → Claim → DeskView
logged d c = record d { log = d.log ++ c.unit ∷ [] }

abbrev pub wrote : DeskView → PinView → Claim → PinView
wrote d p c = record p { mine = p.mine ++ c ∷ []; seen = d.log ++ c.unit ∷ [] }

abbrev pub rebased : DeskView → PinView → PinView
rebased d p = record p { base = d.log; seen = d.log }

-- a session knows the journal of now
abbrev pub aware : DeskView → PinView → PinView
aware d p = record p { seen = d.log }

-- under the lock a session is settled at now
abbrev pub settled_now : DeskView → PinView → PinView
settled_now d p = record p { base = d.log; held = length d.log; settled = true; seen = d.log }

-- a session is given a slip, which is taken off its seat when it ends; it knows the journal of now
abbrev pub gave : DeskView → DeskView
gave d = record d { given = d.given + 1 }

abbrev pub with_slip : DeskView → PinView → PinView
with_slip d p = record p { slips = 1; seen = d.log }

abbrev pub without_slip : PinView → PinView
without_slip p = record p { slips = 0; mine = [] }

-- what a session learns under the lock: no horizon is above its stamp, its base begins the journal, neither a horizon nor
-- the floor is above the number of units, and its seat was dealt
pub record Met (d : DeskView) (p : PinView) : Type 0 where
  pub below : p.settled ≡ true → d.high ≤ length p.base
  pub slot : p.settled ≡ true → (d.high ≤ p.held) × (p.held ≤ length p.base)
  pub before : length p.base ≤ length d.log
  pub base : p.base ≡ take (length p.base) d.log
  pub mine : AreInJournal d.log p.mine
  pub seen : IsBeginning d.log p.seen
  pub high : d.high ≤ length d.log
  pub floor : d.floor ≤ length d.log
  pub placed : p.place < d.dealt

-- the units on the slips that came back are in the journal, and where all came back they are all of it; no more came back than were given
abbrev pub Learned : DeskView → ℕ → List Claim → List (List JournalUnit) → Type 0
Learned d n back known = AreInJournal d.log back × ((n ≡ d.given → AreAll d.log back) × ((n ≤ d.given) × All (IsBeginning d.log) known))

-- a seat that can't be: it has a unit, and no slip on which that would be
abbrev pub nowhere : SeatView
nowhere = record { desk = None; pin = None; slips = 0; back = record { job = 0; number = 0; unit = End 0 } ∷ []; known = [] }

-- which seat it is
abbrev pub desk_only : DeskView → SeatView
desk_only d = record { desk = Some d; pin = None; slips = 0; back = []; known = [] }

abbrev pub pin_only : PinView → SeatView
pin_only p = record { desk = None; pin = Some p; slips = 0; back = []; known = [] }

abbrev pub pin_with_desk : DeskView → PinView → SeatView
pin_with_desk d p = record { desk = Some d; pin = Some p; slips = 0; back = []; known = [] }

abbrev pub nobody : SeatView
nobody = record { desk = None; pin = None; slips = 0; back = []; known = [] }

-- what a session wrote, once it has ended
abbrev pub slip_only : List Claim → List (List JournalUnit) → SeatView
slip_only mine known = record { desk = None; pin = None; slips = 1; back = mine; known = known }

-- the desk at the end, with the slips that came back
abbrev pub tally_only : DeskView → ℕ → List Claim → List (List JournalUnit) → SeatView
tally_only d n back known = record { desk = Some d; pin = None; slips = n; back = back; known = known }

abbrev pub starting : ℕ → SeatView
starting seats = desk_only (new_desk seats)

abbrev pub desk_or : Option DeskView → DeskView
desk_or None = new_desk 0
desk_or (Some d) = d

abbrev pub pin_or : Option PinView → PinView
pin_or None = new_pin 0
pin_or (Some p) = p

abbrev pub desk_in : SeatView → DeskView
desk_in v = desk_or v.desk

abbrev pub pin_in : SeatView → PinView
pin_in v = pin_or v.pin

abbrev pub SeatState : Type 0
SeatState = Me Claim SeatView

-- the seat is a session's, the desk's, or both
abbrev pub IsPin : SeatState → Type 0
IsPin m = m ≡ (pin_only (pin_in m.0), [])

abbrev pub IsDesk : SeatState → Type 0
IsDesk m = m ≡ (desk_only (desk_in m.0), [])

abbrev pub IsBoth : SeatState → Type 0
IsBoth m = m ≡ (pin_with_desk (desk_in m.0) (pin_in m.0), [])

abbrev pub IsSlip : SeatState → Type 0
IsSlip m = m ≡ (slip_only m.0.back m.0.known, [])

abbrev pub IsTally : SeatState → Type 0
IsTally m = m ≡ (tally_only (desk_in m.0) m.0.slips m.0.back m.0.known, [])

-- the seat of a place that no session has
abbrev pub IsFree : ℕ → SeatView → Type 0
IsFree place v = (v ≡ pin_only (pin_in v)) × (((pin_in v).place ≡ place) × (((pin_in v).settled ≡ false) × (((pin_in v).slips ≡ 0) × ((pin_in v).mine ≡ []))))
