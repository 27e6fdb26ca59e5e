-- What each atomic step makes of the seat that does it, and what it tells.
use Rattle.std.specs.Prelude.{◌≡◌, ℕ, ◌+◌, ◌<◌, [], ◌++◌, ◌∷◌, length}
use mathlib.Core.Option.{Option as Maybe, some, none}
use Rattle.atomic_table.specs.Table.{Step}
use Rattle.journal.specs.Kept.{Claim}
use Rattle.pin_board.specs.declared.view.SeatView.{SeatView}
use Rattle.pin_board.specs.Slips.{AreInJournal, IsBeginning}
use Rattle.pin_board.specs.Views.{SeatState, Met, Learned, pin_in, desk_in, pin_only, desk_only, pin_with_desk, slip_only, tally_only, clocked, stored, checked, rested, began, lifted, passed, drew, dealt_one, new_pin, logged, wrote, rebased, aware, settled_now, gave, with_slip, without_slip, nowhere}

-- a session reads the clock: its base is the journal of that moment, and its units are in it
abbrev pub clocks : Step Claim → SeatState → ℕ → SeatState → Type 0
clocks st m n m' = (m' ≡ (pin_only (clocked (pin_in m.0) (pin_in m'.0).base), [])) × (length (pin_in m'.0).base ≡ n) × AreInJournal (pin_in m'.0).base (pin_in m.0).mine × IsBeginning (pin_in m'.0).base (pin_in m.0).seen

-- it stores a stamp in its slot
abbrev pub stores : Step Claim → SeatState → ℕ → SeatState → Type 0
stores st m n m' = m' ≡ (pin_only (stored (pin_in m.0) n), [])

-- it loads the floor
abbrev pub checks : Step Claim → SeatState → ℕ → SeatState → Type 0
checks st m n m' = m' ≡ (pin_only (checked (pin_in m.0) n), [])

-- it makes its slot idle
abbrev pub rests : Step Claim → SeatState → ℕ → SeatState → Type 0
rests st m n m' = m' ≡ (pin_only (rested (pin_in m.0)), [])

-- a draw begins: the desk reads the clock
abbrev pub begins : Step Claim → SeatState → ℕ → SeatState → Type 0
begins st m n m' = (m' ≡ (desk_only (began (desk_in m.0) n), [])) × (n ≡ length (desk_in m.0).log)

-- it raises the floor to that clock
abbrev pub lifts : Step Claim → SeatState → ℕ → SeatState → Type 0
lifts st m n m' = m' ≡ (desk_only (lifted (desk_in m.0)), [])

-- it loads the next slot
abbrev pub passes : Step Claim → SeatState → ℕ → SeatState → Type 0
passes st m n m' = m' ≡ (desk_only (passed (desk_in m.0) n), [])

-- it has loaded all slots, and has its horizon
abbrev pub draws : Step Claim → SeatState → ℕ → SeatState → Type 0
draws st m n m' = m' ≡ (desk_only (drew (desk_in m.0)), [])

-- a session that has the desk writes this unit
abbrev pub Writes : Maybe Claim → SeatState → SeatState → Type 0
Writes none m m' = Unit {0}
Writes (some c) m m' = (m' ≡ (pin_with_desk (logged (desk_in m.0) c) (wrote (desk_in m.0) (pin_in m.0) c), [])) × AreInJournal (desk_in m.0).log (pin_in m.0).mine × ((pin_in m.0).place < (desk_in m.0).dealt) × IsBeginning (desk_in m.0).log (pin_in m.0).seen

abbrev pub writes : Step Claim → SeatState → ℕ → SeatState → Type 0
writes st m n m' = Writes st.said m m'

-- it moves its start to now, and learns what the rule says of it and the desk
abbrev pub rebases : Step Claim → SeatState → ℕ → SeatState → Type 0
rebases st m n m' = (m' ≡ (pin_with_desk (desk_in m.0) (rebased (desk_in m.0) (pin_in m.0)), [])) × (n ≡ length (desk_in m.0).log) × Met (desk_in m.0) (pin_in m.0)

-- it stores the clock in its slot, and is settled
abbrev pub settles : Step Claim → SeatState → ℕ → SeatState → Type 0
settles st m n m' = m' ≡ (pin_with_desk (desk_in m.0) (settled_now (desk_in m.0) (pin_in m.0)), [])

-- it learns what the rule says of it and the desk, and knows the journal of now
abbrev pub meets : Step Claim → SeatState → ℕ → SeatState → Type 0
meets st m n m' = (m' ≡ (pin_with_desk (desk_in m.0) (aware (desk_in m.0) (pin_in m.0)), [])) × Met (desk_in m.0) (pin_in m.0)

-- it is given a slip
abbrev pub gives_slip : Step Claim → SeatState → ℕ → SeatState → Type 0
gives_slip st m n m' = m' ≡ (pin_with_desk (gave (desk_in m.0)) (with_slip (desk_in m.0) (pin_in m.0)), [])

-- the desk at the end learns what the rule says of the slips that came back
abbrev pub learns : Step Claim → SeatState → ℕ → SeatState → Type 0
learns st m n m' = (m' ≡ m) × Learned (desk_in m.0) m.0.slips m.0.back m.0.known

-- the desk deals a seat: the desk, and the new seat
abbrev pub left_of : SeatView → SeatView
left_of v = desk_only (dealt_one (desk_in v))

abbrev pub right_of : SeatView → SeatView
right_of v = pin_only (new_pin (desk_in v).dealt)

-- the desk is lent to a session, and given back
abbrev pub lent_of : SeatView → SeatView → SeatView
lent_of v w = pin_with_desk (desk_in w) (pin_in v)

abbrev pub own_of : SeatView → SeatView
own_of v = pin_only (pin_in v)

abbrev pub back_of : SeatView → SeatView
back_of v = desk_only (desk_in v)

-- a session's slip is taken off, and comes back to the desk
abbrev pub kept_of : SeatView → SeatView
kept_of v = pin_only (without_slip (pin_in v))

abbrev pub slip_of : SeatView → SeatView
slip_of v = slip_only (pin_in v).mine ((pin_in v).seen ∷ [])

abbrev pub added_of : SeatView → SeatView → SeatView
added_of v w = tally_only (desk_in v) (v.slips + w.slips) (v.back ++ w.back) (v.known ++ w.known)

-- two seats at one place would be a seat that can't be, which does no step
abbrev pub clashed_of : SeatView → SeatView → SeatView
clashed_of v w = nowhere

abbrev pub never : Step Claim → SeatState → ℕ → SeatState → Type 0
never st m n m' = ⊥
