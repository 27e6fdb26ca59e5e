-- The rule of the board, which each atomic step keeps.
use Rattle.std.specs.Prelude.{◌≡◌, ℕ, ◌+◌, ◌*◌, ◌<◌, ◌≤◌, true, false, List, [], length, take, slice_index, Some}
use mathlib.Core.Option.{some}
use lib.ListN.{get_elem?}
use Rattle.atomic_table.specs.Table.{State}
use Rattle.journal.specs.Kept.{Claim}
use Rattle.pin_board.specs.declared.view.DeskView.{DeskView}
use Rattle.pin_board.specs.declared.view.PinView.{PinView}
use Rattle.pin_board.specs.declared.view.SeatView.{SeatView}
use Rattle.pin_board.specs.Slips.{IsBeginning, SlipsAddUp}
use Rattle.pin_board.specs.Views.{idle, least}

abbrev pub clock : List ℕ → ℕ
clock words = slice_index words 0

abbrev pub floor : List ℕ → ℕ
floor words = slice_index words 1

-- the word that is the slot of this place: each has a cache line of its own
abbrev pub slot_word : ℕ → ℕ
slot_word place = place * 8 + 8

abbrev pub slot : List ℕ → ℕ → ℕ
slot words place = slice_index words (slot_word place)

-- the desk is right: the clock is the number of units, slots not yet dealt are idle, and the floor is at least each
-- horizon, from the raise on at least the clock that the draw read, and never above the number of units
pub record DeskFacts (words : List ℕ) (d : DeskView) : Type 0 where
  pub clock_is : clock words ≡ length d.log
  pub dealt : d.dealt ≤ d.seats
  pub vacant : (i : ℕ) → d.dealt ≤ i → i < d.seats → slot words i ≡ idle
  pub raised : d.raised ≡ true → d.read ≤ floor words
  pub not_yet : d.raised ≡ false → d.loaded ≡ []
  pub high_floor : d.high ≤ floor words
  pub read_now : d.read ≤ length d.log
  pub high_now : d.high ≤ length d.log
  pub floor_is : floor words ≡ d.floor
  pub floor_now : d.floor ≤ length d.log

-- a settled session: the stamp in its slot is not after its start, and no horizon is above it, nor the least of a draw
-- that has passed its slot
pub record IsSettled (d : DeskView) (p : PinView) : Type 0 where
  pub within : p.held ≤ length p.base
  pub high : d.high ≤ p.held
  pub passed : p.place < length d.loaded → least d ≤ p.held

-- a session's seat is right: it alone has its slot, which holds what it stored, and its base begins the journal
pub record PinFacts (words : List ℕ) (owner : ℕ → ℕ) (d : DeskView) (seat : ℕ) (p : PinView) : Type 0 where
  pub placed : p.place < d.dealt
  pub alone : owner p.place ≡ seat
  pub held : slot words p.place ≡ p.held
  pub before : length p.base ≤ length d.log
  pub base : p.base ≡ take (length p.base) d.log
  pub seen : IsBeginning d.log p.seen
  pub settled : p.settled ≡ true → IsSettled d p

-- what holds of one seat: there is one desk, and a session's seat is right
pub record SeatFacts (words : List ℕ) (owner : ℕ → ℕ) (keeper : ℕ) (d : DeskView) (seat : ℕ) (v : SeatView) : Type 0 where
  pub desks : (x : DeskView) → v.desk ≡ Some x → (seat ≡ keeper) × (x ≡ d)
  pub pins : (p : PinView) → v.pin ≡ Some p → PinFacts words owner d seat p

-- the rule: no part of it is about two sessions' seats
pub record BoardRule (seats : ℕ) (s : State Claim SeatView) : Type 0 where
  pub owner : ℕ → ℕ
  pub keeper : ℕ
  pub desk : DeskView
  pub seats_are : desk.seats ≡ seats
  pub wide : length s.words ≡ slot_word seats
  pub desk_ok : DeskFacts s.words desk
  pub each : (j : ℕ) (v : SeatView) → get_elem? s.views j ≡ some v → SeatFacts s.words owner keeper desk j v
  pub slips : SlipsAddUp desk.log desk.given s.views
