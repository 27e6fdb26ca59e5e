-- What callers see of a board, of its desk and of its seats: which table they are of, and what they know.
use Rattle.std.specs.Prelude.{ℕ, [], Option, None, Some}
use Rattle.atomic_table.specs.Seated.{TableId}
use Rattle.pin_board.specs.declared.view.DeskView.{DeskView}
use Rattle.pin_board.specs.declared.view.PinView.{PinView}
use Rattle.pin_board.specs.Tally.{Slipped, Tallied}
use Rattle.pin_board.specs.Views.{new_desk}

pub record BoardAt : Type 0 where
  pub table : TableId
  pub seats : ℕ

pub record DeskAt : Type 0 where
  pub table : TableId
  pub knows : DeskView

pub record PinAt : Type 0 where
  pub table : TableId
  pub knows : PinView

pub record FreeAt : Type 0 where
  pub table : TableId
  pub place : ℕ

pub record SlipAt : Type 0 where
  pub table : TableId
  pub knows : Slipped

pub record TallyAt : Type 0 where
  pub table : TableId
  pub knows : Tallied

abbrev pub board_at : TableId → ℕ → BoardAt
board_at t n = record { table = t; seats = n }

abbrev pub desk_at : TableId → DeskView → DeskAt
desk_at t d = record { table = t; knows = d }

abbrev pub pin_at : TableId → PinView → PinAt
pin_at t p = record { table = t; knows = p }

abbrev pub free_at : TableId → ℕ → FreeAt
free_at t n = record { table = t; place = n }

abbrev pub slip_at : TableId → Slipped → SlipAt
slip_at t s = record { table = t; knows = s }

abbrev pub tally_at : TableId → Tallied → TallyAt
tally_at t k = record { table = t; knows = k }

-- a desk of no table, where there is none
abbrev pub no_desk : DeskAt
no_desk = desk_at (record { words = 0; slots = 0; views_name = 0; atom = 0; block = 0; offset = 0; slot_names = [] }) (new_desk 0)

-- what is seen of a seat, where there is one
abbrev pub seen_by : {S X : Type 0} → X → (S → X) → Option S → X
seen_by x f None = x
seen_by x f (Some s) = f s

-- there is a seat, of which this holds
abbrev pub IsThere : {S : Type 0} → (S → Type 0) → Option S → Type 0
IsThere P None = ⊥
IsThere P (Some s) = P s
