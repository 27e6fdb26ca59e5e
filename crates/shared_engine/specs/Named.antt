-- What is seen of a session and of its pass where the name of the board is a value: its table, and what it has.
use Rattle.std.specs.Prelude.{◌≡◌, List, map}
use Rattle.std.specs.List.{All}
use Rattle.atomic_table.specs.Seated.{TableId}
use Rattle.shared_engine.specs.Receipts.{Book}
use Rattle.shared_engine.specs.Sessions.{Held}

pub record SessionAt : Type 0 where
  pub table : TableId
  pub held : Held

pub record PassAt : Type 0 where
  pub table : TableId
  pub book : Book

abbrev pub session_at : TableId → Held → SessionAt
session_at t h = record { table = t; held = h }

abbrev pub pass_at : TableId → Book → PassAt
pass_at t b = record { table = t; book = b }

-- each of these passes is of this table
abbrev pub AreOf : TableId → List PassAt → Type 0
AreOf t passes = All (λ (p : PassAt). p.table ≡ t) passes

-- what they have
abbrev pub books_of : List PassAt → List Book
books_of passes = map (λ (p : PassAt). p.book) passes
