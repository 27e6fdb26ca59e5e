-- When a commit may be called.
use Rattle.std.specs.Prelude.{◌≤◌, List, length}
use Rattle.journal.specs.declared.unit.Unit.{Unit as JournalUnit}
use Rattle.serial.specs.Machine.{state_at}
use Rattle.version_store.specs.Versions.{Stored}
use Rattle.validate_commit.specs.Agreement.{Agreement}
use Rattle.validate_commit.specs.Working.{Working, IsWorkOn}

-- store and journal agree, the store has kept the content of the transaction's start, and what it has done is right there
pub record IsReady (store : Stored) (units : List JournalUnit) (w : Working) : Type 0 where
  pub agreed : Agreement store units
  pub kept : store.cut ≤ w.start
  pub begun : w.start ≤ length units
  pub right : IsWorkOn w (state_at w.start units).map
