-- A transaction that begins at now.
use Rattle.std.proofs.Common.{◌≡◌, ℕ, List, arith}
use Rattle.journal.specs.declared.unit.Unit.{Unit as JournalUnit}
use Rattle.serial.specs.Machine.{state_at}
use Rattle.version_store.specs.Versions.{Stored}
use Rattle.validate_commit.specs.Agreement.{Agreement}
use Rattle.validate_commit.specs.Working.{just_begun}
use Rattle.validate_commit.specs.laws.Working.{work_nothing}
use Rattle.refused_memory.specs.Sides.{IsReady}

pub ready_begun : (s : Stored) (units : List JournalUnit) (job n : ℕ) → Agreement s units → n ≡ s.present → IsReady s units (just_begun job n)
ready_begun s units job n agreed now = record {
  agreed = agreed;
  kept = omega (arith, now, agreed.cut, agreed.present);
  begun = omega (arith, now, agreed.present);
  right = work_nothing job n (state_at n units).map;
}
