-- Where a base may stand, and where a checkpoint moves it. Source: docs/THEOREMS.md, "Checkpoints".
use Rattle.std.specs.Prelude.{◌≡◌, ◌⊎◌, ◌≤◌, ℕ, length, None, Some}
use Rattle.journal.specs.Story.{Transaction, Machine, transaction_of}

-- so many units stand, and no open transaction began before them
pub record IsBehind (n : ℕ) (s : Machine) : Type 0 where
  pub units : n ≤ length s.units
  pub starts : (job : ℕ) (t : Transaction) → transaction_of job s ≡ Some t → n ≤ t.start

-- the least start of the open transactions
pub record IsLeastOpen (n : ℕ) (s : Machine) : Type 0 where
  pub from : (job : ℕ) (t : Transaction) → transaction_of job s ≡ Some t → n ≤ t.start
  pub job : ℕ
  pub transaction : Transaction
  pub there : transaction_of job s ≡ Some transaction
  pub start : transaction.start ≡ n

-- the least open start, or the number of the last unit where no transaction is open
abbrev pub IsCheckpoint : ℕ → Machine → Type 0
IsCheckpoint n s = (((job : ℕ) → transaction_of job s ≡ None) × (n ≡ length s.units)) ⊎ IsLeastOpen n s
