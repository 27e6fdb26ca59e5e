-- What a job sees of the moment at which its open transaction began.
use Rattle.std.specs.Prelude.{◌≡◌, ◌≤◌, ℕ, length, Option, Some, option_map}
use Rattle.collation.specs.Database.{Database}
use Rattle.journal.specs.Story.{Transaction, Machine, transaction_of}
use Rattle.serial.specs.Machine.{state_at}

-- the database that the units before the start of the job's open transaction leave
abbrev pub view_of : ℕ → Machine → Option Database
view_of job s = option_map (λ (t : Transaction). (state_at t.start s.units).map) (transaction_of job s)

-- the job's transaction is open, and began with this database
pub record IsViewed (job : ℕ) (m : Database) (s : Machine) : Type 0 where
  pub transaction : Transaction
  pub there : transaction_of job s ≡ Some transaction
  pub begun : transaction.start ≤ length s.units
  pub is : (state_at transaction.start s.units).map ≡ m
