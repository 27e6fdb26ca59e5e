-- What the number of names that are held says, in plain words.
use Rattle.std.specs.Prelude.{◌≡◌, ℕ, ◌↔◌}
use Rattle.collation.specs.Reference.{Resource}
use Rattle.lock_name.specs.Locks.{LockState}
use Rattle.lock_name.specs.LockStatements.{Holds}
use Rattle.lock_table.specs.Tables.{IsNumberHeld}

-- locks have one number of held names at most, and it is 0 exactly where no job holds a name
pub record NumberHeldTells (s : LockState) : Type 0 where
  pub one : (m n : ℕ) → IsNumberHeld s m → IsNumberHeld s n → m ≡ n
  pub none : (n : ℕ) → IsNumberHeld s n → (n ≡ 0) ↔ ((job : ℕ) (x : Resource) → Holds s job x → ⊥)
