-- Which lock names conflict, and what LOCK leaves of a job's counts, in plain words.
use Rattle.std.specs.Prelude.{◌≡◌, ◌<◌, ◌⊎◌, ◌↔◌, ℕ, ◌+◌, ◌-◌, max, Bool, true, false, List, ◌++◌, if◌then◌else◌}
use Rattle.lock_name.specs.declared.lock.LockCommand.{LockCommand}
use Rattle.lock_name.specs.declared.lock.LockCommand.TheVariants.{Release, Only, More, Fewer}
use Rattle.collation.specs.Reference.{Reference, Resource}
use Rattle.lock_name.specs.Locks.{JobLocks, LockState, locks_of, count_of, conflict, is_blocked, lock_reply, locks_after}
use Rattle.lock_name.specs.LockStatements.{times}

-- the second reference is the first, with any subscripts more
pub record IsBeginning (a b : Reference) : Type 0 where
  pub name : a.name ≡ b.name
  pub more : (more : List (List ℕ)) × (b.subscripts ≡ a.subscripts ++ more)

-- two names conflict exactly where both have the caret or neither, and one begins the other
abbrev pub ConflictTells : Type 0
ConflictTells = (n x : Resource) → (conflict n x ≡ true) ↔ ((n.has_caret ≡ x.has_caret) × (IsBeginning n.reference x.reference ⊎ IsBeginning x.reference n.reference))

-- a LOCK is granted exactly where none of the resources that it lists is blocked; one that only gives back always is
pub record GrantTells (job : ℕ) (s : LockState) : Type 0 where
  pub only : (ns : List Resource) → (lock_reply job (Only ns) s ≡ true) ↔ ((n : Resource) → 0 < times n ns → is_blocked s job n ≡ false)
  pub more : (ns : List Resource) → (lock_reply job (More ns) s ≡ true) ↔ ((n : Resource) → 0 < times n ns → is_blocked s job n ≡ false)
  pub fewer : (ns : List Resource) → lock_reply job (Fewer ns) s ≡ true
  pub released : lock_reply job Release s ≡ true

-- a job's locks after its LOCK
abbrev pub job_locks_after : ℕ → Bool → LockCommand → LockState → JobLocks
job_locks_after job inside command s = locks_of job (locks_after job inside command s)

-- how often the job wants the resource then
abbrev pub wanted_after : ℕ → Bool → LockCommand → LockState → Resource → ℕ
wanted_after job inside command s n = count_of (job_locks_after job inside command s).want n

-- what LOCK leaves: a list is granted whole or not at all, a LOCK without a sign first gives back all, and a transaction keeps what it held
pub record LockTells (job : ℕ) (in_transaction : Bool) (s : LockState) (n : Resource) : Type 0 where
  pub released : wanted_after job in_transaction Release s n ≡ 0
  pub only : (ns : List Resource) → lock_reply job (Only ns) s ≡ true → wanted_after job in_transaction (Only ns) s n ≡ times n ns
  pub only_blocked : (ns : List Resource) → lock_reply job (Only ns) s ≡ false → wanted_after job in_transaction (Only ns) s n ≡ 0
  pub more : (ns : List Resource) → lock_reply job (More ns) s ≡ true → wanted_after job in_transaction (More ns) s n ≡ count_of (locks_of job s).want n + times n ns
  pub more_blocked : (ns : List Resource) → lock_reply job (More ns) s ≡ false → wanted_after job in_transaction (More ns) s n ≡ count_of (locks_of job s).want n
  pub fewer : (ns : List Resource) → wanted_after job in_transaction (Fewer ns) s n ≡ count_of (locks_of job s).want n - times n ns
  pub held : (command : LockCommand) → count_of (job_locks_after job in_transaction command s).held n
      ≡ (if in_transaction then max (count_of (locks_of job s).held n) (wanted_after job in_transaction command s n) else wanted_after job in_transaction command s n)
  pub others : (command : LockCommand) (other : ℕ) → (other ≡ job → ⊥) → locks_of other (locks_after job in_transaction command s) ≡ locks_of other s
