-- How lock states are stored.
use Rattle.std.specs.Prelude.{Option, refl}
use Rattle.std.specs.FinMap.{code}
use Rattle.std.specs.Coded.{Coded, code_by, coded×, coded_ℕ, coded_option}
use Rattle.lock_name.specs.Locks.{Counts, JobLocks, LockState}
use Rattle.lock_name.specs.contracts.lock.LockName as n

abbrev pub counts_code : Coded Counts
counts_code = code n.the_row.coded coded_ℕ

abbrev pub job_locks_code : Coded JobLocks
job_locks_code =
    code_by (Counts × (Counts × Option Counts)) (coded× counts_code (coded× counts_code (coded_option counts_code)))
    (λ l. (l.want, (l.held, l.start))) (λ p. record { want = p.0; held = p.1.0; start = p.1.1 }) (λ _. refl)

abbrev pub lock_state_code : Coded LockState
lock_state_code = code coded_ℕ job_locks_code
