-- Lock state, and what LOCK replies and leaves, or why it is refused. Source: docs/RULES.md, "Locks".
use Rattle.std.specs.Prelude.{◌≡◌, ◌<◌, ℕ, ◌+◌, ◌-◌, ◌==◌, max, Bool, true, false, not, ◌&&◌, ◌||◌, nat_lt, nat_le, List, [], fold, Option, None, Some, unwrap_or, if◌then◌else◌}
use Rattle.std.specs.declared.cmp.Ordering.{Ordering}
use Rattle.std.specs.Ordering.{nat_cmp, bool_cmp, on, then_cmp}
use Rattle.std.specs.Bool.{beq}
use Rattle.std.specs.List.{list_any}
use Rattle.std.specs.FinMap as finmap
use Rattle.std.specs.FinMap.{FinMap}
use Rattle.refusal.specs.declared.Refusal.{Refusal}
use Rattle.refusal.specs.declared.Refusal.TheVariants.{LockCountFull}
use Rattle.lock_name.specs.declared.lock.LockCommand.{LockCommand}
use Rattle.lock_name.specs.declared.lock.LockCommand.TheVariants.{Release, Only, More, Fewer}
use Rattle.collation.specs.Reference.{Resource}
use Rattle.collation.specs.Order.{ref_cmp, ref_eq}
use Rattle.collation.specs.Database.{is_under}
use Rattle.collation.specs.Limits.{most_locks}

-- those without a caret first, and then as references
unfoldable pub resource_cmp : Resource → Resource → Ordering
resource_cmp = then_cmp (on (λ n. n.has_caret) bool_cmp) (on (λ n. n.reference) ref_cmp)

-- byte by byte
abbrev pub resource_eq : Resource → Resource → Bool
resource_eq n x = beq n.has_caret x.has_caret && ref_eq n.reference x.reference

-- how many times each resource is had; one that has no entry is had no time
abbrev pub Counts : Type 0
Counts = FinMap resource_cmp ℕ

abbrev pub count_of : Counts → Resource → ℕ
count_of counts n = unwrap_or (finmap.get counts n) 0

-- an entry has a count above 0
abbrev pub HasNoZeros : Counts → Type 0
HasNoZeros counts = (n : Resource) (v : ℕ) → finmap.get counts n ≡ Some v → 0 < v

-- one more of each, in turn
abbrev pub more_of : List Resource → Counts → Counts
more_of ns counts = fold (λ (c : Counts) n. finmap.insert c n (count_of c n + 1)) counts ns

-- one fewer, and none where there was one or none
abbrev pub one_fewer : Counts → Resource → Counts
one_fewer counts n = if nat_le (count_of counts n) 1 then finmap.remove counts n else finmap.insert counts n (count_of counts n - 1)

-- one fewer of each, in turn
abbrev pub fewer_of : List Resource → Counts → Counts
fewer_of ns counts = fold one_fewer counts ns

-- of each resource the greater count
abbrev pub greater : Counts → Counts → Counts
greater counts others = fold (λ (c : Counts) (e : Resource × ℕ). finmap.insert c e.0 (max (count_of c e.0) e.1)) counts (finmap.entries others)

-- a job's counts: those that it wants, those that keep others off, and, once it took a LOCK in its transaction, those that it wanted before
pub record JobLocks : Type 0 where
  pub want : Counts
  pub held : Counts
  pub start : Option Counts

-- each job's counts; a job without an entry has none
abbrev pub LockState : Type 0
LockState = FinMap nat_cmp JobLocks

abbrev pub no_locks : JobLocks
no_locks = record { want = finmap.empty; held = finmap.empty; start = None }

abbrev pub locks_of : ℕ → LockState → JobLocks
locks_of job s = unwrap_or (finmap.get s job) no_locks

-- one of the two is the other, or an ancestor of it
abbrev pub conflict : Resource → Resource → Bool
conflict n x = beq n.has_caret x.has_caret && (is_under n.reference x.reference || is_under x.reference n.reference)

-- another job holds this resource, an ancestor of it or a descendant
abbrev pub is_blocked : LockState → ℕ → Resource → Bool
is_blocked s job n = list_any (λ (j : ℕ × JobLocks). not (j.0 == job) && list_any (λ (h : Resource × ℕ). nat_lt 0 h.1 && conflict n h.0) (finmap.entries j.1.held)) (finmap.entries s)

-- the resources that a LOCK asks for
abbrev pub asked : LockCommand → List Resource
asked (Only ns) = ns
asked (More ns) = ns
asked command = []

-- what a job wants after a LOCK that has what it asks for
abbrev pub want_had : LockCommand → Counts → Counts
want_had Release want = finmap.empty
want_had (Only ns) want = more_of ns finmap.empty
want_had (More ns) want = more_of ns want
want_had (Fewer ns) want = fewer_of ns want

-- what it wants after one that hasn't: what was released stays released, and nothing is added
abbrev pub want_kept : LockCommand → Counts → Counts
want_kept (More ns) want = want
want_kept (Fewer ns) want = fewer_of ns want
want_kept command want = finmap.empty

-- a LOCK has what it asks for, all or none: no resource is blocked
abbrev pub lock_reply : ℕ → LockCommand → LockState → Bool
lock_reply job command s = not (list_any (is_blocked s job) (asked command))

-- a LOCK is refused where it would leave a count above the limit, were nothing blocked
abbrev pub lock_refusal : ℕ → LockCommand → LockState → Option Refusal
lock_refusal job command s = if list_any (λ n. nat_lt most_locks (count_of (want_had command (locks_of job s).want) n)) (asked command) then Some LockCountFull else None

-- a job comes to want these counts: outside a transaction it holds them alone; inside it holds the greatest since its start, which is remembered
abbrev pub job_wants : Bool → Counts → JobLocks → JobLocks
job_wants true want l = record { want = want; held = greater l.held want; start = Some (unwrap_or l.start l.want) }
job_wants false want l = record { want = want; held = want; start = None }

-- what a job wants after a LOCK
abbrev pub want_after : ℕ → LockCommand → LockState → Counts
want_after job command s = if lock_reply job command s then want_had command (locks_of job s).want else want_kept command (locks_of job s).want

-- what a LOCK leaves
abbrev pub locks_after : ℕ → Bool → LockCommand → LockState → LockState
locks_after job inside command s = finmap.insert s job (job_wants inside (want_after job command s) (locks_of job s))

-- a commit holds what is wanted, and forgets the start
abbrev pub job_commits : JobLocks → JobLocks
job_commits l = record { want = l.want; held = l.want; start = None }

-- a rollback or restart puts back what was wanted at the start
abbrev pub job_goes_back : JobLocks → JobLocks
job_goes_back l = record { want = unwrap_or l.start l.want; held = unwrap_or l.start l.held; start = None }

-- a job's entry is changed; one that isn't there stays away
abbrev pub changed : (JobLocks → JobLocks) → ℕ → LockState → Option JobLocks → LockState
changed change job s None = s
changed change job s (Some l) = finmap.insert s job (change l)

abbrev pub locks_after_commit : ℕ → LockState → LockState
locks_after_commit job s = changed job_commits job s (finmap.get s job)

abbrev pub locks_after_back : ℕ → LockState → LockState
locks_after_back job s = changed job_goes_back job s (finmap.get s job)

-- a job that ends leaves nothing
abbrev pub locks_after_end : ℕ → LockState → LockState
locks_after_end job s = finmap.remove s job
