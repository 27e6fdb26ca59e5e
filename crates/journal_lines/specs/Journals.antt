-- The steps that do a journal again, and their lines. Source: docs/FORMATS.md, "A journal as a script".
-- Read journal_text, steps_of, then unit_steps and still_open.
use Rattle.std.specs.Prelude.{◌≡◌, ℕ, Bool, true, false, not, ◌==◌, List, [], ◌∷◌, ◌++◌, map, filter, take, Option, None, Some, Result, Ok, Err, if◌then◌else◌}
use Rattle.std.specs.List.{flat_map, list_any}
use Rattle.collation.specs.Bytes as byte
use Rattle.lock_name.specs.declared.lock.LockCommand.{LockCommand}
use Rattle.lock_name.specs.declared.lock.LockCommand.TheVariants.{Release, Only, More, Fewer}
use Rattle.command.specs.declared.request.Command.{Command}
use Rattle.command.specs.declared.request.Command.TheVariants.{Access, Lock as lock_command, Start, Commit, Rollback, Restart, Halt}
use Rattle.journal.specs.declared.unit.Exchange.{Exchange}
use Rattle.journal.specs.declared.unit.Unit.{Unit as JournalUnit}
use Rattle.journal.specs.declared.unit.Unit.TheVariants.{Lone, Whole, Lock, Back, End}
use Rattle.journal.specs.Kept.{Kept}
use Rattle.journal_lines.specs.Steps.{step_text}

abbrev pub Step : Type 0
Step = ℕ × Command

-- the LOCKs of open transactions, in their order: each job's, and what of it is done once more at the commit
abbrev pub Pending : Type 0
Pending = List (ℕ × Option LockCommand)

-- what a LOCK inside a transaction has changed of what its job wants: one that was refused its names has released others, or nothing
abbrev pub kept_of : Bool → LockCommand → Option LockCommand
kept_of true command = Some command
kept_of false Release = Some Release
kept_of false (Only ns) = Some Release
kept_of false (More ns) = None
kept_of false (Fewer ns) = Some (Fewer ns)

-- the job has taken a LOCK in its open transaction
abbrev pub has_pending : ℕ → Pending → Bool
has_pending job pending = list_any (λ (p : ℕ × Option LockCommand). p.0 == job) pending

-- the other jobs' LOCKs
abbrev pub pending_of_others : ℕ → Pending → Pending
pending_of_others job pending = filter (λ (p : ℕ × Option LockCommand). not (p.0 == job)) pending

-- the first LOCK inside begins the transaction
abbrev pub opening_steps : ℕ → Pending → List Step
opening_steps job pending = if has_pending job pending then [] else (job, Start) ∷ []

-- one LOCK once more, where it is the job's and has changed something
abbrev pub again_steps : ℕ → ℕ × Option LockCommand → List Step
again_steps job (owner, None) = []
again_steps job (owner, Some command) = if owner == job then (job, lock_command command) ∷ [] else []

-- a transaction at its commit begins: with LOCKs anew, and these once more
abbrev pub beginning_steps : ℕ → Pending → List Step
beginning_steps job pending = if has_pending job pending then (job, Restart) ∷ flat_map (again_steps job) pending else (job, Start) ∷ []

-- the steps of a unit, where these LOCKs are pending
abbrev pub unit_steps : JournalUnit → Pending → List Step
unit_steps (Lone job command answer) pending = (job, Access command) ∷ []
unit_steps (Whole job exchanges) pending = beginning_steps job pending ++ (map (λ (e : Exchange). (job, Access e.command)) exchanges ++ (job, Commit) ∷ [])
unit_steps (Lock job true command had) pending = opening_steps job pending ++ (job, lock_command command) ∷ []
unit_steps (Lock job false command had) pending = (job, lock_command command) ∷ []
unit_steps (Back job) pending = (job, Rollback) ∷ []
unit_steps (End job) pending = (job, Halt) ∷ []

-- the LOCKs that are pending after a unit
abbrev pub still_pending : JournalUnit → Pending → Pending
still_pending (Lone job command answer) pending = pending
still_pending (Whole job exchanges) pending = pending_of_others job pending
still_pending (Lock job true command had) pending = pending ++ (job, kept_of had command) ∷ []
still_pending (Lock job false command had) pending = pending
still_pending (Back job) pending = pending_of_others job pending
still_pending (End job) pending = pending_of_others job pending

-- the steps of units, where these LOCKs are pending
abbrev pub steps_from : Pending → List JournalUnit → List Step
steps_from pending [] = []
steps_from pending (u ∷ us) = unit_steps u pending ++ steps_from (still_pending u pending) us

-- the steps that do a journal's units again
abbrev pub steps_of : List JournalUnit → List Step
steps_of units = steps_from [] units

-- a step's line, with its end
abbrev pub step_line : Step → List ℕ
step_line step = step_text step.0 step.1 ++ byte.line_feed ∷ []

-- the lines of steps
abbrev pub lines_of : List Step → List ℕ
lines_of steps = flat_map step_line steps

-- a journal as a script
abbrev pub journal_text : List JournalUnit → List ℕ
journal_text units = lines_of (steps_of units)

-- the units that a journal let go
abbrev pub dropped : Kept → List JournalUnit
dropped k = take k.base k.units

-- the lines of a unit that was read back were written, and it is noted what is pending
abbrev pub HasLines : {E : Type 0} → Result JournalUnit E → Pending → Pending → List ℕ → List ℕ → Type 0
HasLines (Ok u) pending still old new = (still ≡ still_pending u pending) × (new ≡ old ++ lines_of (unit_steps u pending))
HasLines (Err e) pending still old new = ⊥
