-- What stands among the units for what was answered.
use Rattle.std.specs.Prelude.{◌≡◌, ℕ, ◌==◌, Bool, true, List, [], ◌∷◌, ◌++◌, None, is_some, if◌then◌else◌}
use Rattle.lock_name.specs.declared.lock.LockCommand.{LockCommand}
use Rattle.lock_name.specs.declared.lock.LockCommand.TheVariants.{Release}
use Rattle.command.specs.declared.access.DataCommand.{DataCommand}
use Rattle.command.specs.declared.access.Answer.{Answer}
use Rattle.command.specs.declared.request.Command.{Command}
use Rattle.command.specs.declared.request.Command.TheVariants.{Access, Lock as lock_command, Start, Commit, Rollback, Restart, Level, Restarts, Halt}
use Rattle.command.specs.declared.request.Reply.{Reply}
use Rattle.command.specs.declared.request.Reply.TheVariants.{Answered, Finished, Had, Count, AtLevel, Committed, Restarted, Refused}
use Rattle.journal.specs.declared.unit.Exchange.{Exchange}
use Rattle.journal.specs.declared.unit.Unit.TheVariants.{Lone, Whole, Lock}
use Rattle.journal.specs.Story.{Machine, transaction_of, told, story_of}

-- one more data command and its answer
abbrev pub noted_answer : Command → Answer → List Exchange → List Exchange
noted_answer (Access command) answer es = es ++ record { command = command; answer = answer } ∷ []
noted_answer (lock_command command) answer es = es
noted_answer Start answer es = es
noted_answer Commit answer es = es
noted_answer Rollback answer es = es
noted_answer Restart answer es = es
noted_answer Level answer es = es
noted_answer Restarts answer es = es
noted_answer Halt answer es = es

-- what begins anew forgets what was answered
abbrev pub forgotten : Command → List Exchange → List Exchange
forgotten (Access command) es = es
forgotten (lock_command command) es = es
forgotten Start es = es
forgotten Commit es = []
forgotten Rollback es = es
forgotten Restart es = []
forgotten Level es = es
forgotten Restarts es = es
forgotten Halt es = es

-- what one step of a transaction adds to the data commands that it was answered
abbrev pub noted : Command → Reply → List Exchange → List Exchange
noted command (Answered answer) es = noted_answer command answer es
noted command Finished es = es
noted command (Had had) es = es
noted command (Count n) es = es
noted command (AtLevel level) es = es
noted command Committed es = es
noted command (Restarted restarts) es = forgotten command es
noted command (Refused refusal) es = es

-- the data commands that the job was answered in these steps, after some others, since it last began anew
abbrev pub answered_since : ℕ → List (ℕ × Command) → List Reply → List Exchange → List Exchange
answered_since job [] replies es = es
answered_since job (step ∷ steps) [] es = es
answered_since job (step ∷ steps) (reply ∷ replies) es = answered_since job steps replies (if step.0 == job then noted step.1 reply es else es)

-- the job's transaction is open and stays so while these steps have these replies
abbrev pub RemainsOpen : ℕ → List (ℕ × Command) → List Reply → Machine → Type 0
RemainsOpen job [] replies s = is_some (transaction_of job s) ≡ true
RemainsOpen job (step ∷ steps) [] s = is_some (transaction_of job s) ≡ true
RemainsOpen job (step ∷ steps) (reply ∷ replies) s = (is_some (transaction_of job s) ≡ true) × RemainsOpen job steps replies (told step.0 step.1 reply s)

-- a data command outside a transaction is a unit with its answer
abbrev pub LoneCommandsStand : Type 0
LoneCommandsStand = (s : Machine) → (job : ℕ) → (command : DataCommand) → (answer : Answer) → transaction_of job s ≡ None →
    (told job (Access command) (Answered answer) s).units ≡ s.units ++ Lone job command answer ∷ []

-- a LOCK with names is a unit, had or not, and so is one without
pub record LocksStand (s : Machine) (job : ℕ) : Type 0 where
  pub named : (command : LockCommand) (had : Bool) → (told job (lock_command command) (Had had) s).units ≡ s.units ++ Lock job (is_some (transaction_of job s)) command had ∷ []
  pub released : (told job (lock_command Release) Finished s).units ≡ s.units ++ Lock job (is_some (transaction_of job s)) Release true ∷ []

-- a transaction that commits is one unit with each data command that it was answered, from its start or restart on and in their order
abbrev pub CommittedTransactionsStandWhole : Type 0
CommittedTransactionsStandWhole = (s : Machine) → (job level : ℕ) → (steps : List (ℕ × Command)) → (replies : List Reply) →
    transaction_of job s ≡ None → RemainsOpen job steps replies (told job Start (AtLevel level) s) →
    (told job Commit Committed (story_of steps replies (told job Start (AtLevel level) s))).units
    ≡ (story_of steps replies (told job Start (AtLevel level) s)).units ++ Whole job (answered_since job steps replies []) ∷ []
