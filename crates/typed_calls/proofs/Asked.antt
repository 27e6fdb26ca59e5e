-- Commands that change nothing.
use Rattle.std.proofs.Common.{◌≡◌, ℕ, refl}
use Rattle.command.specs.declared.request.Command.TheVariants.{Level, Restarts}
use Rattle.command.specs.declared.request.Reply.{Reply}
use Rattle.command.specs.declared.request.Reply.TheVariants.{Answered, Finished, Had, Count, AtLevel, Committed, Restarted, Refused}
use Rattle.job_core.specs.Cores.{Cored}
use Rattle.journal.specs.Story.{Machine, told}

pub level_stays : (job : ℕ) (s : Machine) (reply : Reply) → told job Level reply s ≡ s
level_stays job s (Answered answer) = refl
level_stays job s Finished = refl
level_stays job s (Had had) = refl
level_stays job s (Count n) = refl
level_stays job s (AtLevel n) = refl
level_stays job s Committed = refl
level_stays job s (Restarted n) = refl
level_stays job s (Refused refusal) = refl

pub restarts_stay : (job : ℕ) (s : Machine) (reply : Reply) → told job Restarts reply s ≡ s
restarts_stay job s (Answered answer) = refl
restarts_stay job s Finished = refl
restarts_stay job s (Had had) = refl
restarts_stay job s (Count n) = refl
restarts_stay job s (AtLevel n) = refl
restarts_stay job s Committed = refl
restarts_stay job s (Restarted n) = refl
restarts_stay job s (Refused refusal) = refl

-- a core is its machine and its base
pub same_core : (a b : Cored) → a.machine ≡ b.machine → a.base ≡ b.base → a ≡ b
same_core a b machine base = λ i. record { machine = machine i; base = base i }
