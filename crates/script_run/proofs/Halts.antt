-- HALTs, done or refused, change no node.
use Rattle.std.proofs.Common.{◌≡◌, ℕ, Bool, true, false, List, [], ◌∷◌, inl, inr, refl, ap, ◌∙◌}
use Rattle.refusal.specs.declared.Refusal.TheVariants.{OutOfMemory}
use Rattle.command.specs.declared.request.Command.TheVariants.{Halt}
use Rattle.command.specs.declared.request.Reply.{Reply}
use Rattle.command.specs.declared.request.Reply.TheVariants.{Answered, Finished, Had, Count, AtLevel, Committed, Restarted, Refused}
use Rattle.journal.specs.declared.unit.Unit.TheVariants.{End}
use Rattle.journal.specs.History.{State, initial, after}
use Rattle.journal.specs.Story.{Machine, told}
use Rattle.journal.specs.laws.History.{after-unit}
use Rattle.serial.specs.Machine.{IsReply, reply_of, step_of, run_of}
use Rattle.job_core.specs.AtWork.{is_at_work}
use Rattle.script_run.specs.Output.{AreHalted, halts_of}

pub same_nodes : (job : ℕ) (reply : Reply) (s : Machine) → (after (told job Halt reply s).units initial).map ≡ (after s.units initial).map
same_nodes job (Answered answer) s = refl
same_nodes job Finished s = ap (λ (t : State). t.map) (after-unit s.units (End job) initial)
same_nodes job (Had had) s = refl
same_nodes job (Count n) s = refl
same_nodes job (AtLevel n) s = refl
same_nodes job Committed s = refl
same_nodes job (Restarted n) s = refl
same_nodes job (Refused refusal) s = refl

pub halts_keep : (jobs : List ℕ) (s : Machine) → (after (run_of (halts_of jobs) s).units initial).map ≡ (after s.units initial).map
halts_keep [] s = refl
halts_keep (job ∷ jobs) s = halts_keep jobs (step_of job Halt s) ∙ same_nodes job (reply_of job Halt s) s

-- a job that is at work was halted, unless the journal was full, and another perhaps
pub halted_one : (job : ℕ) (reply : Reply) (s t : Machine) → t ≡ told job Halt reply s → IsReply job Halt reply s → (is_at_work job s ≡ true → reply ≡ reply_of job Halt s) → AreHalted (job ∷ []) s t
halted_one job reply s t machine (inl exact) sure = inl (machine ∙ ap (λ (r : Reply). told job Halt r s) exact)
halted_one job reply s t machine (inr refused) sure = by_work (is_at_work job s) refl
  where
    by_work : (works : Bool) → is_at_work job s ≡ works → AreHalted (job ∷ []) s t
    by_work true works = inl (machine ∙ ap (λ (r : Reply). told job Halt r s) (sure works))
    by_work false rests = inr (rests, machine ∙ ap (λ (r : Reply). told job Halt r s) refused.0)
