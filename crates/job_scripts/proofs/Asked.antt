-- What was read of a line for a job.
use Rattle.std.proofs.Common.{◌≡◌, ◌≢◌, inl, inr, ℕ, List, refl}
use Rattle.std.specs.Prelude.{Ok}
use Rattle.refusal.specs.declared.Refusal.{Refusal}
use Rattle.refusal.specs.declared.Refusal.TheVariants.{BadJob}
use Rattle.command.specs.declared.request.Command.{Command}
use Rattle.script.specs.Line.{reading_of, IsRefusalOf}
use Rattle.job_scripts.specs.Lines.{IsRefusedAs}

-- it can't be read
pub own_refusal : (job : ℕ) (line : List ℕ) (refusal : Refusal) → IsRefusalOf line refusal → IsRefusedAs job line refusal
own_refusal job line refusal is = inl is

-- it is another job's
pub other_job : (job : ℕ) (line : List ℕ) (step : ℕ × Command) → reading_of line ≡ Ok step → step.0 ≢ job → IsRefusedAs job line BadJob
other_job job line step is other = inr (refl, (step, is, other))
