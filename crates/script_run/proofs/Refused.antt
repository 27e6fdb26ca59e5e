-- The answer to a line that can't be read.
use Rattle.std.proofs.Common.{inl, inr, ◌≡◌, ℕ, List, Option, None, Ok, Err, refl, ap, sym, subst}
use Rattle.std.specs.Prelude.{Result}
use Rattle.refusal.specs.declared.Refusal.{Refusal}
use Rattle.refusal.specs.declared.Refusal.TheVariants.{OutOfMemory}
use Rattle.command.specs.declared.request.Command.{Command}
use Rattle.command.specs.declared.request.Reply.TheVariants.{Refused}
use Rattle.journal.specs.Story.{Machine}
use Rattle.script.specs.Line.{IsRefusalOf, reading_of}
use Rattle.serial.specs.Answers.{IsReplyDue}
use Rattle.script_run.specs.Output.{IsAnswer, accepted_job}

pub refused_answer : (s : Machine) (line : List ℕ) (refusal : Refusal) → IsRefusalOf line refusal → IsAnswer s line (Refused refusal)
refused_answer s line OutOfMemory h = inr (refl, h)
refused_answer s line refusal h = inl (subst (λ (read : Result (ℕ × Command) Refusal). IsReplyDue s read (Refused refusal)) (sym h) refl)

-- it isn't accepted
wanting : (read : Result (ℕ × Command) Refusal) → ◌≡◌ {A = Option ℕ} None (accepted_job read (Refused OutOfMemory))
wanting (Ok step) = refl
wanting (Err refusal) = refl

pub none_accepted : (line : List ℕ) (refusal : Refusal) → IsRefusalOf line refusal → ◌≡◌ {A = Option ℕ} None (accepted_job (reading_of line) (Refused refusal))
none_accepted line OutOfMemory h = wanting (reading_of line)
none_accepted line refusal h = ap (λ (read : Result (ℕ × Command) Refusal). accepted_job read (Refused refusal)) (sym h)
