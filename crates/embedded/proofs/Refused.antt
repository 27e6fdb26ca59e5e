-- The answer to a line that can't be read.
use Rattle.std.proofs.Common.{inl, inr, ℕ, List, refl, sym, subst}
use Rattle.std.specs.Prelude.{Result}
use Rattle.refusal.specs.declared.Refusal.{Refusal}
use Rattle.refusal.specs.declared.Refusal.TheVariants.{OutOfMemory}
use Rattle.command.specs.declared.request.Command.{Command}
use Rattle.command.specs.declared.request.Reply.TheVariants.{Refused}
use Rattle.journal.specs.Story.{Machine}
use Rattle.script.specs.Line.{IsRefusalOf}
use Rattle.serial.specs.Answers.{IsReplyDue}
use Rattle.embedded.specs.Calls.{IsAnswer}

pub refused_answer : (s : Machine) (line : List ℕ) (refusal : Refusal) → IsRefusalOf line refusal → IsAnswer s line (Refused refusal)
refused_answer s line OutOfMemory h = inr (refl, h)
refused_answer s line refusal h = inl (subst (λ (read : Result (ℕ × Command) Refusal). IsReplyDue s read (Refused refusal)) (sym h) refl)
