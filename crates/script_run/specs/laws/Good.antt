-- What is answered keeps the machine good.
use Rattle.std.proofs.Common.{◌≡◌, ℕ, List, Option, Some, None, Result, Ok, Err, inl, inr, sym, ap, subst, ◌∙◌}
use Rattle.std.specs.Ordering.{nat_cmp}
use Rattle.std.specs.FinMap as finmap
use Rattle.std.specs.FinMap.{FinMap}
use Rattle.refusal.specs.declared.Refusal.{Refusal}
use Rattle.refusal.specs.declared.Refusal.TheVariants.{OutOfMemory}
use Rattle.command.specs.declared.request.Command.{Command}
use Rattle.command.specs.declared.request.Reply.{Reply}
use Rattle.command.specs.declared.request.Reply.TheVariants.{Refused}
use Rattle.journal.specs.History.{initial, IsLegal}
use Rattle.journal.specs.Story.{Machine, Transaction}
use Rattle.serial.specs.Answers.{IsReplyDue, told_by}
use Rattle.serial.specs.Soundness.{IsGood, IsSound}
use Rattle.serial.specs.laws.Runs.{good_reply}
use Rattle.script.specs.Line.{reading_of}
use Rattle.script_run.specs.Output.{IsAnswer}

due-good : (s t : Machine) (asked : Result (ℕ × Command) Refusal) (reply : Reply) → IsReplyDue s asked reply → t ≡ told_by asked reply s → IsGood s → IsGood t
due-good s t (Ok step) reply is left good = subst IsGood (sym left) (good_reply step reply s is good)
due-good s t (Err refusal) reply is left good = subst IsGood (sym left) good

none-told : (s t : Machine) (asked : Result (ℕ × Command) Refusal) (reply : Reply) → reply ≡ Refused OutOfMemory → t ≡ told_by asked reply s → IsGood s → IsGood t
none-told s t (Ok step) reply memory left good = subst IsGood (sym (left ∙ ap (λ r. told_by (Ok step) r s) memory)) good
none-told s t (Err refusal) reply memory left good = subst IsGood (sym left) good

-- a line's answer keeps the machine good
pub answered-good : (s t : Machine) (line : List ℕ) (reply : Reply) → IsAnswer s line reply → t ≡ told_by (reading_of line) reply s → IsGood s → IsGood t
answered-good s t line reply (inl due) left good = due-good s t (reading_of line) reply due left good
answered-good s t line reply (inr memory) left good = none-told s t (reading_of line) reply memory.0 left good

-- legal units without open transactions
pub good_start : (s : Machine) → IsLegal s.units initial → s.transactions ≡ finmap.empty → IsGood s
good_start s legal closed = record { legal = legal; sound = λ job t is. none_open job t (sym is ∙ ap (λ (ts : FinMap nat_cmp Transaction). finmap.get ts job) closed ∙ finmap.get-empty nat_cmp job) }
  where
    none_open : (job : ℕ) (t : Transaction) → ◌≡◌ {A = Option Transaction} (Some t) None → IsSound s.units t
    none_open job t e = absurd cc
