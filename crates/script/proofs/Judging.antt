-- From the sentence of a line to what the line asks.
use Rattle.std.proofs.Common.{◌≡◌, ℕ, Bool, true, false, cond, List, length, Option, Some, None, Ok, Err, refl, sym, ap, ◌∙◌}
use Rattle.std.proofs.lemmas.Bool.{or_right}
use Rattle.std.specs.Prelude.{◌&&◌, ◌==◌}
use Rattle.refusal.specs.declared.Refusal.{Refusal}
use Rattle.refusal.specs.declared.Refusal.TheVariants.{BadLine, BadJob, OutOfMemory}
use Rattle.command.specs.declared.request.Command.{Command}
use Rattle.m_text.specs.Reading.{◌>>=◌, IsUnread, IsDue}
use Rattle.m_text.specs.Literal.{front_digits, past_digits, number_from}
use Rattle.m_text.specs.Place.{unless}
use Rattle.m_text.specs.laws.Faults.{unless_err, unless_ok}
use Rattle.script.specs.Commands.{begins_blank, past_blank, command_at, command_fault}
use Rattle.script.specs.Line.{is_job, end_of, spelled_by, judged, reading_of, job_of_line, HasOperands, IsRefusalOf}

-- a line that isn't of the grammar
pub bad_line : (line : List ℕ) (refusal : Refusal) → IsUnread refusal (spelled_by line) → (refusal ≡ OutOfMemory → HasOperands line) → IsRefusalOf line refusal
unfolding reading_of
bad_line line BadLine h some = ap (judged (number_from 0 (front_digits line))) h
bad_line line OutOfMemory h some = some refl
bad_line line refusal h some = absurd h

abbrev job_number : List ℕ → ℕ
job_number line = number_from 0 (front_digits line)

-- after the digits of a line of the grammar stands a blank
blank_behind : (t u : Bool) (line : List ℕ) (c : Command) → (begins_blank (past_digits line)) ≡ u → cond t None (cond u (Some (past_blank (past_digits line))) None >>= λ rest. command_at rest >>= end_of) ≡ Some c → u ≡ true
blank_behind t true line c p e = refl
blank_behind true false line c p e = absurd cc
blank_behind false false line c p e = absurd cc

job_is : (line : List ℕ) (c : Command) → spelled_by line ≡ Some c → job_of_line line ≡ cond (is_job (job_number line)) (Some (job_number line)) None
unfolding job_of_line spelled_by
job_is line c e =
    let blank : begins_blank (past_digits line) ≡ true = blank_behind (length (front_digits line) == 0) (begins_blank (past_digits line)) line c refl e in
    ap (λ (t : Bool). cond (t && is_job (job_number line)) (Some (job_number line)) None) (or_right (length (past_digits line) == 0) (begins_blank (past_digits line)) blank)

-- the line of a job that is none
pub bad_job : (line : List ℕ) (c : Command) → spelled_by line ≡ Some c → job_of_line line ≡ None → reading_of line ≡ Err BadJob
unfolding reading_of
bad_job line c e none = ap (judged (job_number line)) e ∙ at (is_job (job_number line)) (sym (job_is line c e) ∙ none)
  where
    at : (t : Bool) → cond t (Some (job_number line)) None ≡ None → cond t (unless {A = ℕ × Command} (command_fault c) (job_number line, c)) (Err BadJob) ≡ Err BadJob
    at true h = absurd cc
    at false h = refl

-- the line of a job
judged_is : (line : List ℕ) (c : Command) (n : ℕ) → spelled_by line ≡ Some c → job_of_line line ≡ Some n → reading_of line ≡ unless {A = ℕ × Command} (command_fault c) (n, c)
unfolding reading_of
judged_is line c n e some = ap (judged (job_number line)) e ∙ at (is_job (job_number line)) (sym (job_is line c e) ∙ some)
  where
    at : (t : Bool) → cond t (Some (job_number line)) None ≡ Some n → cond t (unless {A = ℕ × Command} (command_fault c) (job_number line, c)) (Err BadJob) ≡ unless {A = ℕ × Command} (command_fault c) (n, c)
    at true h = let same : job_number line ≡ n = cc in ap (λ (k : ℕ). unless {A = ℕ × Command} (command_fault c) (k, c)) same
    at false h = absurd cc

pub read : (line : List ℕ) (c d : Command) (n : ℕ) → spelled_by line ≡ Some c → job_of_line line ≡ Some n → unless (command_fault c) c ≡ Ok d → reading_of line ≡ Ok (n, d)
read line c d n e some good =
    let p = unless_ok (command_fault c) c d good in
    judged_is line c n e some ∙ ap (λ (f : Option Refusal). unless {A = ℕ × Command} f (n, c)) p.0 ∙ ap (λ (x : Command). Ok (n, x)) p.1

pub faulty : (line : List ℕ) (c : Command) (n : ℕ) (refusal : Refusal) → spelled_by line ≡ Some c → job_of_line line ≡ Some n → IsDue refusal (unless (command_fault c) c) → (refusal ≡ OutOfMemory → HasOperands line) → IsRefusalOf line refusal
faulty line c n OutOfMemory e some h operands = operands refl
faulty line c n refusal e some h operands = judged_is line c n e some ∙ ap (λ (f : Option Refusal). unless {A = ℕ × Command} f (n, c)) (unless_err (command_fault c) c refusal h)

pub ruleset of_lines = (bad_line, bad_job, read, faulty)
