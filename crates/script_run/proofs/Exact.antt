-- Where no reply tells of a want of memory, the text is a function of the bytes read.
use Rattle.std.proofs.Common.{◌≡◌, ℕ, Bool, true, false, ◌||◌, List, [], ◌∷◌, map, refl, ap, sym, ◌∙◌, inl, inr}
use Rattle.std.specs.Prelude.{Result, Ok, Err}
use Rattle.refusal.specs.declared.Refusal.{Refusal}
use Rattle.command.specs.declared.request.Command.{Command}
use Rattle.command.specs.declared.request.Reply.{Reply}
use Rattle.journal.specs.Story.{Machine}
use Rattle.serial.specs.Memory.{is_out_of_memory}
use Rattle.script.specs.Line.{reading_of}
use Rattle.serial.specs.Answers.{IsReplyDue, told_by}
use Rattle.script_run.specs.Output.{Answer, IsAnswer, AreAnswers, IsOutput, exact_reply, exact_answers, text_with_ending, output_of, some_wanting}
use Rattle.script_run.specs.declared.outcome.Outcome.{Outcome}

-- a reply that isn't refused memory is the one that is due
exact_due : (asked : Result (ℕ × Command) Refusal) (reply : Reply) (s : Machine) → IsReplyDue s asked reply → is_out_of_memory reply ≡ false → reply ≡ exact_reply asked s
exact_due (Ok step) reply s (inl e) had = e
exact_due (Ok step) reply s (inr e) had = let wanting : is_out_of_memory reply ≡ true = ap is_out_of_memory e.0 in absurd cc
exact_due (Err refusal) reply s e had = e

exact_one : (line : List ℕ) (reply : Reply) (s : Machine) → IsAnswer s line reply → is_out_of_memory reply ≡ false → reply ≡ exact_reply (reading_of line) s
exact_one line reply s (inl due) had = exact_due (reading_of line) reply s due had
exact_one line reply s (inr memory) had = let wanting : is_out_of_memory reply ≡ true = ap is_out_of_memory memory.0 in absurd cc

-- none of these tells of it
none_wanting : (a b : Bool) → (a || b) ≡ false → (a ≡ false) × (b ≡ false)
none_wanting true b h = absurd cc
none_wanting false b h = (refl, h)

exact_all : (answers : List Answer) (s : Machine) → AreAnswers s answers → some_wanting answers ≡ false → answers ≡ exact_answers (map (λ a. a.0) answers) s
exact_all [] s each had = refl
exact_all (a ∷ answers) s each had =
    let p = none_wanting (is_out_of_memory a.1) (some_wanting answers) had in
    let one : a.1 ≡ exact_reply (reading_of a.0) s = exact_one a.0 a.1 s each.0 p.0 in
    ap (λ (more : List Answer). a ∷ more) (exact_all answers (told_by (reading_of a.0) a.1 s) each.1 p.1)
    ∙ ap (λ (r : Reply). (a.0, r) ∷ exact_answers (map (λ a. a.0) answers) (told_by (reading_of a.0) r s)) one

-- an output without such a reply
pub exact_output : (start : Machine) (listed : Bool) (bytes text : List ℕ) (outcome : Outcome) (o : IsOutput start listed bytes text outcome) → outcome.wanting ≡ false → text ≡ output_of start listed bytes
exact_output start listed bytes text outcome o had =
    o.written ∙ ap (text_with_ending start listed) (exact_all o.answers start o.each (ap (λ (went : Outcome). went.wanting) (sym o.told) ∙ had) ∙ ap (λ (lines : List (List ℕ)). exact_answers lines start) o.of_lines)
