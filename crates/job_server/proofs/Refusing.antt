-- Lines without a job are refused, each for its own fault.
use Rattle.std.proofs.Common.{◌≡◌, ◌≢◌, inl, inr, ℕ, List, [], ◌∷◌, ◌++◌, refl, sym, ◌∙◌, ap, subst, append_assoc, append-nil}
use Rattle.std.specs.Prelude.{Option, None, Ok}
use Rattle.refusal.specs.declared.Refusal.{Refusal}
use Rattle.refusal.specs.declared.Refusal.TheVariants.{BadJob}
use Rattle.command.specs.declared.request.Command.{Command}
use Rattle.command.specs.declared.request.Reply.{Reply}
use Rattle.command.specs.declared.request.Reply.TheVariants.{Refused}
use Rattle.collation.specs.Limits.{is_job}
use Rattle.script.specs.Line.{reading_of}
use Rattle.script.specs.laws.Line.{line_spelled}
use Rattle.shared_engine.specs.Receipts.{Book}
use Rattle.job_scripts.specs.Lines.{IsRefusedAs}
use Rattle.job_server.specs.Steps.{AreShown, HasRunScript}
use Rattle.job_server.specs.Telling.{Refuses}
use Rattle.job_server.proofs.Stepping.{no_tries}

-- no line is of job 0
no_job : (line : List ℕ) (job : ℕ) (command : Command) → reading_of line ≡ Ok (job, command) → job ≢ 0
no_job line job command is zero = absurd (cc (ap is_job (sym zero) ∙ (line_spelled line job command is).1))

-- a line that can be read
pub none_read : (line : List ℕ) (step : ℕ × Command) → reading_of line ≡ Ok step → IsRefusedAs 0 line BadJob
none_read line step is = inr (refl, (step, is, no_job line step.0 step.1 is))

-- no line
pub refuses_none : (lines : List (List ℕ)) (replies : List Reply) → Refuses lines lines replies replies
refuses_none lines replies = record { their_replies = []; replied = sym (append-nil replies); replies_are = λ later h. h }

-- a line
pub refuses_line : (line : List ℕ) (rest : List (List ℕ)) (refusal : Refusal) (old new : List Reply) → IsRefusedAs 0 line refusal → new ≡ old ++ Refused refusal ∷ [] → Refuses (line ∷ rest) rest old new
refuses_line line rest refusal old new fault is = record { their_replies = Refused refusal ∷ []; replied = is; replies_are = λ later h. ([], [], [], refl, inl (refusal, fault, refl, refl), inr refl, no_tries 0 (rest ++ []), h) }

-- lines behind others
pub refuses_then : (lines middle rest : List (List ℕ)) (old between new : List Reply) → Refuses lines middle old between → Refuses middle rest between new → Refuses lines rest old new
refuses_then lines middle rest old between new h k = record {
  their_replies = h.their_replies ++ k.their_replies;
  replied = k.replied ∙ (ap (λ (rs : List Reply). rs ++ k.their_replies) h.replied ∙ append_assoc old h.their_replies k.their_replies);
  replies_are = λ later done.
      subst (λ (rs : List Reply). AreShown 0 [] lines rs []) (sym (append_assoc h.their_replies k.their_replies later)) (h.replies_are (k.their_replies ++ later) (k.replies_are later done));
}

-- all lines, and no step is done
pub none_run : (since : ℕ) (job : Option ℕ) (lines : List (List ℕ)) (none replies : List Reply) (books : List Book) → job ≡ None → none ≡ [] → books ≡ [] → Refuses lines [] none replies → HasRunScript since job lines replies books
none_run since job lines none replies books no_job empty no_books h =
    subst (λ (o : Option ℕ). HasRunScript since o lines replies books) (sym no_job)
    (no_books, subst (λ (rs : List Reply). AreShown 0 [] lines rs []) (append-nil h.their_replies ∙ sym (h.replied ∙ ap (λ (rs : List Reply). rs ++ h.their_replies) empty)) (h.replies_are [] refl))
