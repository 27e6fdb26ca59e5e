-- A session begins, a session ends, a job ends.
use Rattle.std.proofs.Common.{◌≡◌, ◌⊎◌, inl, inr, ℕ, Bool, true, false, not, List, [], ◌∷◌, ◌++◌, refl, sym, ap, ◌∙◌, subst, true≢false, append-nil}
use Rattle.std.specs.Prelude.{Option, Some, None, is_some}
use Rattle.command.specs.declared.request.Command.TheVariants.{Halt}
use Rattle.command.specs.declared.request.Reply.{Reply}
use Rattle.command.specs.declared.request.Reply.TheVariants.{Finished}
use Rattle.journal.specs.declared.unit.Unit.{Unit as JournalUnit}
use Rattle.serial.specs.Interleaving.{Told}
use Rattle.job_core.specs.Sessions.{idle}
use Rattle.pin_board.specs.Slips.{IsBeginning}
use Rattle.shared_engine.specs.Receipts.{Book}
use Rattle.shared_engine.specs.Sessions.{Held, held, halted}
use Rattle.job_server.specs.Steps.{Past, past, SessionsSoFar, sessions_so_far, none_since, IsBegunBehind, IsStepIn, AreSteps, HasDoneSteps, IsNoStep, IsReplied, AreShown, AreShownToEnd}
use Rattle.job_server.specs.Telling.{HasStopped, Running, not_begun, Serves}
use Rattle.job_server.proofs.Stepping.{none_done, between_opened, halt_steps, shown_to_end}

-- a test found none
pub none_where : (o : Option Held) (b : Bool) → is_some o ≡ not b → b ≡ true → o ≡ None
none_where None b is found = refl
none_where (Some h) b is found = absurd (true≢false (is ∙ ap not found))

-- a session begins where there was none
pub opened_from : (job : ℕ) (p : Past) (session : Option Held) (begun : Held) → is_some session ≡ false → IsBegunBehind job p begun → HasDoneSteps IsNoStep job (sessions_so_far p session) (sessions_so_far p (Some begun))
opened_from job p None begun none (units, before, is) =
    subst (λ (h : Held). HasDoneSteps IsNoStep job (sessions_so_far p None) (sessions_so_far p (Some h))) (sym is)
    (none_done job (sessions_so_far p None) (sessions_so_far p (Some (held (idle job) None [] [] units))) (between_opened job p units before))
opened_from job p (Some h) begun none is = absurd (true≢false none)

-- HALT of a session, which gives its book
pub some_halted : (job since : ℕ) (books more : List Book) (old later : Option Held) (h : Held) (pass : Book) → old ≡ Some h → later ≡ None → ((units : List JournalUnit) × IsBeginning units h.seen × (pass ≡ halted units h)) → more ≡ books ++ pass ∷ []
    → HasDoneSteps (IsReplied Halt Finished) job (sessions_so_far (past since books) old) (sessions_so_far (past since more) later)
some_halted job since books more old later h pass was is (units, goes_on, gives) one_more =
    subst (λ (o : Option Held). HasDoneSteps (IsReplied Halt Finished) job (sessions_so_far (past since books) o) (sessions_so_far (past since more) later)) (sym was)
    (subst (λ (o : Option Held). HasDoneSteps (IsReplied Halt Finished) job (sessions_so_far (past since books) (Some h)) (sessions_so_far (past since more) o)) (sym is)
    (subst (λ (bs : List Book). HasDoneSteps (IsReplied Halt Finished) job (sessions_so_far (past since books) (Some h)) (sessions_so_far (past since bs) None)) (sym (one_more ∙ ap (λ (b : Book). books ++ b ∷ []) gives))
    (halt_steps job (past since books) units h goes_on)))

-- the same books
pub from_books : (job since : ℕ) (reply : Reply) (books other : List Book) (session : Option Held) (new : SessionsSoFar) → other ≡ books → HasDoneSteps (IsReplied Halt reply) job (sessions_so_far (past since other) session) new
    → HasDoneSteps (IsReplied Halt reply) job (sessions_so_far (past since books) session) new
from_books job since reply books other session new same h = subst (λ (bs : List Book). HasDoneSteps (IsReplied Halt reply) job (sessions_so_far (past since bs) session) new) same h

-- there was no session to end
pub stopped_none : (job : ℕ) (same now : SessionsSoFar) → same ≡ now → same.session ≡ None → HasStopped job now now
stopped_none job same now is none = inl (refl, sym (ap (λ (x : SessionsSoFar). x.session) is) ∙ none)

-- ---- the end of a job's lines

-- no number of units before the first session changes
since_stays : (job : ℕ) (xs : List Told) (old new : SessionsSoFar) → AreSteps job xs old new → new.past.since ≡ old.past.since
since_stays job [] old new steps = ap (λ (p : Past). p.since) steps.0
since_stays job (x ∷ xs) old new steps = since_stays job xs steps.1 new steps.4 ∙ (by_step steps.0.past steps.0.session steps.1.past steps.1.session steps.3 ∙ ap (λ (p : Past). p.since) steps.2.0)
  where
    by_step : (p : Past) (session : Option Held) (more : Past) (later : Option Held) → IsStepIn x p session more later → more.since ≡ p.since
    by_step p None more later step = absurd step
    by_step p (Some h) more None step = ap (λ (q : Past). q.since) step.3
    by_step p (Some h) more (Some new) step = ap (λ (q : Past). q.since) step.1

-- its steps, at the end of which it has no session
pub run_steps : (job since : ℕ) (lines : List (List ℕ)) (old new : Running) (later : SessionsSoFar) → old ≡ not_begun since → Serves job lines [] old new → HasStopped job new.sessions later
    → HasDoneSteps (AreShownToEnd job lines new.replies) job (none_since since) (sessions_so_far (past since later.past.books) None)
run_steps job since lines old new later first serves stopped =
    let h : Serves job lines [] (not_begun since) new = subst (λ (x : Running). Serves job lines [] x new) first serves in
    let all : h.lines_done ≡ lines = sym (h.split ∙ append-nil h.lines_done) in
    let shown : HasDoneSteps (AreShown job [] lines new.replies) job (none_since since) new.sessions =
    subst (λ (ls : List (List ℕ)). HasDoneSteps (AreShown job [] ls new.replies) job (none_since since) new.sessions) all
    (subst (λ (rs : List Reply). HasDoneSteps (AreShown job [] h.lines_done rs) job (none_since since) new.sessions) (sym h.replied) h.steps) in
    let over : HasDoneSteps (AreShownToEnd job lines new.replies) job (none_since since) later = shown_to_end job lines new.replies (none_since since) new.sessions later (none_left stopped) shown (by_stop stopped) in
    subst (λ (n : ℕ). HasDoneSteps (AreShownToEnd job lines new.replies) job (none_since since) (sessions_so_far (past n later.past.books) None)) (since_stays job over.0 (none_since since) later over.2)
    (subst (λ (o : Option Held). HasDoneSteps (AreShownToEnd job lines new.replies) job (none_since since) (sessions_so_far later.past o)) (none_left stopped) over)
  where
    by_stop : HasStopped job new.sessions later → (later ≡ new.sessions) ⊎ HasDoneSteps (IsReplied Halt Finished) job new.sessions later
    by_stop (inl same) = inl same.0
    by_stop (inr over) = inr over.0

    none_left : HasStopped job new.sessions later → later.session ≡ None
    none_left (inl same) = ap (λ (x : SessionsSoFar). x.session) same.0 ∙ same.1
    none_left (inr over) = over.1
