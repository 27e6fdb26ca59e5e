-- What IsLive and IsBegun say of HALTs and of lines that wait.
use Rattle.std.proofs.Common.{◌≡◌, ℕ, true, List, [], ◌∷◌, ◌++◌, drop, Option, None, Some, inl, inr, sym, ap, subst, ◌∙◌}
use Rattle.std.proofs.lemmas.List.{append-nil}
use Rattle.script_run.specs.OpenJobs.{is_open}
use Rattle.live_server.specs.Live.{Act, over, answered_of, waiting_in, open_past, open_by, AreLast, IsNext, HaltsAreLast, WaitingIsNext}
use Rattle.live_server.proofs.Steps.{first_rest}

last_at : (left : Option ℕ → List (List ℕ)) (jobs : List ℕ) (before behind : List Act) (job : ℕ) → AreLast left jobs (before ++ over job ∷ behind) → (is_open job (open_by before jobs) ≡ true) × (answered_of (Some job) behind ++ left (Some job) ≡ [])
last_at left jobs [] behind job h = h.0
last_at left jobs (act ∷ before) behind job h = last_at left (open_past act jobs) before behind job h.1

pub halts_last : HaltsAreLast
halts_last start listed bytes text outcome live before behind job e =
    let at = last_at (λ who. []) [] before behind job (subst (λ (acts : List Act). AreLast (λ who. []) [] acts) e live.last) in
    (at.0, sym (append-nil (answered_of (Some job) behind)) ∙ at.1)

first_line : (waiting : Option (List ℕ)) (lines : List (List ℕ)) (line : List ℕ) → IsNext waiting lines → waiting ≡ Some line → line ∷ drop 1 lines ≡ lines
first_line waiting lines line (inl none) e = let clash : ◌≡◌ {A = Option (List ℕ)} None (Some line) = sym none ∙ e in absurd cc
first_line waiting lines line (inr first) e = sym (first_rest lines line (sym first ∙ e))

pub waiting_next : WaitingIsNext
waiting_next start listed bytes old new begun who line e =
    (drop 1 (begun.left who), ap (λ (l : List (List ℕ)). answered_of who begun.acts ++ l) (first_line (waiting_in who None begun.acts) (begun.left who) line (begun.waits who) e) ∙ begun.of_lines who)
