-- A job goes on, line by line.
use Rattle.std.specs.Borrow.{Bor}
use Rattle.std.proofs.Common.{◌≡◌, ◌≢◌, inl, inr, ℕ, ◌<◌, Bool, true, false, List, [], ◌∷◌, ◌++◌, length, refl, sym, ap, ◌∙◌, subst, arith, append_assoc, append-nil}
use Rattle.std.specs.Prelude.{Option, Some, Result, Ok, Err, IfOk, slice_get}
use Rattle.refusal.specs.declared.Refusal.{Refusal}
use Rattle.command.specs.declared.request.Command.{Command}
use Rattle.command.specs.declared.request.Command.TheVariants.{Start, Halt}
use Rattle.command.specs.declared.request.Reply.{Reply}
use Rattle.command.specs.declared.request.Reply.TheVariants.{Finished, AtLevel, Committed, Restarted, Refused}
use Rattle.journal.specs.Kept.{HasNoRoom}
use Rattle.serial.specs.Interleaving.{Told}
use Rattle.pin_board.specs.Slips.{IsBeginning}
use Rattle.shared_engine.specs.Blocks.{IsNoRestart}
use Rattle.shared_engine.specs.Engines.{OnOkThat, OnOkNot}
use Rattle.shared_engine.specs.Receipts.{Book}
use Rattle.shared_engine.specs.Sessions.{Held, knowing}
use Rattle.job_scripts.specs.Reports.{GoesOnFrom}
use Rattle.job_scripts.specs.Lines.{lent_lines, Asks, IsReadFor}
use Rattle.job_scripts.specs.Reports.{Answers}
use Rattle.job_server.specs.declared.cursor.Cursor.{Cursor}
use Rattle.job_server.specs.declared.cursor.Line.{Line}
use Rattle.job_server.specs.declared.fault.ServerFault.{ServerFault}
use Rattle.job_scripts.specs.Groups.{Group}
use Rattle.job_server.specs.Served.{IsReport, HasRunAs, IsReportAt}
use Rattle.job_server.specs.Steps.{Past, SessionsSoFar, sessions_so_far, HasDoneSteps, IsNoStep, IsReplied, IsShownBy, IsNoEnd, AreShown}
use Rattle.job_server.specs.Telling.{IsNoCommit, EndsNone, IsUnblocked, IsDoneAs, Running, Serves, IsWithin, AreWithin, ServesWithin, Advances, AdvancesWithin, Reaches, ReachesWithin, Begins, BeginsNone, WasOvertaken, IsBack}
use Rattle.job_server.proofs.Stepped.{halt_stepped}
use Rattle.job_server.proofs.Stepping.{had_untimed, between_same, no_steps, none_done, shows_other, call_steps, line_shown, shown_behind, shown_tried, tried_to, asks_once, other_no_end, command_no_end, refused_no_end}

-- ---- steps

-- nothing has changed
pub same_goes : (job : ℕ) (p more : Past) (session later : Option Held) → more ≡ p → later ≡ session → HasDoneSteps IsNoStep job (sessions_so_far p session) (sessions_so_far more later)
same_goes job p more session later same is = none_done job (sessions_so_far p session) (sessions_so_far more later) (between_same job p more session later same is)

pub none_goes : (job : ℕ) (now : SessionsSoFar) → HasDoneSteps IsNoStep job now now
none_goes job now = none_done job now now (no_steps job now)

-- from the same sessions
pub goes_from : (shows : List Told → Type 0) (job : ℕ) (same old new : SessionsSoFar) → same ≡ old → HasDoneSteps shows job same new → HasDoneSteps shows job old new
goes_from shows job same old new is h = subst (λ (x : SessionsSoFar). HasDoneSteps shows job x new) is h

-- a refusal is no step
pub refused_goes : (line : List ℕ) (job : ℕ) (refusal : Refusal) (now : SessionsSoFar) → HasDoneSteps (IsDoneAs line (Err refusal) (Refused refusal)) job now now
refused_goes line job refusal now = shows_other IsNoStep (IsDoneAs line (Err refusal) (Refused refusal)) job now now (λ xs none. (refl, none)) (none_goes job now)

-- a command is what was read
pub asked_goes : (line : List ℕ) (job : ℕ) (command : Command) (reply : Reply) (old new : SessionsSoFar) → HasDoneSteps (IsReplied command reply) job old new → IsUnblocked line reply → HasDoneSteps (IsDoneAs line (Ok command) reply) job old new
asked_goes line job command reply old new h had = shows_other (IsReplied command reply) (IsDoneAs line (Ok command) reply) job old new (λ xs replied. (had_untimed line reply had, replied)) h

-- a HALT that is refused
pub halt_refused : (job : ℕ) (p more : Past) (session later : Option Held) (begun after : Held) (refusal : Refusal) → more ≡ p → session ≡ Some begun → later ≡ Some after → IsBeginning after.seen begun.seen → after ≡ knowing after.seen begun → HasNoRoom refusal 1 (length after.seen)
    → HasDoneSteps (IsReplied Halt (Refused refusal)) job (sessions_so_far p session) (sessions_so_far more later)
halt_refused job p more session later begun after refusal same was is goes_on knows room =
    subst (λ (o : Option Held). HasDoneSteps (IsReplied Halt (Refused refusal)) job (sessions_so_far p o) (sessions_so_far more later)) (sym was)
    (subst (λ (o : Option Held). HasDoneSteps (IsReplied Halt (Refused refusal)) job (sessions_so_far p (Some begun)) (sessions_so_far more o)) (sym is)
    (subst (λ (q : Past). HasDoneSteps (IsReplied Halt (Refused refusal)) job (sessions_so_far p (Some begun)) (sessions_so_far q (Some after))) (sym same)
    (call_steps job p Halt (Refused refusal) begun after (halt_stepped refusal begun after goes_on knows room))))

-- ---- lines

pub serves_then : (job : ℕ) (lines middle rest : List (List ℕ)) (old between new : Running) → Serves job lines middle old between → Serves job middle rest between new → Serves job lines rest old new
serves_then job lines middle rest old between new h k = record {
  lines_done = h.lines_done ++ k.lines_done;
  their_replies = h.their_replies ++ k.their_replies;
  split = h.split ∙ (ap (λ (ls : List (List ℕ)). h.lines_done ++ ls) k.split ∙ sym (append_assoc h.lines_done k.lines_done rest));
  replied = k.replied ∙ (ap (λ (rs : List Reply). rs ++ k.their_replies) h.replied ∙ append_assoc old.replies h.their_replies k.their_replies);
  steps = shown_behind job rest h.lines_done middle k.lines_done h.their_replies k.their_replies old.sessions between.sessions new.sessions k.split h.steps k.steps;
}

-- no line
serves_none : (job : ℕ) (lines : List (List ℕ)) (now : Running) → Serves job lines lines now now
serves_none job lines now = record { lines_done = []; their_replies = []; split = refl; replied = sym (append-nil now.replies); steps = ([], refl, no_steps job now.sessions) }

pub reaches_none : (job : ℕ) (text : List (Bor (List ℕ))) (place : Cursor) (now : Running) → place.lines.now ≡ text → Reaches job text place now now
reaches_none job text place now same = subst (λ (t : List (Bor (List ℕ))). Reaches job t place now now) same (record { fewer = omega arith; serves = serves_none job (lent_lines place.lines.now) now })

-- a line more, with perhaps some behind it
pub reaches_on : (job : ℕ) (text : List (Bor (List ℕ))) (place : Cursor) (line : Line) (behind : Cursor) (old between new : Running) → Reaches job text place old between → lent_lines place.lines.now ≡ line.text.now ∷ lent_lines line.next.lines.now
    → length line.next.lines.now < length place.lines.now → Advances job line behind between new → Reaches job text behind old new
reaches_on job text place line behind old between new h first shorter step = record {
  fewer = omega (arith, h.fewer, shorter, step.fewer);
  serves = serves_then job (lent_lines text) (lent_lines place.lines.now) (lent_lines behind.lines.now) old between new h.serves
      (subst (λ (ls : List (List ℕ)). Serves job ls (lent_lines behind.lines.now) between new) (sym first) step.serves);
}

-- no line is left
pub reaches_end : (job : ℕ) (text : List (Bor (List ℕ))) (place : Cursor) (old new : Running) → Reaches job text place old new → lent_lines place.lines.now ≡ [] → Serves job (lent_lines text) [] old new
reaches_end job text place old new h none = subst (λ (ls : List (List ℕ)). Serves job (lent_lines text) ls old new) none h.serves

-- ---- one line

-- what was read is shown by its line
shown_as : (job : ℕ) (line : List ℕ) (asked : Result Command Refusal) (reply : Reply) (xs : List Told) → IsReadFor job line asked → ((command : Command) → asked ≡ Ok command → IsNoRestart command reply) → IsDoneAs line asked reply xs → IsShownBy job line reply xs
shown_as job line (Ok command) reply xs asks kept h = inr (command, asks, h.0, kept command refl, h.1)
shown_as job line (Err refusal) reply xs asks kept h = inl (refusal, asks, h.0, h.1)

same_ok : (a b : Command) → ◌≡◌ {A = Result Command Refusal} (Ok a) (Ok b) → a ≡ b
same_ok a b is = cc

-- no TCOMMIT
no_commit : (asked : Result Command Refusal) (command : Command) (reply : Reply) → IsNoCommit asked → asked ≡ Ok command → IsNoRestart command reply
no_commit (Ok read) command reply other is commit = absurd (other (same_ok read command is ∙ commit))
no_commit (Err refusal) command reply other is commit = absurd (cc)

-- a line that was done so
line_shown_as : (job : ℕ) (left : List (List ℕ)) (line : List ℕ) (asked : Result Command Refusal) (reply : Reply) (old new : SessionsSoFar) → IsReadFor job line asked → ((command : Command) → asked ≡ Ok command → IsNoRestart command reply) → HasDoneSteps (IsDoneAs line asked reply) job old new
    → HasDoneSteps (AreShown job left (line ∷ []) (reply ∷ [])) job old new
line_shown_as job left line asked reply old new asks kept h =
    shows_other (IsDoneAs line asked reply) (AreShown job left (line ∷ []) (reply ∷ [])) job old new (λ xs done. line_shown job left line reply xs (shown_as job line asked reply xs asks kept done)) h

line_advances : (job : ℕ) (line : Line) (asked : Result Command Refusal) (reply : Reply) (old new : Running) → IsReadFor job line.text.now asked → ((command : Command) → asked ≡ Ok command → IsNoRestart command reply) → new.replies ≡ old.replies ++ reply ∷ []
    → HasDoneSteps (IsDoneAs line.text.now asked reply) job old.sessions new.sessions → Advances job line line.next old new
line_advances job line asked reply old new asks kept replied h = record {
  fewer = omega arith;
  serves = record { lines_done = line.text.now ∷ []; their_replies = reply ∷ []; split = refl; replied = replied; steps = line_shown_as job (lent_lines line.next.lines.now) line.text.now asked reply old.sessions new.sessions asks kept h };
}

line_within : (job : ℕ) (line : Line) (asked : Result Command Refusal) (reply : Reply) (old new : Running) → IsReadFor job line.text.now asked → ((command : Command) → asked ≡ Ok command → IsNoRestart command reply) → new.replies ≡ old.replies ++ reply ∷ []
    → HasDoneSteps (IsDoneAs line.text.now asked reply) job old.sessions new.sessions → IsWithin job line.text.now reply → AdvancesWithin job line line.next old new
unfolding line_advances
line_within job line asked reply old new asks kept replied h within = (line_advances job line asked reply old new asks kept replied h, (within, tt))

-- one that is no TCOMMIT
pub passed : (job : ℕ) (line : Line) (asked : Result Command Refusal) (reply : Reply) (old new : Running) → IsReadFor job line.text.now asked → IsNoCommit asked → new.replies ≡ old.replies ++ reply ∷ [] → HasDoneSteps (IsDoneAs line.text.now asked reply) job old.sessions new.sessions
    → Advances job line line.next old new
passed job line asked reply old new asks other replied h = line_advances job line asked reply old new asks (λ command is. no_commit asked command reply other is) replied h

read_within : (job : ℕ) (line : List ℕ) (asked : Result Command Refusal) (reply : Reply) (old new : SessionsSoFar) → IsReadFor job line asked → EndsNone asked → HasDoneSteps (IsDoneAs line asked reply) job old new → IsWithin job line reply
read_within job line (Ok read) reply old new asks none h command others = subst (λ (c : Command). IsNoEnd c reply) (asks_once job line read command asks others) (command_no_end read reply none.0 none.1 none.2)
read_within job line (Err refusal) reply old new asks none h command others = subst (IsNoEnd command) (sym h.1.0) (refused_no_end command refusal)

-- and ends no transaction
pub passed_within : (job : ℕ) (line : Line) (asked : Result Command Refusal) (reply : Reply) (old new : Running) → IsReadFor job line.text.now asked → IsNoCommit asked → EndsNone asked → new.replies ≡ old.replies ++ reply ∷ []
    → HasDoneSteps (IsDoneAs line.text.now asked reply) job old.sessions new.sessions → AdvancesWithin job line line.next old new
passed_within job line asked reply old new asks other none replied h =
    line_within job line asked reply old new asks (λ command is. no_commit asked command reply other is) replied h (read_within job line.text.now asked reply old.sessions new.sessions asks none h)

-- one that didn't begin the transaction anew
pub ended_advances : (job : ℕ) (line : Line) (command : Command) (reply : Reply) (old new : Running) → Asks job line.text.now command → ((restarts : ℕ) → reply ≢ Restarted restarts) → new.replies ≡ old.replies ++ reply ∷ [] → HasDoneSteps (IsDoneAs line.text.now (Ok command) reply) job old.sessions new.sessions
    → Advances job line line.next old new
ended_advances job line command reply old new asks kept replied h = line_advances job line (Ok command) reply old new asks (λ other is commit. kept) replied h

-- nor ended it
pub ended_within : (job : ℕ) (line : Line) (command : Command) (reply : Reply) (old new : Running) → Asks job line.text.now command → ((restarts : ℕ) → reply ≢ Restarted restarts) → (reply ≢ Committed) × (reply ≢ Finished) → new.replies ≡ old.replies ++ reply ∷ []
    → HasDoneSteps (IsDoneAs line.text.now (Ok command) reply) job old.sessions new.sessions → AdvancesWithin job line line.next old new
ended_within job line command reply old new asks kept none replied h = line_within job line (Ok command) reply old new asks (λ other is commit. kept) replied h (λ other others. other_no_end other reply none.0 none.1)

-- one that did
pub was_overtaken : (job : ℕ) (line : List ℕ) (command : Command) (reply : Reply) (old new : Running) → Asks job line command → HasDoneSteps (IsDoneAs line (Ok command) reply) job old.sessions new.sessions → (restarts : ℕ) × (reply ≡ Restarted restarts) → new.replies ≡ old.replies → WasOvertaken job line old new
was_overtaken job line command reply old new asks h again kept = (
  kept,
  command,
  asks,
  again.0,
  shows_other (IsDoneAs line (Ok command) reply) (IsReplied command (Restarted again.0)) job old.sessions new.sessions (λ xs done. subst (λ (r : Reply). IsReplied command r xs) again.1 done.1) h,
)

-- ---- blocks that are tried

pub begins : (job : ℕ) (line : Line) (reply : Reply) (old new : Running) → Asks job line.text.now Start → reply ≡ AtLevel 1 → new.replies ≡ old.replies ++ reply ∷ [] → HasDoneSteps (IsDoneAs line.text.now (Ok Start) reply) job old.sessions new.sessions → Begins job line old new
begins job line reply old new asks is replied h = record {
  replied = replied ∙ ap (λ (r : Reply). old.replies ++ r ∷ []) is;
  steps = line_shown_as job (lent_lines line.next.lines.now) line.text.now (Ok Start) (AtLevel 1) old.sessions new.sessions asks (λ command same commit restarts again. absurd (cc))
      (subst (λ (r : Reply). HasDoneSteps (IsDoneAs line.text.now (Ok Start) r) job old.sessions new.sessions) is h);
}

-- where the reply says so
pub begun_where : (job : ℕ) (line : Line) (reply : Reply) (found : Bool) (same old new : Running) → old ≡ same → Asks job line.text.now Start → (found ≡ true → reply ≡ AtLevel 1) → new.replies ≡ old.replies ++ reply ∷ [] → HasDoneSteps (IsDoneAs line.text.now (Ok Start) reply) job old.sessions new.sessions
    → OnOkThat {E = ServerFault} (Ok found) (Begins job line same new)
begun_where job line reply true same old new is asks found replied h = subst (λ (x : Running). Begins job line x new) is (begins job line reply old new asks (found refl) replied h)
begun_where job line reply false same old new is asks found replied h = tt

-- or doesn't
pub unbegun_where : (reply : Reply) (found : Bool) (same old new : Running) → old ≡ same → (found ≡ false → reply ≢ AtLevel 1) → new.replies ≡ old.replies ++ reply ∷ [] → OnOkNot {E = ServerFault} (Ok found) (BeginsNone same new)
unbegun_where reply true same old new is other replied = tt
unbegun_where reply false same old new is other replied = subst (λ (x : Running). BeginsNone x new) is (reply, other refl, replied)

-- the same behind a try
pub begins_again : (job : ℕ) (line : Line) (old middle tried new : Running) → Asks job line.text.now Start → Begins job line old middle → IsBack job line.next.lines.now middle tried → new.sessions ≡ tried.sessions → new.replies ≡ middle.replies → Begins job line old new
begins_again job line old middle tried new asks h back kept same = record {
  replied = same ∙ h.replied;
  steps = subst (λ (x : SessionsSoFar). HasDoneSteps (AreShown job (lent_lines line.next.lines.now) (line.text.now ∷ []) (AtLevel 1 ∷ [])) job old.sessions x) (sym kept)
      (shown_tried job line.text.now (lent_lines line.next.lines.now) old.sessions middle.sessions tried.sessions asks h.steps back);
}

-- the lines behind the TSTART were done
pub begins_advances : (job : ℕ) (line : Line) (behind : Cursor) (old middle new : Running) → Begins job line old middle → Reaches job line.next.lines.now behind middle new → Advances job line behind old new
begins_advances job line behind old middle new h reached = record {
  fewer = reached.fewer;
  serves = serves_then job (line.text.now ∷ lent_lines line.next.lines.now) (lent_lines line.next.lines.now) (lent_lines behind.lines.now) old middle new
      (record { lines_done = line.text.now ∷ []; their_replies = AtLevel 1 ∷ []; split = refl; replied = h.replied; steps = h.steps }) reached.serves;
}

-- none of these lines has ended a transaction, nor of those behind them
within_then : (job : ℕ) (front back : List (List ℕ)) (replies more : List Reply) → AreWithin job front replies → AreWithin job back more → AreWithin job (front ++ back) (replies ++ more)
within_then job [] back [] more first second = second
within_then job [] back (reply ∷ replies) more first second = absurd first
within_then job (line ∷ front) back [] more first second = absurd first
within_then job (line ∷ front) back (reply ∷ replies) more first second = (first.0, within_then job front back replies more first.1 second)

pub within_none : (job : ℕ) (text : List (Bor (List ℕ))) (place : Cursor) (now : Running) → place.lines.now ≡ text → ReachesWithin job text place now now
unfolding serves_none
within_none job text place now same = subst (λ (t : List (Bor (List ℕ))). ReachesWithin job t place now now) same (record { fewer = omega arith; serves = serves_none job (lent_lines place.lines.now) now }, tt)

pub within_on : (job : ℕ) (text : List (Bor (List ℕ))) (place : Cursor) (line : Line) (behind : Cursor) (old between new : Running) → ReachesWithin job text place old between → lent_lines place.lines.now ≡ line.text.now ∷ lent_lines line.next.lines.now
    → length line.next.lines.now < length place.lines.now → AdvancesWithin job line behind between new → ReachesWithin job text behind old new
unfolding serves_then
within_on job text place line behind old between new h first shorter step =
    let served : ServesWithin job (lent_lines place.lines.now) (lent_lines behind.lines.now) between new = subst (λ (ls : List (List ℕ)). ServesWithin job ls (lent_lines behind.lines.now) between new) (sym first) (step.0.serves, step.1) in (
      record {
        fewer = omega (arith, h.0.fewer, shorter, step.0.fewer);
        serves = serves_then job (lent_lines text) (lent_lines place.lines.now) (lent_lines behind.lines.now) old between new h.0.serves served.0;
      },
      within_then job h.0.serves.lines_done served.0.lines_done h.0.serves.their_replies served.0.their_replies h.1 served.1,
    )

-- a line of a try found that the transaction was overtaken
pub is_back : (job : ℕ) (text : List (Bor (List ℕ))) (place : Cursor) (line : Line) (old middle new : Running) → ReachesWithin job text place old middle → lent_lines place.lines.now ≡ line.text.now ∷ lent_lines line.next.lines.now → WasOvertaken job line.text.now middle new → IsBack job text old new
is_back job text place line old middle new (h, within) next over =
    tried_to job (lent_lines text) h.serves.lines_done (lent_lines place.lines.now) (lent_lines line.next.lines.now) line.text.now h.serves.their_replies over.1 over.3 old.sessions middle.sessions new.sessions h.serves.split next over.2 within h.serves.steps over.4

pub tried_replies : (job : ℕ) (text : List (Bor (List ℕ))) (line : List ℕ) (place : Cursor) (old middle new : Running) → ReachesWithin job text place old middle → WasOvertaken job line middle new → GoesOnFrom old.replies new.replies
tried_replies job text line place old middle new h over = (h.0.serves.their_replies, over.0 ∙ h.0.serves.replied)

-- ---- answers and reports

-- what holds of an answer, where two others do
pub both_ok : {A E : Type 0} {P Q R : A → Type 0} (r : Result A E) → ((a : A) → P a → Q a → R a) → IfOk r P → IfOk r Q → IfOk r R
both_ok (Ok a) f p q = f a p q
both_ok (Err e) f p q = tt

pub at_place : (scripts : List Group) (place since : ℕ) (w : Group) (report : Answers) (books : List Book) → slice_get scripts place ≡ Some w → IsReport w report → HasRunAs since w report books → ∥ IsReportAt scripts place since report books ∥₁
at_place scripts place since w report books at is run = ∣ record { script = w; at = at; is_report = is; has_run = run } ∣₁
