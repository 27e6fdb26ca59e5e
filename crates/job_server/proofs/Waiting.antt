-- A block whose LOCK was blocked: its job waits for the names, and its transaction begins anew.
use Rattle.std.specs.Borrow.{Bor}
use Rattle.std.proofs.Common.{◌≡◌, ℕ, zero, suc, ◌≤◌, ◌<◌, Bool, List, [], ◌∷◌, ◌++◌, length, refl, sym, ap, subst, arith}
use Rattle.std.specs.Prelude.{Option, Some, None, Result, Ok, slice_index_or}
use Rattle.refusal.specs.declared.Refusal.{Refusal}
use Rattle.lock_name.specs.declared.lock.LockCommand.{LockCommand}
use Rattle.command.specs.declared.request.Command.{Command}
use Rattle.command.specs.declared.request.Command.TheVariants.{Lock as lock_command, Restart}
use Rattle.command.specs.declared.request.Reply.{Reply}
use Rattle.command.specs.declared.request.Reply.TheVariants.{Restarted}
use Rattle.journal.specs.declared.unit.Unit.{Unit as JournalUnit}
use Rattle.serial.specs.Machine.{told_had}
use Rattle.shared_engine.specs.Sessions.{Held, begun_anew}
use Rattle.shared_engine.specs.declared.serial_run.SerialRun.{SerialRun}
use Rattle.shared_engine.specs.declared.serial_run.SerialRun.TheVariants.{Blocked}
use Rattle.pin_board.specs.Slips.{IsBeginning}
use Rattle.shared_engine.specs.Blocks.{said, must_in, HasCome}
use Rattle.shared_engine.specs.Engines.{gone_back}
use Rattle.job_scripts.specs.Blocks.{in_place, IsOneBlock, AreInFront}
use Rattle.job_scripts.specs.Lines.{lent_lines}
use Rattle.job_server.specs.declared.cursor.Cursor.{Cursor}
use Rattle.job_server.specs.Steps.{Past, SessionsSoFar, sessions_so_far, WasDoneBy, HasDoneSteps, OneAsks, AreTries}
use Rattle.job_server.specs.Telling.{HasLocked, Running, running, BeganAnew, HasRunAnew, HasWaited, HasWaitedFor, Serves, IsBackAt, HasTriedAlone}
use Rattle.job_server.proofs.AtOnce.{IsAll, anew_serves}
use Rattle.job_server.proofs.Stepped.{restart_stepped, locked_stepped}
use Rattle.job_server.proofs.Levels.{cut_no_ends, blocked_no_end}
use Rattle.job_server.proofs.Stepping.{AreAllAsked, AreNoEnds, front_asked, tries_done, restart_tries, cut_tries, lock_tries, waited_tries}

-- ---- the LOCK that was blocked

-- one of the commands, by its place
command_asked : (job : ℕ) (lines : List (List ℕ)) (commands : List Command) (i : ℕ) (x : Command) → AreAllAsked job lines commands → i < length commands → x ≡ slice_index_or commands i x → OneAsks job lines x
command_asked job lines [] i x all within at = absurd (omega (arith, within))
command_asked job lines (command ∷ commands) zero x all within at = subst (OneAsks job lines) (sym at) all.0
command_asked job lines (command ∷ commands) (suc i) x all within at = command_asked job lines commands i x all.1 (omega (arith, within)) at

pub lock_found : (job : ℕ) (all rest : List (List ℕ)) (places : List (Option Refusal)) (commands : List Command) (musts : List Bool) (i : ℕ) (x : Command) (c : LockCommand) → AreInFront job all rest places commands musts → i < length commands → x ≡ slice_index_or commands i x → x ≡ lock_command c
    → OneAsks job all (lock_command c)
lock_found job all rest places commands musts i x c h within at is = subst (OneAsks job all) is (command_asked job all commands i x (front_asked job all rest places commands musts h) within at)

-- ---- waiting

-- a TRESTART by the server
begins_anew : (units : List JournalUnit) (old : Held) → 1 ≤ old.state.level → IsBeginning units old.seen → WasDoneBy Restart (Restarted (begun_anew (gone_back old.state units) old).state.restarts) old (begun_anew (gone_back old.state units) old)
begins_anew units old one goes_on =
    let begun : Held = begun_anew (gone_back old.state units) old in restart_stepped (Ok begun.state.restarts) old begun one (units, goes_on, (refl, (refl, refl)))

pub waited : (command : LockCommand) (done : Result Bool Refusal) (old begun locked new : Held) → BeganAnew old begun → HasLocked command done begun locked → BeganAnew locked new → HasWaited command old new
waited command done old begun locked new first tried last = record { begun = begun; locked = locked; done = done; first = first; tried = locked_stepped command done begun locked tried; last = last }

-- ---- tries

-- where a block's LOCK was blocked, its job has waited for these names
pub blocked_back : (job : ℕ) (text : List (Bor (List ℕ))) (rest : List (List ℕ)) (places : List (Option Refusal)) (commands : List Command) (musts : List Bool) (run : SerialRun) (place : ℕ) (command : LockCommand) (replies more_replies : List Reply) (p : Past) (session middle later : Option Held)
    → AreInFront job (lent_lines text) rest places commands musts → IsOneBlock 1 commands → HasRunAnew musts commands run session middle → run ≡ Blocked place → OneAsks job (lent_lines text) (lock_command command) → HasWaitedFor command middle later → more_replies ≡ replies
    → IsBackAt job text (running replies (sessions_so_far p session)) (running more_replies (sessions_so_far p later))
blocked_back job text rest places commands musts run place command replies more_replies p None middle later in_front one ran blocked asks waited same = absurd ran
blocked_back job text rest places commands musts run place command replies more_replies p (Some old) None later in_front one ran blocked asks waited same = absurd ran
blocked_back job text rest places commands musts run place command replies more_replies p (Some old) (Some middle) None in_front one ran blocked asks waited same = absurd waited
blocked_back job text rest places commands musts run place command replies more_replies p (Some old) (Some middle) (Some new) in_front one ran blocked asks waited same = (tries, same)
  where
    units : List JournalUnit
    units = gone_back old.state ran.1

    begun : Held
    begun = begun_anew units old

    lines : List (List ℕ)
    lines = lent_lines text

    stands_with : Held → SessionsSoFar
    stands_with h = sessions_so_far p (Some h)

    cut : HasCome musts commands (Blocked place) units middle.seen begun middle
    cut = subst (λ (r : SerialRun). HasCome musts commands r units middle.seen begun middle) blocked ran.3

    none : AreNoEnds cut.front (cut.before ++ cut.last ∷ [])
    none = cut_no_ends 1 cut.front cut.back cut.before cut.last units middle.seen begun middle (omega arith) (omega arith) (subst (IsOneBlock 1) cut.split one) cut.done (blocked_no_end (must_in musts place) cut.last cut.blocked)

    tries : HasDoneSteps (AreTries job lines) job (stands_with old) (stands_with new)
    tries = waited_tries job lines (stands_with old) (stands_with begun) (stands_with middle) (stands_with waited.begun) (stands_with waited.locked) (stands_with new)
        (restart_tries job lines p begun.state.restarts old begun (begins_anew ran.1 old ran.0 ran.2))
        (cut_tries job p lines rest places musts commands cut.front cut.back (cut.before ++ cut.last ∷ []) units middle.seen begun middle in_front cut.split none refl cut.done)
        (restart_tries job lines p waited.first.0 middle waited.begun waited.first.1) (lock_tries job p lines command (said (told_had command) waited.done) waited.begun waited.locked asks waited.tried)
        (restart_tries job lines p waited.last.0 waited.locked new waited.last.1)

-- ---- the end of a try

-- the lines of a block were done from where its transaction began anew
pub anew_reaches : (job : ℕ) (text rest : List (Bor (List ℕ))) (behind : Cursor) (places : List (Option Refusal)) (commands : List Command) (musts : List Bool) (run : SerialRun) (served replies more_replies : List Reply) (p : Past) (session later : Option Held) → length rest ≤ length text → behind.lines.now ≡ rest
    → AreInFront job (lent_lines text) (lent_lines rest) places commands musts → HasRunAnew musts commands run session later → IsAll run served → more_replies ≡ replies ++ in_place places served
    → HasTriedAlone job text (Some behind) (running replies (sessions_so_far p session)) (running more_replies (sessions_so_far p later))
anew_reaches job text rest behind places commands musts run served replies more_replies p None later fewer same in_front ran all is = absurd ran
anew_reaches job text rest behind places commands musts run served replies more_replies p (Some old) None fewer same in_front ran all is = absurd ran
anew_reaches job text rest behind places commands musts run served replies more_replies p (Some old) (Some new) fewer same in_front ran all is =
    let units : List JournalUnit = gone_back old.state ran.1 in
    let begun : Held = begun_anew units old in
    let middle : Running = running replies (sessions_so_far p (Some begun)) in (
      middle,
      (tries_done job (lent_lines text) (sessions_so_far p (Some old)) (sessions_so_far p (Some begun)) (restart_tries job (lent_lines text) p begun.state.restarts old begun (begins_anew ran.1 old ran.0 ran.2)), refl),
      record {
        fewer = omega (arith, fewer, ap length same);
        serves = subst (λ (l : List (Bor (List ℕ))). Serves job (lent_lines text) (lent_lines l) middle (running more_replies (sessions_so_far p (Some new)))) (sym same)
            (anew_serves job (lent_lines text) (lent_lines rest) places commands musts run served replies more_replies p units new.seen begun new refl in_front ran.3 all is);
      },
    )

pub tried_alone : (job : ℕ) (text : List (Bor (List ℕ))) (ended : Option Cursor) (behind : Cursor) (old new : Running) → HasTriedAlone job text ended old new → ended ≡ Some behind → HasTriedAlone job text (Some behind) old new
tried_alone job text ended behind old new h is = subst (λ (o : Option Cursor). HasTriedAlone job text o old new) is h

pub tried_back : (job : ℕ) (text : List (Bor (List ℕ))) (ended : Option Cursor) (old new : Running) → HasTriedAlone job text ended old new → ended ≡ None → IsBackAt job text old new
tried_back job text ended old new h is = subst (λ (o : Option Cursor). HasTriedAlone job text o old new) is h
