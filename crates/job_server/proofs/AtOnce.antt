-- Lines that are done under one hold of the lock.
use Rattle.std.proofs.Common.{◌≡◌, ℕ, Bool, true, false, List, [], ◌∷◌, ◌++◌, length, refl, sym, ap, ◌∙◌, subst, arith}
use Rattle.std.specs.Prelude.{Option, Some, None, Result, Ok, Err}
use Rattle.std.specs.List.{All}
use Rattle.std.proofs.lemmas.List.Elements.{All-nil, All-cons, All-rest}
use Rattle.std.specs.Borrow.{Bor}
use Rattle.refusal.specs.declared.Refusal.{Refusal}
use Rattle.command.specs.declared.access.DataCommand.{DataCommand}
use Rattle.command.specs.declared.access.Answer.{Answer}
use Rattle.command.specs.declared.request.Command.{Command}
use Rattle.command.specs.declared.request.Command.TheVariants.{Access}
use Rattle.command.specs.declared.request.Reply.{Reply}
use Rattle.command.specs.declared.request.Reply.TheVariants.{Answered}
use Rattle.journal.specs.declared.unit.Unit.{Unit as JournalUnit}
use Rattle.shared_engine.specs.Sessions.{Held, knowing}
use Rattle.shared_engine.specs.declared.serial_run.SerialRun.{SerialRun}
use Rattle.shared_engine.specs.declared.serial_run.SerialRun.TheVariants.{Done, Blocked}
use Rattle.shared_engine.specs.Blocks.{said, HasDone, AreDone, is_blocked, AreHad, HasCome}
use Rattle.shared_engine.specs.Holds.{Lines, accesses}
use Rattle.job_scripts.specs.Blocks.{in_place, AreAsked, AreInFront}
use Rattle.job_scripts.specs.Lines.{lent_lines}
use Rattle.job_server.specs.declared.cursor.Cursor.{Cursor}
use Rattle.job_server.specs.declared.cursor.Line.{Line}
use Rattle.job_server.specs.declared.gathering.Front.{Front}
use Rattle.job_server.specs.Holding.{AreGathered, IsGathered, HasHeld}
use Rattle.job_server.specs.Steps.{Past, sessions_so_far, HasDoneSteps, IsNoStep, IsBetween, IsNoEnd, AreShown}
use Rattle.job_server.specs.Telling.{Running, running, Serves, AreWithin, ServesWithin, AdvancesWithin}
use Rattle.job_server.proofs.Stepping.{between_knowing, no_steps, steps_behind, done_then, block_steps, block_shown, asks_once, command_no_end, refused_no_end}

abbrev IsData : Command → Type 0
IsData c = (d : DataCommand) × (c ≡ Access d)

-- all are data commands
abbrev AreDataCommands : List Command → Type 0
AreDataCommands commands = All IsData commands

-- done from a session that stands so
block_from : (job : ℕ) (before rest : List (List ℕ)) (places : List (Option Refusal)) (commands : List Command) (musts : List Bool) (served replies more_replies : List Reply) (p : Past) (units more : List JournalUnit) (old start new : Held)
    → AreInFront job before rest places commands musts → start.seen ≡ units → IsBetween job (sessions_so_far p (Some old)) (sessions_so_far p (Some start)) → AreDone commands served units more start new → AreHad musts served → more_replies ≡ replies ++ in_place places served
    → Serves job before rest (running replies (sessions_so_far p (Some old))) (running more_replies (sessions_so_far p (Some new)))
block_from job before rest places commands musts served replies more_replies p units more old start new in_front seen between done had is = record {
  lines_done = in_front.front;
  their_replies = in_place places served;
  split = in_front.split;
  replied = is;
  steps = (let block = block_steps job p commands served units more start new seen done in
      (block.0, block_shown job rest in_front.front places commands musts served units more start new block.0 in_front.asked in_front.timed done had block.1, steps_behind job block.0 (sessions_so_far p (Some old)) (sessions_so_far p (Some start)) (sessions_so_far p (Some new)) between block.2));
}

-- all was done, and replied so
abbrev pub IsAll : SerialRun → List Reply → Type 0
IsAll (Done replies) served = replies.items ≡ served
IsAll (Blocked place) served = ⊥

all_done : (musts : List Bool) (commands : List Command) (run : SerialRun) (served : List Reply) (units more : List JournalUnit) (old new : Held) → IsAll run served → HasCome musts commands run units more old new → AreDone commands served units more old new × AreHad musts served
all_done musts commands (Done replies) served units more old new all come = subst (λ (rs : List Reply). AreDone commands rs units more old new × AreHad musts rs) all come
all_done musts commands (Blocked place) served units more old new all come = absurd all

-- no data command ends a transaction
data_within : (job : ℕ) (lines : List (List ℕ)) (places : List (Option Refusal)) (commands : List Command) (replies : List Reply) (units more : List JournalUnit) (old new : Held) → AreDataCommands commands → AreAsked job lines places commands → AreDone commands replies units more old new
    → AreWithin job lines (in_place places replies)
data_within job [] [] [] replies units more old new all asked done = tt
data_within job [] [] (command ∷ commands) replies units more old new all asked done = absurd asked
data_within job [] (place ∷ places) commands replies units more old new all asked done = absurd asked
data_within job (line ∷ lines) [] commands replies units more old new all asked done = absurd asked
data_within job (line ∷ lines) (Some refusal ∷ places) commands replies units more old new all asked done =
    ((λ command asks. refused_no_end command refusal), data_within job lines places commands replies units more old new all asked.1 done)
data_within job (line ∷ lines) (None ∷ places) [] replies units more old new all asked done = absurd asked
data_within job (line ∷ lines) (None ∷ places) (command ∷ commands) [] units more old new all asked done = absurd done
data_within job (line ∷ lines) (None ∷ places) (command ∷ commands) (reply ∷ replies) units more old new all asked done = (
  (λ other asks. subst (λ (c : Command). IsNoEnd c reply) (asks_once job line command other asked.0 asks) (access_no_end command reply (all 0 command (omega arith)))),
  data_within job lines places commands replies done.0 more done.1 new (All-rest IsData command commands (command ∷ commands) refl all) asked.1 done.3,
)
  where
    access_no_end : (c : Command) (r : Reply) → ((d : DataCommand) × (c ≡ Access d)) → IsNoEnd c r
    access_no_end c r (d, is) = subst (λ (x : Command). IsNoEnd x r) (sym is) (command_no_end (Access d) r (λ e. absurd (cc)) (λ e. absurd (cc)) (λ e. absurd (cc)))

-- data commands of these lines were done from a session that stands so
data_from : (job : ℕ) (before rest : List (List ℕ)) (places : List (Option Refusal)) (commands : List Command) (musts : List Bool) (served replies more_replies : List Reply) (p : Past) (units more : List JournalUnit) (old start new : Held)
    → AreDataCommands commands → AreInFront job before rest places commands musts → start.seen ≡ units → IsBetween job (sessions_so_far p (Some old)) (sessions_so_far p (Some start)) → AreDone commands served units more start new → AreHad musts served → more_replies ≡ replies ++ in_place places served
    → ServesWithin job before rest (running replies (sessions_so_far p (Some old))) (running more_replies (sessions_so_far p (Some new)))
unfolding block_from
data_from job before rest places commands musts served replies more_replies p units more old start new all in_front seen between done had is = (
  block_from job before rest places commands musts served replies more_replies p units more old start new in_front seen between done had is,
  data_within job in_front.front places commands served units more start new all in_front.asked done,
)

-- where the transaction began anew, from there
pub anew_serves : (job : ℕ) (before rest : List (List ℕ)) (places : List (Option Refusal)) (commands : List Command) (musts : List Bool) (run : SerialRun) (served replies more_replies : List Reply) (p : Past) (units more : List JournalUnit) (middle new : Held) → middle.seen ≡ units
    → AreInFront job before rest places commands musts → HasCome musts commands run units more middle new → IsAll run served → more_replies ≡ replies ++ in_place places served
    → Serves job before rest (running replies (sessions_so_far p (Some middle))) (running more_replies (sessions_so_far p (Some new)))
anew_serves job before rest places commands musts run served replies more_replies p units more middle new seen in_front come all is =
    let done = all_done musts commands run served units more middle new all come in
    block_from job before rest places commands musts served replies more_replies p units more middle middle new in_front seen (no_steps job (sessions_so_far p (Some middle))) done.0 done.1 is

-- what data commands are replied says of no LOCK that it was blocked
answer_had : (must : Bool) (result : Result Answer Refusal) → is_blocked must (said Answered result) ≡ false
answer_had true (Ok answer) = refl
answer_had true (Err refusal) = refl
answer_had false (Ok answer) = refl
answer_had false (Err refusal) = refl

access_had : (must : Bool) (command : Command) (reply : Reply) (units more : List JournalUnit) (old new : Held) → ((d : DataCommand) × (command ≡ Access d)) → HasDone command reply units more old new → is_blocked must reply ≡ false
access_had must command reply units more old new is done =
    let answered : HasDone (Access is.0) reply units more old new = subst (λ (c : Command). HasDone c reply units more old new) is.1 done in
    ap (is_blocked must) answered.1 ∙ answer_had must answered.0

data_had : (musts : List Bool) (commands : List Command) (replies : List Reply) (units more : List JournalUnit) (old new : Held) → AreDataCommands commands → AreDone commands replies units more old new → AreHad musts replies
data_had [] commands replies units more old new all done = tt
data_had (must ∷ musts) commands [] units more old new all done = tt
data_had (must ∷ musts) [] (reply ∷ replies) units more old new all done = absurd done
data_had (must ∷ musts) (command ∷ commands) (reply ∷ replies) units more old new all done = (
  access_had must command reply units done.0 old done.1 (all 0 command (omega arith)) done.2,
  data_had musts commands replies done.0 more done.1 new (All-rest IsData command commands (command ∷ commands) refl all) done.3,
)

-- ---- lines of a hold

data_accesses : (commands : List DataCommand) → AreDataCommands (accesses commands)
data_accesses [] = All-nil IsData
data_accesses (command ∷ commands) = All-cons IsData (Access command) (accesses commands) (command, refl) (data_accesses commands)

-- they were done in a job's session
held_serves : (job : ℕ) (before rest : List (List ℕ)) (hold : Lines) (served replies more_replies : List Reply) (p : Past) (session later : Option Held) → AreGathered job before rest hold → HasHeld (accesses hold.commands) served session later → more_replies ≡ replies ++ in_place hold.places served
    → ServesWithin job before rest (running replies (sessions_so_far p session)) (running more_replies (sessions_so_far p later))
held_serves job before rest hold served replies more_replies p None later gathered held is = absurd held
held_serves job before rest hold served replies more_replies p (Some old) None gathered held is = absurd held
held_serves job before rest hold served replies more_replies p (Some old) (Some new) (musts, in_front) (units, more, goes_on, done) is =
    let all = data_accesses hold.commands in
    data_from job before rest hold.places (accesses hold.commands) musts served replies more_replies p units more old (knowing units old) new all in_front refl (between_knowing job p units old goes_on) done (data_had musts (accesses hold.commands) served units more (knowing units old) new all done) is

-- and so the job goes on behind them
pub held_advances : (job : ℕ) (line : Line) (front : Front) (behind : Cursor) (hold : Lines) (served replies more_replies : List Reply) (p : Past) (session later : Option Held) → IsGathered job line front hold → HasHeld (accesses hold.commands) served session later → behind.lines.now ≡ front.rest.now
    → more_replies ≡ replies ++ in_place hold.places served → AdvancesWithin job line behind (running replies (sessions_so_far p session)) (running more_replies (sessions_so_far p later))
held_advances job line front behind hold served replies more_replies p session later h held same is =
    let all = line.text.now ∷ lent_lines line.next.lines.now in
    let old = running replies (sessions_so_far p session) in
    let new = running more_replies (sessions_so_far p later) in
    let serves : ServesWithin job all (lent_lines behind.lines.now) old new = subst (λ (ls : List (Bor (List ℕ))). ServesWithin job all (lent_lines ls) old new) (sym same) (held_serves job all (lent_lines front.rest.now) hold served replies more_replies p session later h.gathered held is) in
    (record { fewer = omega (arith, h.fewer, ap length same); serves = serves.0 }, serves.1)

-- a session was begun before it
pub opened_advances : (job : ℕ) (line : Line) (behind : Cursor) (same old middle new : Running) → same ≡ old → middle.replies ≡ same.replies → HasDoneSteps IsNoStep job same.sessions middle.sessions → AdvancesWithin job line behind middle new → AdvancesWithin job line behind old new
opened_advances job line behind same old middle new is replied opened (h, within) = subst (λ (x : Running). AdvancesWithin job line behind x new) is (
  record {
    fewer = h.fewer;
    serves = record {
      lines_done = h.serves.lines_done;
      their_replies = h.serves.their_replies;
      split = h.serves.split;
      replied = h.serves.replied ∙ ap (λ (rs : List Reply). rs ++ h.serves.their_replies) replied;
      steps = done_then (AreShown job (lent_lines behind.lines.now) h.serves.lines_done h.serves.their_replies) job same.sessions middle.sessions new.sessions opened h.serves.steps;
    };
  },
  within,
)
