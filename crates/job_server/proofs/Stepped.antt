-- What a call of the engine answered is a step of its session.
use Rattle.std.proofs.Common.{◌≡◌, ◌≢◌, ◌⊎◌, inl, inr, ℕ, ◌+◌, ◌-◌, ◌≤◌, ◌<◌, Bool, true, false, List, refl, sym, ap, subst, arith, length, true≢false}
use Rattle.std.specs.Prelude.{Option, Some, None, Result, Ok, Err, IfSome, IsSome, IfOk, IfErr, OnOk, OnErr}
use Rattle.refusal.specs.declared.Refusal.{Refusal}
use Rattle.refusal.specs.declared.Refusal.TheVariants.{NoTransaction, LevelTooDeep, TransactionTooLong}
use Rattle.collation.specs.Limits.{most_commands, most_levels}
use Rattle.collation.specs.Database.{Database}
use Rattle.lock_name.specs.declared.lock.LockCommand.{LockCommand}
use Rattle.lock_name.specs.declared.lock.LockCommand.TheVariants.{Release, Only, More, Fewer}
use Rattle.command.specs.declared.access.DataCommand.{DataCommand}
use Rattle.command.specs.declared.access.DataCommand.TheVariants.{Set, Kill, Merge, Increment, Look}
use Rattle.command.specs.declared.access.Answer.{Answer}
use Rattle.command.specs.declared.access.Answer.TheVariants.{Done}
use Rattle.command.specs.Data.{data_refusal, data_reply}
use Rattle.command.specs.declared.request.Command.{Command}
use Rattle.command.specs.declared.request.Command.TheVariants.{Access, Lock as lock_command, Start, Commit, Rollback, Restart, Level, Restarts, Halt}
use Rattle.command.specs.declared.request.Reply.{Reply}
use Rattle.command.specs.declared.request.Reply.TheVariants.{Answered, Finished, Had, Count, AtLevel, Restarted as restarted_reply, Refused}
use Rattle.globals.specs.Answering.{early_refusal}
use Rattle.journal.specs.declared.unit.Unit.{Unit as JournalUnit}
use Rattle.journal.specs.History.{initial, after}
use Rattle.journal.specs.Kept.{HasNoRoom}
use Rattle.serial.specs.Machine.{told_had}
use Rattle.validate_commit.specs.Working.{IsWriting, IsCauseAlone, IsCauseInside, seen}
use Rattle.validate_commit.specs.Verdicts.{IsCauseAtCommit}
use Rattle.job_core.specs.Sessions.{Session as JobSession, at_level, IsAnsweredOrRefused, IsRefused, HasWritten}
use Rattle.pin_board.specs.Slips.{IsBeginning}
use Rattle.shared_engine.specs.Sessions.{Held, held, knowing, IsAt, HasBegun, IsJournalOf}
use Rattle.shared_engine.specs.Engines.{HasEnded, IsCauseAtRestart}
use Rattle.shared_engine.specs.declared.locked.Ended.{Ended}
use Rattle.shared_engine.specs.declared.locked.Ended.TheVariants.{Committed, Restarted}
use Rattle.shared_engine.specs.Blocks.{said, IsLone, IsReadAt, WasTried, WasTriedAgain, IsRolledBack, IsRestarted, HasDone}
use Rattle.shared_engine.specs.Steps.{reply_at_end}
use Rattle.shared_engine.specs.laws.Prefixes.{begins_itself}
use Rattle.job_server.specs.Replying.{written_as, ended_as}
use Rattle.job_server.specs.Steps.{IsDoneOnce, WasDoneBy}
use Rattle.job_server.specs.Telling.{HasLocked, BeganAnew}

-- the same reply
pub done_as : (command : Command) (a reply : Reply) (old new : Held) → WasDoneBy command a old new → reply ≡ a → WasDoneBy command reply old new
done_as command a reply old new h is = subst (λ (r : Reply). WasDoneBy command r old new) (sym is) h

-- a command that is done as in a block
by_block : (command : Command) (reply : Reply) (units : List JournalUnit) (old new : Held) → IsBeginning units old.seen → HasDone command reply units new.seen old new → WasDoneBy command reply old new
by_block command reply units old new goes_on done = inl (units, goes_on, λ stands. inl done)

-- nothing has changed
seen_same : (old new : Held) → new ≡ old → new.seen ≡ old.seen
seen_same old new same = ap (λ (h : Held). h.seen) same

-- ---- data commands

pub lone_stepped : (command : DataCommand) (result : Result Answer Refusal) (old new : Held) → old.state.level ≡ 0 → ((units : List JournalUnit) × IsBeginning units old.seen × IsLone command result units new.seen old new) → WasDoneBy (Access command) (said Answered result) old new
lone_stepped command result old new level h = by_block (Access command) (said Answered result) h.0 old new h.1 (result, refl, (λ none. h.2), (λ deep. absurd (omega (arith, level, deep))))

-- one in a transaction, of which this is known
inside_stepped : (command : DataCommand) (result : Result Answer Refusal) (units : List JournalUnit) (old new : Held) → 1 ≤ old.state.level → IsBeginning units old.seen → IsReadAt old.start command result old.state new.state → (new.start ≡ old.start) × (new.receipts ≡ old.receipts) → new.others ≡ old.others → new.seen ≡ units
    → WasDoneBy (Access command) (said Answered result) old new
inside_stepped command result units old new one goes_on read same others knows =
    by_block (Access command) (said Answered result) units old new goes_on (result, refl, (λ none. absurd (omega (arith, none, one))), (λ deep. (read, (knows, (same.0, (same.1, (others, knows)))))))

read_where : (start : Option (List JournalUnit)) (command : DataCommand) (result : Result Answer Refusal) (old new : JobSession) → IfSome start (λ base. IsAnsweredOrRefused command result (after base initial).map old new) → IsSome start → IsReadAt start command result old new
read_where None command result old new answered some = absurd (true≢false (sym some))
read_where (Some base) command result old new answered some = answered

pub read_stepped : (command : DataCommand) (result : Result Answer Refusal) (old new : Held) → 1 ≤ old.state.level → IsJournalOf new.seen old → IfSome old.start (λ base. IsAnsweredOrRefused command result (after base initial).map old.state new.state)
    → IsSome old.start → (new.start ≡ old.start) × (new.receipts ≡ old.receipts) → new.others ≡ old.others → WasDoneBy (Access command) (said Answered result) old new
read_stepped command result old new one journal answered some same others = inside_stepped command result new.seen old new one journal.goes_on (read_where old.start command result old.state new.state answered some) same others refl

-- SET and the kills answer Done on whatever database
done_reply : (command : DataCommand) (m : Database) → IsWriting command → Done ≡ data_reply command m
done_reply (Set r v) m w = refl
done_reply (Kill r extent) m w = refl
done_reply (Merge a b) m w = absurd w
done_reply (Increment r n) m w = absurd w
done_reply (Look look) m w = absurd w

none_refused : (command : DataCommand) (m : Database) → IsWriting command → data_refusal command m ≡ None
none_refused (Set r v) m w = refl
none_refused (Kill r extent) m w = refl
none_refused (Merge a b) m w = absurd w
none_refused (Increment r n) m w = absurd w
none_refused (Look look) m w = absurd w

none_early : (command : DataCommand) (rule refusal : Refusal) → IsWriting command → early_refusal command ≡ Some rule → refusal ≡ rule
none_early (Set r v) rule refusal w is = absurd (cc)
none_early (Kill r extent) rule refusal w is = absurd (cc)
none_early (Merge a b) rule refusal w is = absurd w
none_early (Increment r n) rule refusal w is = absurd w
none_early (Look look) rule refusal w is = absurd w

refused_at : (command : DataCommand) (refusal : Refusal) (m : Database) (old new : JobSession) → IsWriting command → new ≡ old → IsCauseAlone refusal old.work → IsRefused command refusal m old new
refused_at command refusal m old new w same cause = record {
  same = same;
  cause = inside cause;
  long = λ many. too_long cause many;
  early = λ rule few is. none_early command rule refusal w is;
}
  where
    inside : IsCauseAlone refusal old.work → IsCauseInside refusal command old.work m
    inside (inl long) = inl long
    inside (inr memory) = inr (memory.1, inr memory.0)

    too_long : IsCauseAlone refusal old.work → most_commands ≤ length old.work.exchanges → refusal ≡ TransactionTooLong
    too_long (inl long) many = long.0
    too_long (inr memory) many = absurd (omega (arith, many, memory.1))

written_in : (start : Option (List JournalUnit)) (command : DataCommand) (done : Result (Unit {0}) Refusal) (old new : JobSession) → IsWriting command → 1 ≤ old.level → IsAt start old → OnOk done (HasWritten command old new) → OnErr done (new ≡ old) → IfErr done (λ refusal. IsCauseAlone refusal old.work)
    → IsReadAt start command (written_as done) old new
written_in None command done old new w one at written same cause = absurd (omega (arith, one, ap (λ (s : JobSession). s.level) at))
written_in (Some base) command (Ok u) old new w one at written same cause = record {
  right = done_reply command (seen old.work (after base initial).map) w;
  accepted = none_refused command (seen old.work (after base initial).map) w;
  short = written.kept.short;
  exchanges = written.kept.exchanges;
  work = written.kept.work (after base initial).map at.work;
  job = written.kept.job;
  start = written.kept.start;
  level = written.level;
  restarts = written.restarts;
  took_lock = written.took_lock;
}
written_in (Some base) command (Err refusal) old new w one at written same cause = refused_at command refusal (after base initial).map old new w same cause

held_state : (done : Result (Unit {0}) Refusal) (old new : Held) → OnErr done (new ≡ old) → OnErr done (new.state ≡ old.state)
held_state (Ok u) old new same = tt
held_state (Err refusal) old new same = ap (λ (h : Held). h.state) same

pub written_stepped : (command : DataCommand) (done : Result (Unit {0}) Refusal) (result : Result Answer Refusal) (old new : Held) → IsWriting command → 1 ≤ old.state.level → IsAt old.start old.state → OnOk done (HasWritten command old.state new.state) → (new.start ≡ old.start) × (new.receipts ≡ old.receipts)
    → (new.others ≡ old.others) × (new.seen ≡ old.seen) → OnErr done (new ≡ old) → IfErr done (λ refusal. IsCauseAlone refusal old.state.work) → result ≡ written_as done → WasDoneBy (Access command) (said Answered result) old new
written_stepped command done result old new w one at written same others refused cause is =
    subst (λ (r : Result Answer Refusal). WasDoneBy (Access command) (said Answered r) old new) (sym is)
    (inside_stepped command (written_as done) old.seen old new one (begins_itself old.seen) (written_in old.start command done old.state new.state w one at written (held_state done old new refused) cause) same others.0 others.1)

-- ---- LOCK

tried_once : (command : LockCommand) (result : Result Bool Refusal) (old new : Held) → WasTried command result old new → IsDoneOnce (lock_command command) (said (told_had command) result) old new
tried_once command result old new h = (h.0, h.1, λ stands. inl (result, refl, h.2))

-- no LOCK without names is ever blocked
blocked_had : (command : LockCommand) (old new : Held) → WasTried command (Ok false) old new → told_had command false ≡ Had false
blocked_had Release old new h = absurd (true≢false (sym h.2.0.0))
blocked_had (Only names) old new h = refl
blocked_had (More names) old new h = refl
blocked_had (Fewer names) old new h = refl

-- nor is one that has its names
had_other : (command : LockCommand) → told_had command true ≢ Had false
had_other Release is = absurd (cc)
had_other (Only names) is = absurd (cc)
had_other (More names) is = absurd (cc)
had_other (Fewer names) is = absurd (cc)

tried_twice : (command : LockCommand) (result : Result Bool Refusal) (old new : Held) → said (told_had command) result ≢ Had false → WasTriedAgain command result old new → WasDoneBy (lock_command command) (said (told_had command) result) old new
tried_twice command result old new other h = inr (
  command,
  refl,
  h.0,
  subst (λ (r : Reply). IsDoneOnce (lock_command command) r old h.0) (blocked_had command old h.0 h.1) (tried_once command (Ok false) old h.0 h.1),
  other,
  tried_once command result h.0 new h.2,
)

pub locked_stepped : (command : LockCommand) (result : Result Bool Refusal) (old new : Held) → HasLocked command result old new → WasDoneBy (lock_command command) (said (told_had command) result) old new
locked_stepped command (Ok true) old new (inl h) = inl (tried_once command (Ok true) old new h)
locked_stepped command (Ok true) old new (inr h) = tried_twice command (Ok true) old new (had_other command) h
locked_stepped command (Ok false) old new h = inl (tried_once command (Ok false) old new h)
locked_stepped command (Err refusal) old new (inl h) = inl (tried_once command (Err refusal) old new h)
locked_stepped command (Err refusal) old new (inr h) = tried_twice command (Err refusal) old new (λ is. absurd (cc)) h

-- ---- TSTART

pub inner_stepped : (result : Result ℕ Refusal) (old new : Held) → 1 ≤ old.state.level → IfOk result (λ level. (level ≡ old.state.level + 1) × ((old.state.level < most_levels) × (new ≡ held (at_level level old.state) old.start old.receipts old.others old.seen)))
    → IfErr result (λ refusal. (refusal ≡ LevelTooDeep) × ((most_levels ≤ old.state.level) × (new ≡ old))) → WasDoneBy Start (said AtLevel result) old new
inner_stepped (Ok level) old new one deeper refused =
    by_block Start (AtLevel level) old.seen old new (begins_itself old.seen) (Ok level, refl, (λ none. absurd (omega (arith, none, one))), (λ deep. ((deeper.0, deeper.1.0), (ap (λ (h : Held). h.seen) deeper.1.1, deeper.1.1))))
inner_stepped (Err refusal) old new one deeper refused =
    by_block Start (Refused refusal) old.seen old new (begins_itself old.seen) (Err refusal, refl, (λ none. absurd (omega (arith, none, one))), (λ deep. ((refused.0, refused.1.0), (seen_same old new refused.1.1, refused.1.1))))

pub outer_stepped : (old new at : Held) (level : ℕ) → at ≡ old → level ≡ 1 → old.state.level ≡ 0 → (base : List JournalUnit) × HasBegun base at new → WasDoneBy Start (AtLevel level) old new
outer_stepped old new at level is one none begun =
    let here : HasBegun begun.0 old new = subst (λ (h : Held). HasBegun begun.0 h new) is begun.1 in
    by_block Start (AtLevel level) begun.0 old new here.goes_on (Ok level, refl, (λ outside. (one, (ap (λ (h : Held). h.seen) here.is, here))), (λ deep. absurd (omega (arith, none, deep))))

-- ---- TCOMMIT

ended_replies : (result : Result Ended Refusal) → ended_as result ≡ said reply_at_end result
ended_replies (Ok Committed) = refl
ended_replies (Ok (Restarted restarts)) = refl
ended_replies (Err refusal) = refl

pub commit_stepped : (result : Result Ended Refusal) (old new : Held) → old.state.level ≡ 1 → IfOk result (λ end. (units : List JournalUnit) × IsJournalOf units old × HasEnded end units new.seen old new)
    → OnErr result (IsJournalOf new.seen old × (new ≡ knowing new.seen old)) → IfErr result (λ refusal. IsCauseAtCommit refusal old.state.work new.seen ⊎ IsCauseAtRestart refusal old.state new.seen) → WasDoneBy Commit (ended_as result) old new
commit_stepped (Ok end) old new one ended refused cause = inl (ended.0, ended.1.goes_on, λ stands. inr (inl (refl, (one, (Ok end, ended_replies (Ok end), ended.2)))))
commit_stepped (Err refusal) old new one ended refused cause = inl (new.seen, refused.0.goes_on, λ stands. inr (inl (refl, (one, (Err refusal, refl, (cause, (refl, refused.1)))))))

pub no_commit_stepped : (old new : Held) → old.state.level ≡ 0 → new ≡ old → WasDoneBy Commit (Refused NoTransaction) old new
no_commit_stepped old new none same =
    by_block Commit (Refused NoTransaction) old.seen old new (begins_itself old.seen)
    (Err NoTransaction, refl, (λ outside. (refl, (seen_same old new same, same))), (λ one. absurd (omega (arith, none, one))), (λ deep. absurd (omega (arith, none, deep))))

pub lower_stepped : (level : ℕ) (old new : Held) → 1 < old.state.level → level ≡ old.state.level - 1 → new ≡ held (at_level (old.state.level - 1) old.state) old.start old.receipts old.others old.seen → WasDoneBy Commit (AtLevel level) old new
lower_stepped level old new deep is h =
    by_block Commit (AtLevel level) old.seen old new (begins_itself old.seen)
    (Ok (AtLevel level), refl, (λ none. absurd (omega (arith, none, deep))), (λ one. absurd (omega (arith, one, deep))), (λ inner. (ap (λ (n : ℕ). Ok (AtLevel n)) is, (ap (λ (x : Held). x.seen) h, h))))

-- ---- TROLLBACK, TRESTART, $TLEVEL, $TRESTART

pub rollback_stepped : (result : Result (Unit {0}) Refusal) (old new : Held) → 1 ≤ old.state.level → ((units : List JournalUnit) × IsBeginning units old.seen × IsRolledBack result units new.seen old new) → WasDoneBy Rollback (said (λ d. Finished) result) old new
rollback_stepped result old new one h = by_block Rollback (said (λ d. Finished) result) h.0 old new h.1 (result, refl, (λ none. absurd (omega (arith, none, one))), (λ deep. h.2))

pub no_rollback_stepped : (old new : Held) → old.state.level ≡ 0 → new ≡ old → WasDoneBy Rollback (Refused NoTransaction) old new
no_rollback_stepped old new none same =
    by_block Rollback (Refused NoTransaction) old.seen old new (begins_itself old.seen) (Err NoTransaction, refl, (λ outside. (refl, (seen_same old new same, same))), (λ deep. absurd (omega (arith, none, deep))))

pub restart_stepped : (result : Result ℕ Refusal) (old new : Held) → 1 ≤ old.state.level → ((units : List JournalUnit) × IsBeginning units old.seen × IsRestarted result units new.seen old new) → WasDoneBy Restart (said restarted_reply result) old new
restart_stepped result old new one h = by_block Restart (said restarted_reply result) h.0 old new h.1 (result, refl, (λ none. absurd (omega (arith, none, one))), (λ deep. h.2))

pub restart_of : (result : Result ℕ Refusal) (restarts : ℕ) (old new : Held) → 1 ≤ old.state.level → ((units : List JournalUnit) × IsBeginning units old.seen × IsRestarted result units new.seen old new) → result ≡ Ok restarts → BeganAnew old new
restart_of result restarts old new one h is = (restarts, subst (λ (r : Result ℕ Refusal). WasDoneBy Restart (said restarted_reply r) old new) is (restart_stepped result old new one h))

pub no_restart_stepped : (old new : Held) → old.state.level ≡ 0 → new ≡ old → WasDoneBy Restart (Refused NoTransaction) old new
no_restart_stepped old new none same =
    by_block Restart (Refused NoTransaction) old.seen old new (begins_itself old.seen) (Err NoTransaction, refl, (λ outside. (refl, (seen_same old new same, same))), (λ deep. absurd (omega (arith, none, deep))))

pub level_stepped : (n : ℕ) (old new : Held) → n ≡ old.state.level → new ≡ old → WasDoneBy Level (Count n) old new
level_stepped n old new is same = by_block Level (Count n) old.seen old new (begins_itself old.seen) (ap Count is, (seen_same old new same, same))

pub restarts_stepped : (n : ℕ) (old new : Held) → n ≡ old.state.restarts → new ≡ old → WasDoneBy Restarts (Count n) old new
restarts_stepped n old new is same = by_block Restarts (Count n) old.seen old new (begins_itself old.seen) (ap Count is, (seen_same old new same, same))

-- ---- HALT that was refused

pub halt_stepped : (refusal : Refusal) (old new : Held) → IsBeginning new.seen old.seen → new ≡ knowing new.seen old → HasNoRoom refusal 1 (length new.seen) → WasDoneBy Halt (Refused refusal) old new
halt_stepped refusal old new goes_on knows room = inl (new.seen, goes_on, λ stands. inr (inr (refl, (refusal, refl, (room, (refl, knows))))))
