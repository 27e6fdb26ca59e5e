-- Which replies say whether names were had.
use Rattle.std.proofs.Common.{◌≡◌, ℕ, ◌+◌, ◌-◌, ◌^◌, Bool, true, false, List, length, Option, None, Some, Result, Ok, Err, inl, inr, refl, sym, ap, subst, ◌∙◌}
use Rattle.std.specs.Prelude.{nat_lt, ◌&&◌, if◌then◌else◌}
use Rattle.refusal.specs.declared.Refusal.{Refusal}
use Rattle.refusal.specs.declared.Refusal.TheVariants.{NoTransaction, LevelTooDeep, TransactionTooLong, StampsUsedUp, BadJob, OutOfMemory}
use Rattle.collation.specs.Limits.{is_job, most_commands, most_levels}
use Rattle.lock_name.specs.declared.lock.LockCommand.{LockCommand}
use Rattle.lock_name.specs.declared.lock.LockCommand.TheVariants.{Release, Only, More, Fewer}
use Rattle.lock_name.specs.Locks.{lock_refusal, lock_reply}
use Rattle.command.specs.declared.access.DataCommand.{DataCommand}
use Rattle.command.specs.declared.request.Command.{Command}
use Rattle.command.specs.declared.request.Command.TheVariants.{Access, Lock, Start, Commit, Rollback, Restart, Level, Restarts, Halt}
use Rattle.command.specs.declared.request.Reply.{Reply}
use Rattle.command.specs.declared.request.Reply.TheVariants.{Answered, Finished, Had, Count, AtLevel, Committed, Restarted, Refused}
use Rattle.command.specs.Data.{data_refusal, data_reply}
use Rattle.journal.specs.declared.unit.Unit.{Unit as JournalUnit}
use Rattle.journal.specs.History.{initial, after}
use Rattle.journal.specs.Story.{Transaction, Machine, transaction_of, told}
use Rattle.serial.specs.Answers.{IsReplyDue, told_by}
use Rattle.serial.specs.Machine.{IsReply, refused_or, in_transaction, reply_on, reply_to_data, told_had, reply_to_start, reply_to_commit, restarted, is_overtaken, reply_with_room, seen_by}
use Rattle.m_text.specs.Place.{unless}
use Rattle.script.specs.Asked.{IsAsked}
use Rattle.script.specs.Commands.{command_fault}
use Rattle.script.specs.Line.{reading_of, spelled_by, judged, IsReading}
use Rattle.m_text.specs.Literal.{front_digits, number_from}
use Rattle.script.specs.declared.sentence.DataSentence.{DataSentence}
use Rattle.script.specs.declared.sentence.Drafts.{Drafts}
use Rattle.script.specs.declared.sentence.Sentence.TheVariants as sentences
use Rattle.script_run.specs.Output.{IsAnswer, accepted_job, asks_halt}
use Rattle.script_run.specs.Replies.{IsAnswered}

-- the reply doesn't say whether names were had
abbrev pub IsOther : Reply → Type 0
IsOther reply = (had : Bool) → reply ≡ Had had → ⊥

pub refused : (refusal : Refusal) → IsOther (Refused refusal)
refused refusal had e = absurd cc

either : (b : Bool) (p q : Reply) → IsOther p → IsOther q → IsOther (if b then p else q)
either true p q h k = h
either false p q h k = k

or_refused : (r : Option Refusal) (p : Reply) → IsOther p → IsOther (refused_or r p)
or_refused None p h = h
or_refused (Some refusal) p h = refused refusal

inside : (reply : Transaction → Reply) (t : Option Transaction) → ((t : Transaction) → IsOther (reply t)) → IsOther (in_transaction reply t)
inside reply None h = refused NoTransaction
inside reply (Some t) h = h t

data_room : (command : DataCommand) (t : Option Transaction) (units : List JournalUnit) → IsOther (reply_to_data command t units)
data_room command None units = or_refused (data_refusal command (after units initial).map) (Answered (data_reply command (after units initial).map)) (λ had e. absurd cc)
data_room command (Some t) units =
    either (nat_lt (length t.exchanges) most_commands) (reply_on command (seen_by t units)) (Refused TransactionTooLong)
    (or_refused (data_refusal command (seen_by t units)) (Answered (data_reply command (seen_by t units))) (λ had e. absurd cc)) (refused TransactionTooLong)

start_room : (t : Option Transaction) → IsOther (reply_to_start t)
start_room None = λ had e. absurd cc
start_room (Some t) = either (nat_lt t.level most_levels) (AtLevel (t.level + 1)) (Refused LevelTooDeep) (λ had e. absurd cc) (refused LevelTooDeep)

commit_room : (units : List JournalUnit) (t : Transaction) → IsOther (reply_to_commit units t)
commit_room units t =
    either (nat_lt 1 t.level) (AtLevel (t.level - 1)) (if is_overtaken t units then restarted t else Committed) (λ had e. absurd cc)
    (either (is_overtaken t units) (restarted t) Committed (λ had e. absurd cc) (λ had e. absurd cc))

abbrev had_of : Reply → Bool
had_of (Answered answer) = false
had_of Finished = false
had_of (Had had) = had
had_of (Count n) = false
had_of (AtLevel level) = false
had_of Committed = false
had_of (Restarted restarts) = false
had_of (Refused refusal) = false

lock_room : (r : Option Refusal) (c : LockCommand) (b had : Bool) → refused_or r (told_had c b) ≡ Had had → b ≡ had
lock_room (Some refusal) c b had e = absurd cc
lock_room None Release b had e = absurd cc
lock_room None (Only names) b had e = ap had_of e
lock_room None (More names) b had e = ap had_of e
lock_room None (Fewer names) b had e = ap had_of e

-- a LOCK says whether its names are had, and nothing else does
said_room : (job : ℕ) (command : Command) (s : Machine) (had : Bool) → ((c : LockCommand) → command ≡ Lock c → lock_reply job c (after s.units initial).locks ≡ had → ⊥) → reply_with_room job command s ≡ Had had → ⊥
said_room job (Access command) s had h e = data_room command (transaction_of job s) s.units had e
said_room job (Lock c) s had h e = h c refl (lock_room (lock_refusal job c (after s.units initial).locks) c (lock_reply job c (after s.units initial).locks) had e)
said_room job Start s had h e = start_room (transaction_of job s) had e
said_room job Commit s had h e = inside (reply_to_commit s.units) (transaction_of job s) (λ t. commit_room s.units t) had e
said_room job Rollback s had h e = inside (λ t. Finished) (transaction_of job s) (λ t has e. absurd cc) had e
said_room job Restart s had h e = inside restarted (transaction_of job s) (λ t has e. absurd cc) had e
said_room job Level s had h e = absurd cc
said_room job Restarts s had h e = absurd cc
said_room job Halt s had h e = absurd cc

with_units : (b : Bool) (r : Reply) (had : Bool) → (Had had) ≡ (if b then Refused StampsUsedUp else r) → r ≡ Had had
with_units true r had e = absurd cc
with_units false r had e = sym e

pub said : (job : ℕ) (command : Command) (s : Machine) (had : Bool) → ((c : LockCommand) → command ≡ Lock c → lock_reply job c (after s.units initial).locks ≡ had → ⊥) → IsReply job command (Had had) s → ⊥
said job command s had h (inl e) = said_room job command s had h (with_units (nat_lt (2 ^ 64 - 1) (length (told job command (reply_with_room job command s) s).units)) (reply_with_room job command s) had e)
said job command s had h (inr e) = let clash = e.0 in absurd cc

abbrev lock_command : Command → Option LockCommand
lock_command (Access command) = None
lock_command (Lock c) = Some c
lock_command Start = None
lock_command Commit = None
lock_command Rollback = None
lock_command Restart = None
lock_command Level = None
lock_command Restarts = None
lock_command Halt = None

abbrev some_of : LockCommand → Option LockCommand → LockCommand
some_of c None = c
some_of c (Some d) = d

-- a LOCK that would have its names isn't told that it had them not
pub had_names : (job : ℕ) (c : LockCommand) (s : Machine) (blocked reply : Bool) → blocked ≡ false → blocked ≡ (if reply then false else true) → reply ≡ lock_reply job c (after s.units initial).locks → IsReply job (Lock c) (Had false) s → ⊥
had_names job c s blocked true none is e = said job (Lock c) s false (λ d same none'. let yes : lock_reply job d (after s.units initial).locks ≡ true = ap (λ x. lock_reply job (some_of c (lock_command x)) (after s.units initial).locks) (sym same) ∙ sym e in let clash : true ≡ false = sym yes ∙ none' in absurd cc)
had_names job c s blocked false none is e = λ _. let clash : true ≡ false = sym is ∙ none in absurd cc

-- ---- data lines

due_other : (s : Machine) (job : ℕ) (d : DataCommand) (reply : Reply) → IsReply job (Access d) reply s → IsOther reply
due_other s job d reply h had e = said job (Access d) s had (λ c same. let clash = same in absurd cc) (subst (λ r. IsReply job (Access d) r s) e h)

faulty_other : (s : Machine) (job : ℕ) (d : DataCommand) (reply : Reply) (fault : Option Refusal) → IsReplyDue s (unless {A = ℕ × Command} fault (job, Access d)) reply → IsOther reply
faulty_other s job d reply None h = due_other s job d reply h
faulty_other s job d reply (Some refusal) h = λ had e. let clash : Refused refusal ≡ Had had = sym h ∙ e in absurd cc

judged_other : (s : Machine) (job : ℕ) (d : DataCommand) (reply : Reply) (b : Bool) (fault : Option Refusal) → IsReplyDue s (if b then unless {A = ℕ × Command} fault (job, Access d) else Err BadJob) reply → IsOther reply
judged_other s job d reply true fault h = faulty_other s job d reply fault h
judged_other s job d reply false fault h = λ had e. let clash : Refused BadJob ≡ Had had = sym h ∙ e in absurd cc

reading_judged : (line : List ℕ) → reading_of line ≡ judged (number_from 0 (front_digits line)) (spelled_by line)
unfolding reading_of
reading_judged line = refl

-- a data line is never told whether names were had
pub data_other : (s : Machine) (line : List ℕ) (drafts : Drafts) (job : ℕ) (sentence : DataSentence) (reply : Reply) → IsAsked line drafts job (sentences.Access sentence) → IsAnswer s line reply → IsOther reply
data_other s line drafts job sentence reply asked (inr memory) = λ had e. let clash = sym memory.0 ∙ e in absurd cc
data_other s line drafts job sentence reply asked (inl due) =
    let n = number_from 0 (front_digits line) in
    let d = asked.said.0 in
    let is : reading_of line ≡ judged n (Some (Access d)) = reading_judged line ∙ ap (judged n) (asked.read ∙ ap (λ c. Some c) asked.said.1) in
    judged_other s n d reply (is_job n) (command_fault (Access d)) (subst (λ r. IsReplyDue s r reply) is due)

-- ---- refusals

-- a LOCK may be refused memory
pub wanting : (line : List ℕ) (job : ℕ) (c : LockCommand) (s : Machine) → IsReading line (Ok (job, Lock c)) → IsAnswered line s s None false (Refused OutOfMemory)
wanting line job c s read =
    let asks : (Ok (job, Lock c)) ≡ reading_of line = sym read.0 in
    record {
      joins = ap (λ (r : Result (ℕ × Command) Refusal). accepted_job r (Refused OutOfMemory)) asks;
      session = ap (λ (r : Result (ℕ × Command) Refusal). asks_halt r && false) asks;
      answer = inl (subst (λ (r : Result (ℕ × Command) Refusal). IsReplyDue s r (Refused OutOfMemory)) asks (inr (refl, record { late = refl; takes = refl })));
      machine = ap (λ (r : Result (ℕ × Command) Refusal). told_by r (Refused OutOfMemory) s) asks;
    }
