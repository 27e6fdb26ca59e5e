-- Where memory may be wanting: it hides no rule that is looked at before, and never comes where a step takes none.
use Rattle.std.proofs.Common.{◌≡◌, ◌<◌, ◌+◌, ◌-◌, ◌^◌, ℕ, length, Bool, true, false, sym, ap, ◌∙◌, arith, inl, inr, cond}
use Rattle.std.specs.Prelude.{nat_lt, Option, Some, None}
use Rattle.std.proofs.lemmas.Bool.Decides.{nat_tests}
use Rattle.refusal.specs.declared.Refusal.{Refusal}
use Rattle.refusal.specs.declared.Refusal.TheVariants.{NoTransaction, LevelTooDeep, TransactionTooLong, StampsUsedUp, MergeOverlap, TooManySubscripts}
use Rattle.collation.specs.Limits.{most_commands, most_levels}
use Rattle.collation.specs.Database.{Database}
use Rattle.collation.specs.Levels.{overlap}
use Rattle.collation.specs.Answers.{is_too_deep}
use Rattle.command.specs.declared.access.DataCommand.{DataCommand}
use Rattle.command.specs.declared.access.DataCommand.TheVariants.{Set, Kill, Merge, Increment, Look}
use Rattle.command.specs.declared.request.Command.{Command}
use Rattle.command.specs.declared.request.Command.TheVariants.{Access, Lock, Start, Commit, Rollback, Restart, Level, Restarts, Halt}
use Rattle.command.specs.declared.request.Reply.{Reply}
use Rattle.command.specs.declared.request.Reply.TheVariants.{Answered, Finished, AtLevel, Refused}
use Rattle.command.specs.Data.{data_refusal, data_reply}
use Rattle.globals.specs.Answering.{early_refusal}
use Rattle.journal.specs.Story.{Transaction, Machine, transaction_of, told}
use Rattle.serial.specs.Machine.{seen_by, refused_or, in_transaction, reply_on, reply_to_data, reply_to_start, restarted, reply_to_commit, reply_with_room, reply_of, early_of, takes_none, IsReply}

-- the machine's reply where the journal has room for its unit
pub reply_within : (s : Machine) (job : ℕ) (command : Command) (reply : Reply) → reply_with_room job command s ≡ reply → length (told job command reply s).units < 2 ^ 64 → reply ≡ reply_of job command s
reply_within s job command reply e few =
    let room : nat_lt (2 ^ 64 - 1) (length (told job command (reply_with_room job command s) s).units) ≡ false = rw e (grind (arith, nat_tests)) in
    sym e ∙ sym (ap (λ b. cond b (Refused StampsUsedUp) (reply_with_room job command s)) room)

-- and where it has none
pub reply_without : (s : Machine) (job : ℕ) (command : Command) (reply : Reply) → reply_with_room job command s ≡ reply → 2 ^ 64 - 1 < length (told job command reply s).units → Refused StampsUsedUp ≡ reply_of job command s
reply_without s job command reply e many =
    let over : nat_lt (2 ^ 64 - 1) (length (told job command (reply_with_room job command s) s).units) ≡ true = rw e (grind (arith, nat_tests)) in
    sym (ap (λ b. cond b (Refused StampsUsedUp) (reply_with_room job command s)) over)

-- a rule that is looked at early refuses the command on each database
early_rule : (command : DataCommand) (m : Database) (refusal : Refusal) → early_refusal command ≡ Some refusal → data_refusal command m ≡ Some refusal
early_rule (Set r v) m refusal e = absurd (cc)
early_rule (Kill r extent) m refusal e = absurd (cc)
early_rule (Merge a b) m refusal e = by_overlap (overlap a b) e
  where
    by_overlap : (o : Bool) → cond o (Some MergeOverlap) None ≡ Some refusal → cond o (Some MergeOverlap) (cond (is_too_deep a b m) (Some TooManySubscripts) None) ≡ Some refusal
    by_overlap true is = is
    by_overlap false never = absurd (cc)
early_rule (Increment r n) m refusal e = absurd (cc)
early_rule (Look look) m refusal e = e

same_refusal : (x y : Refusal) → Some x ≡ Some y → Refused x ≡ Refused y
same_refusal x y e = let same : x ≡ y = cc in ap Refused same

early_on : (command : DataCommand) (m : Database) (refusal : Refusal) → early_refusal command ≡ Some refusal → reply_on command m ≡ Refused refusal
early_on command m refusal e = ap (λ o. refused_or o (Answered (data_reply command m))) (early_rule command m refusal e)

-- what is refused early is the machine's reply
early_with_room : (job : ℕ) (command : Command) (s : Machine) (refusal : Refusal) → early_of command (transaction_of job s) ≡ Some refusal → reply_with_room job command s ≡ Refused refusal
early_with_room job (Access command) s refusal e = by_transaction (transaction_of job s) e
  where
    by_length : (t : Transaction) (b : Bool) → cond b (early_refusal command) (Some TransactionTooLong) ≡ Some refusal → cond b (reply_on command (seen_by t s.units)) (Refused TransactionTooLong) ≡ Refused refusal
    by_length t true is = early_on command (seen_by t s.units) refusal is
    by_length t false is = same_refusal TransactionTooLong refusal is

    by_transaction : (o : Option Transaction) → early_of (Access command) o ≡ Some refusal → reply_to_data command o s.units ≡ Refused refusal
    by_transaction None is = early_on command _ refusal is
    by_transaction (Some t) is = by_length t (nat_lt (length t.exchanges) most_commands) is
early_with_room job (Lock command) s refusal e = absurd (cc)
early_with_room job Start s refusal e = by_transaction (transaction_of job s) e
  where
    by_level : (t : Transaction) (b : Bool) → cond b None (Some LevelTooDeep) ≡ Some refusal → cond b (AtLevel (t.level + 1)) (Refused LevelTooDeep) ≡ Refused refusal
    by_level t true never = absurd (cc)
    by_level t false is = same_refusal LevelTooDeep refusal is

    by_transaction : (o : Option Transaction) → early_of Start o ≡ Some refusal → reply_to_start o ≡ Refused refusal
    by_transaction None never = absurd (cc)
    by_transaction (Some t) is = by_level t (nat_lt t.level most_levels) is
early_with_room job Commit s refusal e = by_transaction (transaction_of job s) e
  where
    by_transaction : (o : Option Transaction) → early_of Commit o ≡ Some refusal → in_transaction (reply_to_commit s.units) o ≡ Refused refusal
    by_transaction None is = same_refusal NoTransaction refusal is
    by_transaction (Some t) never = absurd (cc)
early_with_room job Rollback s refusal e = by_transaction (transaction_of job s) e
  where
    by_transaction : (o : Option Transaction) → early_of Rollback o ≡ Some refusal → in_transaction (λ t. Finished) o ≡ Refused refusal
    by_transaction None is = same_refusal NoTransaction refusal is
    by_transaction (Some t) never = absurd (cc)
early_with_room job Restart s refusal e = by_transaction (transaction_of job s) e
  where
    by_transaction : (o : Option Transaction) → early_of Restart o ≡ Some refusal → in_transaction restarted o ≡ Refused refusal
    by_transaction None is = same_refusal NoTransaction refusal is
    by_transaction (Some t) never = absurd (cc)
early_with_room job Level s refusal e = absurd (cc)
early_with_room job Restarts s refusal e = absurd (cc)
early_with_room job Halt s refusal e = absurd (cc)

-- so whatever the step is replied, it is that refusal
pub early_replied : (job : ℕ) (command : Command) (reply : Reply) (s : Machine) (refusal : Refusal) → IsReply job command reply s → length s.units < 2 ^ 64 → early_of command (transaction_of job s) ≡ Some refusal → reply ≡ Refused refusal
early_replied job command reply s refusal (inl is) counted early = is ∙ sym (reply_within s job command (Refused refusal) (early_with_room job command s refusal early) counted)
early_replied job command reply s refusal (inr memory) counted early = let late = memory.1 in let never = sym late.late ∙ early in absurd (cc)

-- what takes no memory has the machine's reply
pub sure_replied : (job : ℕ) (command : Command) (reply : Reply) (s : Machine) → IsReply job command reply s → takes_none command (transaction_of job s) ≡ true → reply ≡ reply_of job command s
sure_replied job command reply s (inl is) none = is
sure_replied job command reply s (inr memory) none = let late = memory.1 in let never = sym late.takes ∙ none in absurd (cc)
