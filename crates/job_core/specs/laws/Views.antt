-- A view begins with a transaction, and no step of another job moves it.
use Rattle.std.proofs.Common.{◌≡◌, ℕ, Bool, true, false, List, [], ◌∷◌, ◌++◌, length, length-append, append-nil, refl, sym, ap, subst, ◌∙◌, arith}
use Rattle.std.specs.Prelude.{cond, Option, Some, None, option_map}
use Rattle.collation.specs.Database.{Database}
use Rattle.lock_name.specs.declared.lock.LockCommand.{LockCommand}
use Rattle.command.specs.declared.access.DataCommand.{DataCommand}
use Rattle.command.specs.declared.access.Answer.{Answer}
use Rattle.command.specs.declared.request.Command.{Command}
use Rattle.command.specs.declared.request.Command.TheVariants.{Access, Lock as lock_command, Start, Commit, Rollback, Restart, Halt}
use Rattle.command.specs.declared.request.Reply.{Reply}
use Rattle.command.specs.declared.request.Reply.TheVariants.{Answered, Finished, Had, AtLevel, Committed, Restarted, Refused}
use Rattle.journal.specs.declared.unit.Unit.{Unit as JournalUnit}
use Rattle.journal.specs.declared.unit.Unit.TheVariants.{Lone, Whole, Lock, Back, End}
use Rattle.journal.specs.History.{State, initial, after}
use Rattle.journal.specs.Story.{Transaction, Machine, transaction_of, add_unit, told_answer, told_lock, told_level, told_commit, told_back, told}
use Rattle.serial.specs.Machine.{state_at}
use Rattle.serial.specs.laws.ByJob.{get_here}
use Rattle.serial.specs.laws.Traces.{alike_told}
use Rattle.validate_commit.specs.laws.Agreement.{state_at-all, state_at-first}
use Rattle.job_core.specs.Views.{view_of, IsViewed}

-- units are only joined behind
abbrev Grows : Machine → Machine → Type 0
Grows s t = (more : List JournalUnit) × (t.units ≡ s.units ++ more)

grows_itself : (s : Machine) → Grows s s
grows_itself s = ([], sym (append-nil s.units))

module _ (q : ℕ) where
  grows_answer : (command : DataCommand) (answer : Answer) (o : Option Transaction) (s : Machine) → Grows s (told_answer q command answer o s)
  grows_answer command answer None s = (Lone q command answer ∷ [], refl)
  grows_answer command answer (Some t) s = grows_itself s

  grows_lock : (command : LockCommand) (had : Bool) (o : Option Transaction) (s : Machine) → Grows s (told_lock q command had o s)
  grows_lock command had None s = (Lock q false command had ∷ [], refl)
  grows_lock command had (Some t) s = (Lock q true command had ∷ [], refl)

  grows_level : (level : ℕ) (o : Option Transaction) (s : Machine) → Grows s (told_level q level o s)
  grows_level level None s = grows_itself s
  grows_level level (Some t) s = grows_itself s

  grows_commit : (o : Option Transaction) (s : Machine) → Grows s (told_commit q o s)
  grows_commit None s = grows_itself s
  grows_commit (Some t) s = (Whole q t.exchanges ∷ [], refl)

  grows_back : (o : Option Transaction) (s : Machine) → Grows s (told_back q o s)
  grows_back None s = grows_itself s
  grows_back (Some t) s = elim t.took_lock as (λ b. Grows s (cond b (add_unit (Back q) s) s)) [ true ↦ (Back q ∷ [], refl) | false ↦ grows_itself s ]

  grows_told : (command : Command) (reply : Reply) (s : Machine) → Grows s (told q command reply s)
  grows_told command (Refused refusal) s = grows_itself s
  grows_told (Access command) (Answered answer) s = grows_answer command answer (transaction_of q s) s
  grows_told (lock_command command) (Had had) s = grows_lock command had (transaction_of q s) s
  grows_told (lock_command command) Finished s = grows_lock command true (transaction_of q s) s
  grows_told Start (AtLevel level) s = grows_level level (transaction_of q s) s
  grows_told Commit (AtLevel level) s = grows_level level (transaction_of q s) s
  grows_told Commit Committed s = grows_commit (transaction_of q s) s
  grows_told Commit (Restarted restarts) s = grows_back (transaction_of q s) s
  grows_told Restart (Restarted restarts) s = grows_back (transaction_of q s) s
  grows_told Rollback Finished s = grows_back (transaction_of q s) s
  grows_told Halt Finished s = (End q ∷ [], refl)
  grows_told command reply s = grows_itself s

pub view_begins : (job level : ℕ) (s : Machine) → transaction_of job s ≡ None → IsViewed job (after s.units initial).map (told job Start (AtLevel level) s)
view_begins job level s none =
    subst (λ (o : Option Transaction). IsViewed job (after s.units initial).map (told_level job level o s)) (sym none) (record {
      transaction = record { level = 1; restarts = 0; start = length s.units; exchanges = []; took_lock = false };
      there = get_here s.transactions job (record { level = 1; restarts = 0; start = length s.units; exchanges = []; took_lock = false });
      begun = omega arith;
      is = ap (λ (t : State). t.map) (state_at-all s.units);
    })

pub view_stays : (job other : ℕ) (command : Command) (reply : Reply) (m : Database) (s : Machine) → (job ≡ other → ⊥) → IsViewed job m s → IsViewed job m (told other command reply s)
view_stays job other command reply m s ne h =
    let alike = alike_told job other ne command reply s in
    let more = grows_told other command reply s in
    record {
      transaction = h.transaction;
      there = alike.transaction ∙ h.there;
      begun = omega (arith, h.begun, ap (λ (us : List JournalUnit). length us) more.1, length-append s.units more.0);
      is = subst (λ us. (state_at h.transaction.start us).map ≡ m) (sym more.1) (ap (λ (t : State). t.map) (state_at-first h.transaction.start s.units more.0 h.begun) ∙ h.is);
    }

pub view_shows : (job : ℕ) (m : Database) (s : Machine) → IsViewed job m s → view_of job s ≡ Some m
view_shows job m s h = ap (option_map (λ (t : Transaction). (state_at t.start s.units).map)) h.there ∙ ap (λ (n : Database). Some n) h.is
