-- What was answered stands among the units.
use Rattle.std.proofs.Common.{◌≡◌, ℕ, Bool, true, false, List, [], ◌∷◌, ◌++◌, refl, sym, ap, subst, ◌∙◌, inl, inr}
use Rattle.std.proofs.lemmas.Bool.{eq-eqb, eqb-true}
use Rattle.std.specs.Prelude.{◌==◌, cond, Option, Some, None, is_some}
use Rattle.lock_name.specs.declared.lock.LockCommand.{LockCommand}
use Rattle.lock_name.specs.declared.lock.LockCommand.TheVariants.{Release}
use Rattle.command.specs.declared.request.Command.{Command}
use Rattle.command.specs.declared.request.Command.TheVariants.{Access, Lock as lock_command, Start, Commit, Rollback, Restart, Halt}
use Rattle.command.specs.declared.request.Reply.{Reply}
use Rattle.command.specs.declared.request.Reply.TheVariants.{Answered, Finished, Had, AtLevel, Committed, Restarted, Refused}
use Rattle.journal.specs.declared.unit.Exchange.{Exchange}
use Rattle.journal.specs.declared.unit.Unit.TheVariants.{Whole, Lock}
use Rattle.journal.specs.Story.{Transaction, Machine, transaction_of, put_transaction, close, told_answer, told_lock, told_level, told_commit, told_back, told, story_of}
use Rattle.serial.specs.Standing.{noted, answered_since, RemainsOpen, LoneCommandsStand, LocksStand, CommittedTransactionsStandWhole}
use Rattle.serial.specs.laws.ByJob.{same_or_not, get_here, gone_here}
use Rattle.serial.specs.laws.Traces.{alike_told}

abbrev exchanges_of : Option Transaction → List Exchange
exchanges_of None = []
exchanges_of (Some t) = t.exchanges

-- the data commands that the job's transaction was answered so far
abbrev so_far : ℕ → Machine → List Exchange
so_far job s = exchanges_of (transaction_of job s)

put_here : (job : ℕ) (t : Transaction) (s : Machine) → so_far job (put_transaction job t s) ≡ t.exchanges
put_here job t s = ap exchanges_of (get_here s.transactions job t)

closed_here : {A : Type 0} (job : ℕ) (s : Machine) → is_some (transaction_of job (close job s)) ≡ true → A
closed_here job s h = let e : false ≡ true = sym (ap is_some (gone_here s.transactions job)) ∙ h in absurd (cc)

locked : (job : ℕ) (command : LockCommand) (had : Bool) (s : Machine) (o : Option Transaction) → is_some o ≡ true → so_far job (told_lock job command had o s) ≡ exchanges_of o
locked job command had s None h = absurd (cc)
locked job command had s (Some t) h = put_here job _ s

levelled : (job level : ℕ) (s : Machine) (o : Option Transaction) → is_some o ≡ true → so_far job (told_level job level o s) ≡ exchanges_of o
levelled job level s None h = absurd (cc)
levelled job level s (Some t) h = put_here job _ s

-- the job's own step, in a transaction that stays open
noted_step : (job : ℕ) (command : Command) (reply : Reply) (s : Machine) → is_some (transaction_of job s) ≡ true → is_some (transaction_of job (told job command reply s)) ≡ true → so_far job (told job command reply s) ≡ noted command reply (so_far job s)
noted_step job command (Refused refusal) s was stays = refl
noted_step job (Access command) (Answered answer) s was stays = by_open (transaction_of job s) was
  where
    by_open : (o : Option Transaction) → is_some o ≡ true → so_far job (told_answer job command answer o s) ≡ exchanges_of o ++ record { command = command; answer = answer } ∷ []
    by_open None h = absurd (cc)
    by_open (Some t) h = put_here job _ s
noted_step job (lock_command command) (Had had) s was stays = locked job command had s (transaction_of job s) was
noted_step job (lock_command command) Finished s was stays = locked job command true s (transaction_of job s) was
noted_step job Start (AtLevel level) s was stays = levelled job level s (transaction_of job s) was
noted_step job Commit (AtLevel level) s was stays = levelled job level s (transaction_of job s) was
noted_step job Commit Committed s was stays = by_open (transaction_of job s) stays
  where
    by_open : (o : Option Transaction) → is_some (transaction_of job (told_commit job o s)) ≡ true → so_far job (told_commit job o s) ≡ so_far job s
    by_open None h = refl
    by_open (Some t) h = closed_here job s h
noted_step job Commit (Restarted restarts) s was stays = put_here job _ (told_back job (transaction_of job s) s)
noted_step job Restart (Restarted restarts) s was stays = put_here job _ (told_back job (transaction_of job s) s)
noted_step job Rollback Finished s was stays = closed_here job (told_back job (transaction_of job s) s) stays
noted_step job Halt Finished s was stays = closed_here job s stays
noted_step job command reply s was stays = refl

open_now : (job : ℕ) (steps : List (ℕ × Command)) (replies : List Reply) (s : Machine) → RemainsOpen job steps replies s → is_some (transaction_of job s) ≡ true
open_now job [] replies s h = h
open_now job (step ∷ steps) [] s h = h
open_now job (step ∷ steps) (reply ∷ replies) s h = h.0

-- a step of any job
any_step : (job q : ℕ) (command : Command) (reply : Reply) (s : Machine) → is_some (transaction_of job s) ≡ true → is_some (transaction_of job (told q command reply s)) ≡ true →
    so_far job (told q command reply s) ≡ cond (q == job) (noted command reply (so_far job s)) (so_far job s)
any_step job q command reply s was stays = elim (same_or_not job q) [
  | inl is ↦
      subst (λ z. so_far job (told z command reply s) ≡ noted command reply (so_far job s)) (sym is) (noted_step job command reply s was (subst (λ z. is_some (transaction_of job (told z command reply s)) ≡ true) is stays))
      ∙ ap (λ b. cond b (noted command reply (so_far job s)) (so_far job s)) (sym (eq-eqb q job is))
  | inr ne ↦ let alike = alike_told job q ne command reply s in ap exchanges_of alike.transaction ∙ ap (λ b. cond b (noted command reply (so_far job s)) (so_far job s)) (sym (not_equal ne))
]
  where
    not_equal : (job ≡ q → ⊥) → (q == job) ≡ false
    not_equal ne = by_test (q == job) refl
      where
        by_test : (b : Bool) → (q == job) ≡ b → b ≡ false
        by_test true e = absurd (ne (sym (eqb-true q job e)))
        by_test false e = refl

since : (job : ℕ) (steps : List (ℕ × Command)) (replies : List Reply) (s : Machine) → RemainsOpen job steps replies s → so_far job (story_of steps replies s) ≡ answered_since job steps replies (so_far job s)
since job [] replies s h = refl
since job (step ∷ steps) [] s h = refl
since job (step ∷ steps) (reply ∷ replies) s h =
    since job steps replies (told step.0 step.1 reply s) h.1
    ∙ ap (answered_since job steps replies) (any_step job step.0 step.1 reply s h.0 (open_now job steps replies (told step.0 step.1 reply s) h.1))

open_then : (job : ℕ) (steps : List (ℕ × Command)) (replies : List Reply) (s : Machine) → RemainsOpen job steps replies s → is_some (transaction_of job (story_of steps replies s)) ≡ true
open_then job [] replies s h = h
open_then job (step ∷ steps) [] s h = h
open_then job (step ∷ steps) (reply ∷ replies) s h = open_then job steps replies (told step.0 step.1 reply s) h.1

committed : (job : ℕ) (s : Machine) → is_some (transaction_of job s) ≡ true → (told job Commit Committed s).units ≡ s.units ++ Whole job (so_far job s) ∷ []
committed job s h = by_open (transaction_of job s) h
  where
    by_open : (o : Option Transaction) → is_some o ≡ true → (told_commit job o s).units ≡ s.units ++ Whole job (exchanges_of o) ∷ []
    by_open None h = absurd (cc)
    by_open (Some t) h = refl

pub stands_whole : CommittedTransactionsStandWhole
stands_whole s job level steps replies none stays =
    committed job (story_of steps replies (told job Start (AtLevel level) s)) (open_then job steps replies (told job Start (AtLevel level) s) stays)
    ∙ ap (λ es. (story_of steps replies (told job Start (AtLevel level) s)).units ++ Whole job es ∷ [])
    (since job steps replies (told job Start (AtLevel level) s) stays ∙ ap (answered_since job steps replies) (ap (λ o. so_far job (told_level job level o s)) none ∙ put_here job _ s))

pub lone_stands : LoneCommandsStand
lone_stands s job command answer none = ap (λ o. (told_answer job command answer o s).units) none

pub locks_stand : (s : Machine) (job : ℕ) → LocksStand s job
locks_stand s job = record {
  named = λ command had. by_open command had (transaction_of job s);
  released = by_open Release true (transaction_of job s);
}
  where
    by_open : (command : LockCommand) (had : Bool) (o : Option Transaction) → (told_lock job command had o s).units ≡ s.units ++ Lock job (is_some o) command had ∷ []
    by_open command had None = refl
    by_open command had (Some t) = refl
