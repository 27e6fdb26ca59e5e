-- No step of another job moves whether a job is at work, and after its HALT it isn't.
use Rattle.std.proofs.Common.{◌≡◌, ℕ, Bool, true, false, not, ◌||◌, ◌&&◌, List, [], ◌∷◌, ◌++◌, refl, sym, ap, ◌∙◌}
use Rattle.std.proofs.lemmas.Bool.{eqb-true, eq-eqb}
use Rattle.std.specs.Prelude.{◌==◌, cond, is_some, Option, Some, None}
use Rattle.lock_name.specs.declared.lock.LockCommand.{LockCommand}
use Rattle.command.specs.declared.access.DataCommand.{DataCommand}
use Rattle.command.specs.declared.access.Answer.{Answer}
use Rattle.command.specs.declared.request.Command.{Command}
use Rattle.command.specs.declared.request.Command.TheVariants.{Access, Lock as lock_command, Start, Commit, Rollback, Restart, Halt}
use Rattle.command.specs.declared.request.Reply.{Reply}
use Rattle.command.specs.declared.request.Reply.TheVariants.{Answered, Finished, Had, AtLevel, Committed, Restarted, Refused}
use Rattle.journal.specs.Kept.{job_of}
use Rattle.journal.specs.declared.unit.Unit.{Unit as JournalUnit}
use Rattle.journal.specs.declared.unit.Unit.TheVariants.{Lone, Whole, Lock, Back, End}
use Rattle.journal.specs.Story.{Transaction, Machine, transaction_of, add_unit, put_transaction, close, begin, told_answer, told_lock, told_level, told_commit, told_back, told}
use Rattle.serial.specs.laws.ByJob.{get_apart, gone_here, gone_apart}
use Rattle.job_core.specs.AtWork.{works_after, works_on, is_at_work}

not_same : (q job : ℕ) → (job ≡ q → ⊥) → (q == job) ≡ false
not_same q job ne = by_test (q == job) refl
  where
    by_test : (b : Bool) → (q == job) ≡ b → b ≡ false
    by_test true e = absurd (ne (sym (eqb-true q job e)))
    by_test false e = refl

-- one unit more
pub works_more : (job : ℕ) (us : List JournalUnit) (u : JournalUnit) (was : Bool) → works_on job (us ++ u ∷ []) was ≡ works_after job u (works_on job us was)
works_more job [] u was = refl
works_more job (v ∷ us) u was = works_more job us u (works_after job v was)

-- another's
pub other_works : (job : ℕ) (u : JournalUnit) (was : Bool) → (job ≡ job_of u → ⊥) → works_after job u was ≡ was
other_works job (Lone q command answer) was ne = ap (λ b. b || was) (not_same q job ne)
other_works job (Whole q exchanges) was ne = ap (λ b. b || was) (not_same q job ne)
other_works job (Lock q inside command had) was ne = ap (λ b. b || was) (not_same q job ne)
other_works job (Back q) was ne = ap (λ b. b || was) (not_same q job ne)
other_works job (End q) was ne = ap (λ b. not b && was) (not_same q job ne)

works_with : (job : ℕ) (u : JournalUnit) (s : Machine) → (job ≡ job_of u → ⊥) → is_at_work job (add_unit u s) ≡ is_at_work job s
works_with job u s ne = ap (λ b. is_some (transaction_of job s) || b) (works_more job s.units u false ∙ other_works job u (works_on job s.units false) ne)

works_put : (job q : ℕ) (t : Transaction) (s : Machine) → (job ≡ q → ⊥) → is_at_work job (put_transaction q t s) ≡ is_at_work job s
works_put job q t s ne = ap (λ (o : Option Transaction). is_some o || works_on job s.units false) (get_apart s.transactions q t job ne)

works_closed : (job q : ℕ) (s : Machine) → (job ≡ q → ⊥) → is_at_work job (close q s) ≡ is_at_work job s
works_closed job q s ne = ap (λ (o : Option Transaction). is_some o || works_on job s.units false) (gone_apart s.transactions q job ne)

module _ (job q : ℕ) (ne : job ≡ q → ⊥) where
  works_answer : (command : DataCommand) (answer : Answer) (o : Option Transaction) (s : Machine) → is_at_work job (told_answer q command answer o s) ≡ is_at_work job s
  works_answer command answer None s = works_with job (Lone q command answer) s ne
  works_answer command answer (Some t) s = works_put job q _ s ne

  works_lock : (command : LockCommand) (had : Bool) (o : Option Transaction) (s : Machine) → is_at_work job (told_lock q command had o s) ≡ is_at_work job s
  works_lock command had None s = works_with job (Lock q false command had) s ne
  works_lock command had (Some t) s = works_put job q _ (add_unit (Lock q true command had) s) ne ∙ works_with job (Lock q true command had) s ne

  works_level : (level : ℕ) (o : Option Transaction) (s : Machine) → is_at_work job (told_level q level o s) ≡ is_at_work job s
  works_level level None s = works_put job q _ s ne
  works_level level (Some t) s = works_put job q _ s ne

  works_commit : (o : Option Transaction) (s : Machine) → is_at_work job (told_commit q o s) ≡ is_at_work job s
  works_commit None s = refl
  works_commit (Some t) s = works_closed job q (add_unit (Whole q t.exchanges) s) ne ∙ works_with job (Whole q t.exchanges) s ne

  works_back : (o : Option Transaction) (s : Machine) → is_at_work job (told_back q o s) ≡ is_at_work job s
  works_back None s = refl
  works_back (Some t) s = elim t.took_lock as (λ b. is_at_work job (cond b (add_unit (Back q) s) s) ≡ is_at_work job s) [ true ↦ works_with job (Back q) s ne | false ↦ refl ]

  works_begun : (restarts : ℕ) (o : Option Transaction) (s : Machine) → is_at_work job (begin q restarts (told_back q o s)) ≡ is_at_work job s
  works_begun restarts o s = works_put job q _ (told_back q o s) ne ∙ works_back o s

  pub others_work : (command : Command) (reply : Reply) (s : Machine) → is_at_work job (told q command reply s) ≡ is_at_work job s
  others_work command (Refused refusal) s = refl
  others_work (Access command) (Answered answer) s = works_answer command answer (transaction_of q s) s
  others_work (lock_command command) (Had had) s = works_lock command had (transaction_of q s) s
  others_work (lock_command command) Finished s = works_lock command true (transaction_of q s) s
  others_work Start (AtLevel level) s = works_level level (transaction_of q s) s
  others_work Commit (AtLevel level) s = works_level level (transaction_of q s) s
  others_work Commit Committed s = works_commit (transaction_of q s) s
  others_work Commit (Restarted restarts) s = works_begun restarts (transaction_of q s) s
  others_work Restart (Restarted restarts) s = works_begun restarts (transaction_of q s) s
  others_work Rollback Finished s = works_closed job q (told_back q (transaction_of q s) s) ne ∙ works_back (transaction_of q s) s
  others_work Halt Finished s = works_closed job q (add_unit (End q) s) ne ∙ works_with job (End q) s ne
  others_work command reply s = refl

-- after a HALT
pub rests_halted : (job : ℕ) (s : Machine) → is_at_work job (told job Halt Finished s) ≡ false
rests_halted job s =
    ap (λ (o : Option Transaction). is_some o || works_on job (s.units ++ End job ∷ []) false) (gone_here s.transactions job)
    ∙ works_more job s.units (End job) false ∙ ap (λ b. not b && works_on job s.units false) (eq-eqb job job refl)
