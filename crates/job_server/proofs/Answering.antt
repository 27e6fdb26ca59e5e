-- What is known where an answer is of one kind.
use Rattle.std.proofs.Common.{◌≡◌, Bool, true, false, sym, ap, subst, true≢false}
use Rattle.std.specs.Prelude.{Option, Some, None, Result, Ok, Err, IfSome, IfNone, IfErr, OnOk, is_ok, is_some}
use Rattle.refusal.specs.declared.Refusal.{Refusal}
use Rattle.lock_name.specs.declared.lock.LockCommand.{LockCommand}
use Rattle.shared_engine.specs.Sessions.{Held}
use Rattle.shared_engine.specs.Engines.{OnOkThat, OnOkNot}
use Rattle.shared_engine.specs.Blocks.{HasItsNames, WasBlocked, WasRefused}
use Rattle.job_server.specs.Telling.{HasLocked}

-- a LOCK with a timeout
pub within_locked : (command : LockCommand) (result : Result Bool Refusal) (old new : Held) → OnOkThat result (HasItsNames command old new) → OnOkNot result (WasBlocked command old new)
    → IfErr result (λ refusal. WasRefused command refusal old new) → HasLocked command result old new
within_locked command (Ok true) old new had blocked refused = had
within_locked command (Ok false) old new had blocked refused = blocked
within_locked command (Err refusal) old new had blocked refused = refused

-- what holds where the answer is Ok
pub ok_that : {A E P : Type 0} (r : Result A E) → OnOk r P → is_ok r ≡ true → P
ok_that (Ok a) h is = h
ok_that (Err e) h is = absurd (true≢false (sym is))

-- what holds where the answer is yes
pub where_yes : {E P : Type 0} (r : Result Bool E) → OnOkThat r P → r ≡ Ok true → P
where_yes (Ok true) h is = h
where_yes (Ok false) h is = absurd (cc)
where_yes (Err e) h is = absurd (cc)

-- where it is no
pub where_no : {E P : Type 0} (r : Result Bool E) → OnOkNot r P → r ≡ Ok false → P
where_no (Ok true) h is = absurd (cc)
where_no (Ok false) h is = h
where_no (Err e) h is = absurd (cc)

-- where there is none
pub where_none : {A P : Type 0} (o : Option A) → IfNone o P → o ≡ None → P
where_none None h is = h
where_none (Some a) h is = absurd (true≢false (ap is_some is))

-- where there is one
pub where_some : {A : Type 0} (o : Option A) (a : A) (P : A → Type 0) → IfSome o P → o ≡ Some a → P a
where_some o a P h is = subst (λ x. IfSome x P) is h
