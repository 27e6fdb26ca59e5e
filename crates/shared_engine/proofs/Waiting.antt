-- A LOCK whose first try was in vain.
use Rattle.std.proofs.Common.{◌≡◌, Bool, true, false, refl, sym, subst, inl, inr, Result, Ok, Err, OnOk}
use Rattle.std.specs.Prelude.{IfErr}
use Rattle.refusal.specs.declared.Refusal.{Refusal}
use Rattle.refusal.specs.declared.Refusal.TheVariants.{OutOfMemory}
use Rattle.lock_name.specs.declared.lock.LockCommand.{LockCommand}
use Rattle.shared_engine.specs.Sessions.{Held}
use Rattle.shared_engine.specs.Engines.{OnOkThat, OnOkNot}
use Rattle.shared_engine.specs.Blocks.{WasTried, HasItsNames, WasBlocked, WasRefused}
use Rattle.shared_engine.specs.laws.Prefixes.{begins_itself}
use Rattle.shared_engine.specs.laws.Told.{tried_refused}

-- a try that said no
pub first_try : (command : LockCommand) (had : Bool) (old mid : Held) → had ≡ false → WasTried command (Ok had) old mid → WasTried command (Ok false) old mid
first_try command had old mid is tried = subst (λ (b : Bool). WasTried command (Ok b) old mid) is tried

-- one that said yes
pub first_had : (command : LockCommand) (had : Bool) (old new : Held) → had ≡ true → WasTried command (Ok had) old new → HasItsNames command old new
first_had command had old new is tried = inl (subst (λ (b : Bool). WasTried command (Ok b) old new) is tried)

-- a LOCK may be refused for memory at any time
pub stopped : (command : LockCommand) (old new : Held) → new ≡ old → WasTried command (Err OutOfMemory) old new
stopped command old new same = tried_refused command OutOfMemory old.seen old new (begins_itself old.seen) (inl (inl refl)) same

-- ---- the tries after it

pub had_later : {A : Type 0} (r : Result A Refusal) (command : LockCommand) (old mid new : Held) → WasTried command (Ok false) old mid → OnOk r (WasTried command (Ok true) mid new) → OnOk r (HasItsNames command old new)
had_later (Ok a) command old mid new first h = inr (mid, first, h)
had_later (Err e) command old mid new first h = tt

pub had_within : (r : Result Bool Refusal) (command : LockCommand) (old mid new : Held) → WasTried command (Ok false) old mid → OnOkThat r (WasTried command (Ok true) mid new) → OnOkThat r (HasItsNames command old new)
had_within (Ok true) command old mid new first h = inr (mid, first, h)
had_within (Ok false) command old mid new first h = tt
had_within (Err e) command old mid new first h = tt

pub blocked_within : (r : Result Bool Refusal) (command : LockCommand) (old mid new : Held) → WasTried command (Ok false) old mid → OnOkNot r (new ≡ mid) → OnOkNot r (WasBlocked command old new)
blocked_within (Ok true) command old mid new first h = tt
blocked_within (Ok false) command old mid new first h = subst (λ (s : Held). WasTried command (Ok false) old s) (sym h) first
blocked_within (Err e) command old mid new first h = tt

pub refused_later : {A : Type 0} (r : Result A Refusal) (command : LockCommand) (old mid new : Held) → WasTried command (Ok false) old mid → IfErr r (λ refusal. WasTried command (Err refusal) mid new) → IfErr r (λ refusal. WasRefused command refusal old new)
refused_later (Ok a) command old mid new first h = tt
refused_later (Err e) command old mid new first h = inr (mid, first, h)
