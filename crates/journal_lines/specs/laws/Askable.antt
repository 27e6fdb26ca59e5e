-- The steps of units that lines may have asked for are such steps again.
use Rattle.std.proofs.Common.{◌≡◌, ℕ, Bool, true, false, cond, List, [], ◌∷◌, ◌++◌, map, Option, Some, None, refl}
use Rattle.std.specs.Prelude.{◌==◌, not, filter}
use Rattle.std.specs.List.{flat_map}
use Rattle.lock_name.specs.declared.lock.LockCommand.{LockCommand}
use Rattle.lock_name.specs.declared.lock.LockCommand.TheVariants.{Release, Only, More, Fewer}
use Rattle.command.specs.declared.request.Command.TheVariants.{Access, Lock as lock_command, Start, Restart}
use Rattle.journal.specs.declared.unit.Exchange.{Exchange}
use Rattle.journal.specs.declared.unit.Unit.{Unit as JournalUnit}
use Rattle.journal.specs.declared.unit.Unit.TheVariants.{Lone, Whole, Lock, Back, End}
use Rattle.journal.specs.Stored.{Each}
use Rattle.script.specs.Locking.{lock_fault}
use Rattle.script.specs.Line.{is_job}
use Rattle.journal_lines.specs.Journals.{Step, Pending, kept_of, has_pending, pending_of_others, opening_steps, again_steps, beginning_steps, unit_steps, still_pending, steps_from}
use Rattle.journal_lines.specs.Statements.{LocksBytes, IsAskable, WasAskable, IsReadAgain, StepsAreReadAgain, JournalsAreReadAgain}
use Rattle.journal_lines.specs.laws.Spelled.{step_read}
use Rattle.journal_lines.specs.laws.Plain.{step_plain}

pub read_again : StepsAreReadAgain
read_again step h = (step_read step.0 step.1 h.0 h.1 h.2, step_plain step.0 step.1 h.0 h.1 h.2)

-- each of lists

each_both : {A : Type 0} (P : A → Type 0) (xs ys : List A) → Each P xs → Each P ys → Each P (xs ++ ys)
each_both P [] ys h k = k
each_both P (x ∷ xs) ys h k = (h.0, each_both P xs ys h.1 k)

each_then : {A : Type 0} (P Q : A → Type 0) → ((x : A) → P x → Q x) → (xs : List A) → Each P xs → Each Q xs
each_then P Q f [] h = tt
each_then P Q f (x ∷ xs) h = (f x h.0, each_then P Q f xs h.1)

each_of_map : {A B : Type 0} (P : A → Type 0) (Q : B → Type 0) (g : A → B) → ((x : A) → P x → Q (g x)) → (xs : List A) → Each P xs → Each Q (map g xs)
each_of_map P Q g f [] h = tt
each_of_map P Q g f (x ∷ xs) h = (f x h.0, each_of_map P Q g f xs h.1)

each_of_flat : {A B : Type 0} (P : A → Type 0) (Q : B → Type 0) (g : A → List B) → ((x : A) → P x → Each Q (g x)) → (xs : List A) → Each P xs → Each Q (flat_map g xs)
each_of_flat P Q g f [] h = tt
each_of_flat P Q g f (x ∷ xs) h = each_both Q (g x) (flat_map g xs) (f x h.0) (each_of_flat P Q g f xs h.1)

each_filtered : {A : Type 0} (P : A → Type 0) (p : A → Bool) (xs : List A) → Each P xs → Each P (filter p xs)
each_filtered P p [] h = tt
each_filtered {A} P p (x ∷ xs) h = at (p x) (each_filtered P p xs h.1)
  where
    at : (t : Bool) → Each P (filter p xs) → Each P (cond t (x ∷ filter p xs) (filter p xs))
    at true k = (h.0, k)
    at false k = k

-- a pending LOCK is one that lines may ask for
abbrev IsSound : ℕ × Option LockCommand → Type 0
IsSound (job, None) = Unit {0}
IsSound (job, Some command) = LocksBytes command × (lock_fault command ≡ None)

kept_sound : (job : ℕ) (had : Bool) (c : LockCommand) → LocksBytes c → lock_fault c ≡ None → IsSound (job, kept_of had c)
kept_sound job true c h sound = (h, sound)
kept_sound job false Release h sound = (tt, refl)
kept_sound job false (Only ns) h sound = (tt, refl)
kept_sound job false (More ns) h sound = tt
kept_sound job false (Fewer ns) h sound = (h, sound)

again_sound : (job : ℕ) → is_job job ≡ true → (p : ℕ × Option LockCommand) → IsSound p → Each IsAskable (again_steps job p)
again_sound job numbered (owner, None) h = tt
again_sound job numbered (owner, Some command) h = at (owner == job)
  where
    at : (t : Bool) → Each IsAskable (cond t ((job, lock_command command) ∷ []) [])
    at true = ((numbered, h.0, h.1), tt)
    at false = tt

opening_sound : (job : ℕ) (pending : Pending) → is_job job ≡ true → Each IsAskable (opening_steps job pending)
opening_sound job pending numbered = at (has_pending job pending)
  where
    at : (t : Bool) → Each IsAskable (cond t [] ((job, Start) ∷ []))
    at true = tt
    at false = ((numbered, tt, refl), tt)

beginning_sound : (job : ℕ) (pending : Pending) → is_job job ≡ true → Each IsSound pending → Each IsAskable (beginning_steps job pending)
beginning_sound job pending numbered h = at (has_pending job pending)
  where
    at : (t : Bool) → Each IsAskable (cond t ((job, Restart) ∷ flat_map (again_steps job) pending) ((job, Start) ∷ []))
    at true = ((numbered, tt, refl), each_of_flat IsSound IsAskable (again_steps job) (again_sound job numbered) pending h)
    at false = ((numbered, tt, refl), tt)

unit_sound : (u : JournalUnit) (pending : Pending) → WasAskable u → Each IsSound pending → Each IsAskable (unit_steps u pending)
unit_sound (Lone job command answer) pending h k = (h, tt)
unit_sound (Whole job exchanges) pending h k =
    let commands : List Step = map (λ (e : Exchange). (job, Access e.command)) exchanges in
    each_both IsAskable (beginning_steps job pending) _ (beginning_sound job pending h.0 k)
    (each_both IsAskable commands _ (each_of_map (λ (e : Exchange). IsAskable (job, Access e.command)) IsAskable (λ (e : Exchange). (job, Access e.command)) (λ e a. a) exchanges h.1) ((h.0, tt, refl), tt))
unit_sound (Lock job true command had) pending h k = each_both IsAskable (opening_steps job pending) _ (opening_sound job pending h.0) (h, tt)
unit_sound (Lock job false command had) pending h k = (h, tt)
unit_sound (Back job) pending h k = ((h, tt, refl), tt)
unit_sound (End job) pending h k = ((h, tt, refl), tt)

others_sound : (job : ℕ) (pending : Pending) → Each IsSound pending → Each IsSound (pending_of_others job pending)
others_sound job pending k = each_filtered IsSound (λ (p : ℕ × Option LockCommand). not (p.0 == job)) pending k

pending_sound : (u : JournalUnit) (pending : Pending) → WasAskable u → Each IsSound pending → Each IsSound (still_pending u pending)
pending_sound (Lone job command answer) pending h k = k
pending_sound (Whole job exchanges) pending h k = others_sound job pending k
pending_sound (Lock job true command had) pending h k = each_both IsSound pending ((job, kept_of had command) ∷ []) k (kept_sound job had command h.1 h.2, tt)
pending_sound (Lock job false command had) pending h k = k
pending_sound (Back job) pending h k = others_sound job pending k
pending_sound (End job) pending h k = others_sound job pending k

steps_sound : (pending : Pending) (units : List JournalUnit) → Each IsSound pending → Each WasAskable units → Each IsAskable (steps_from pending units)
steps_sound pending [] k h = tt
steps_sound pending (u ∷ us) k h = each_both IsAskable (unit_steps u pending) (steps_from (still_pending u pending) us) (unit_sound u pending h.0 k) (steps_sound (still_pending u pending) us (pending_sound u pending h.0 k) h.1)

pub journals_read : JournalsAreReadAgain
journals_read units h = each_then IsAskable IsReadAgain read_again (steps_from [] units) (steps_sound [] units tt h)
