-- A KILL outside a transaction while no stamp before now is asked for.
use Rattle.std.proofs.Common.{◌≡◌, inl, inr, ℕ, List, ◌++◌, refl, sym, ap, subst, ◌∙◌, arith}
use Rattle.std.specs.Prelude.{true, false, Option, Some, None, IfSome}
use Rattle.collation.specs.Reference.{Reference}
use Rattle.collation.specs.Database.{Database}
use Rattle.refusal.specs.declared.Refusal.{Refusal}
use Rattle.command.specs.declared.access.DataCommand.{DataCommand}
use Rattle.command.specs.declared.access.DataCommand.TheVariants.{Set, Kill, Merge, Increment, Look}
use Rattle.command.specs.declared.access.Extent.{Extent}
use Rattle.command.specs.declared.access.Extent.TheVariants.{All, Value, Below}
use Rattle.command.specs.declared.access.Answer.TheVariants.{Done}
use Rattle.command.specs.Data.{data_refusal, data_reply}
use Rattle.globals.specs.Answering.{early_refusal}
use Rattle.journal.specs.declared.unit.Unit.{Unit as JournalUnit}
use Rattle.journal.specs.declared.unit.Unit.TheVariants.{Lone}
use Rattle.journal.specs.Kept.{HasNoRoom}
use Rattle.version_store.specs.Versions.{Stored, content_now}
use Rattle.validate_commit.specs.Agreement.{Agreement, IsNextKill}
use Rattle.job_core.specs.Causes.{IsCauseOf}
use Rattle.job_core.specs.Changes.{found_changes, own_change, is_lone_kill, row_changed, row_done}
use Rattle.job_core.proofs.ChangeLemmas.{next_lone}

pub kill_reply : (command : DataCommand) (oldest : Option ℕ) (m : Database) → is_lone_kill command oldest ≡ true → Done ≡ data_reply command m
kill_reply (Set r v) oldest m is = absurd (cc)
kill_reply (Kill r All) oldest m is = refl
kill_reply (Kill r Value) oldest m is = absurd (cc)
kill_reply (Kill r Below) oldest m is = absurd (cc)
kill_reply (Merge a b) oldest m is = absurd (cc)
kill_reply (Increment r n) oldest m is = absurd (cc)
kill_reply (Look look) oldest m is = absurd (cc)

pub kill_accepted : (command : DataCommand) (oldest : Option ℕ) (m : Database) → is_lone_kill command oldest ≡ true → data_refusal command m ≡ None
kill_accepted (Set r v) oldest m is = absurd (cc)
kill_accepted (Kill r All) oldest m is = refl
kill_accepted (Kill r Value) oldest m is = absurd (cc)
kill_accepted (Kill r Below) oldest m is = absurd (cc)
kill_accepted (Merge a b) oldest m is = absurd (cc)
kill_accepted (Increment r n) oldest m is = absurd (cc)
kill_accepted (Look look) oldest m is = absurd (cc)

-- no rule is looked at early
pub kill_early : (command : DataCommand) (oldest : Option ℕ) → is_lone_kill command oldest ≡ true → early_refusal command ≡ None
kill_early (Set r v) oldest is = refl
kill_early (Kill r All) oldest is = refl
kill_early (Kill r Value) oldest is = absurd (cc)
kill_early (Kill r Below) oldest is = absurd (cc)
kill_early (Merge a b) oldest is = absurd (cc)
kill_early (Increment r n) oldest is = absurd (cc)
kill_early (Look look) oldest is = absurd (cc)

-- nothing older is asked for
pub kill_none : (command : DataCommand) (oldest : Option ℕ) → is_lone_kill command oldest ≡ true → oldest ≡ None
kill_none (Set r v) oldest is = absurd (cc)
kill_none (Kill r All) None is = refl
kill_none (Kill r All) (Some stamp) is = absurd (cc)
kill_none (Kill r Value) oldest is = absurd (cc)
kill_none (Kill r Below) oldest is = absurd (cc)
kill_none (Merge a b) oldest is = absurd (cc)
kill_none (Increment r n) oldest is = absurd (cc)
kill_none (Look look) oldest is = absurd (cc)

-- it takes all
pub kill_all : (r : Reference) (extent : Extent) → is_lone_kill (Kill r extent) None ≡ true → extent ≡ All
kill_all r All is = refl
kill_all r Value is = absurd (cc)
kill_all r Below is = absurd (cc)

pub kill_cause : (refusal : Refusal) (command : DataCommand) (m : Database) (units : ℕ) → data_refusal command m ≡ None → HasNoRoom refusal 1 units → IsCauseOf refusal command m units
kill_cause refusal command m units accepted (inl memory) = inl (inr memory)
kill_cause refusal command m units accepted (inr full) = inr (full.0, accepted, omega (arith, full.1))

-- its unit is the next, and leaves nothing at and under its reference
pub next_kill : (store : Stored) (units : List JournalUnit) (job : ℕ) (r : Reference) → Agreement store units → IsNextKill r (Lone job (Kill r All) Done) units
next_kill store units job r is = record {
  changes = found_changes (Kill r All) (content_now store) ++ own_change (Kill r All);
  next = next_lone store units job (Kill r All) Done (found_changes (Kill r All) (content_now store)) is refl refl refl;
  leaves = refl;
}

-- every other command changes what it finds and its own
pub not_alone : (command : DataCommand) (oldest : Option ℕ) (stamp cut : ℕ) (old : Stored) (x : Reference) → is_lone_kill command oldest ≡ false → row_changed command stamp cut old x ≡ row_done command oldest stamp cut old x
not_alone (Set r v) oldest stamp cut old x is = refl
not_alone (Kill r All) None stamp cut old x is = absurd (cc)
not_alone (Kill r All) (Some since) stamp cut old x is = refl
not_alone (Kill r Value) oldest stamp cut old x is = refl
not_alone (Kill r Below) oldest stamp cut old x is = refl
not_alone (Merge a b) oldest stamp cut old x is = refl
not_alone (Increment r n) oldest stamp cut old x is = refl
not_alone (Look look) oldest stamp cut old x is = refl
