-- What looks by keys at the database of a moment answer, and how a view begins.
-- Read IsViewBegun, then IsOrderLook, IsQueryLook, IsChildrenLook, IsNumberLook.
use Rattle.std.specs.Prelude.{◌≡◌, ◌⊎◌, ℕ, Bool, true, false, is_some, List}
use Rattle.refusal.specs.declared.Refusal.{Refusal}
use Rattle.collation.specs.Reference.{Reference}
use Rattle.collation.specs.declared.direction.Direction.{Direction}
use Rattle.command.specs.declared.request.Command.{Command}
use Rattle.command.specs.declared.request.Command.TheVariants.{Start}
use Rattle.command.specs.declared.request.Reply.{Reply}
use Rattle.journal.specs.Story.{Machine, transaction_of}
use Rattle.key_codec.specs.Draft.{longer, place_of}
use Rattle.embedded.specs.Calls.{IsKept}
use Rattle.embedded.specs.Children.{IsChildrenCall}
use Rattle.embedded.specs.Looks.{IsLeftFor, IsOrderAt, IsQueryAt}
use Rattle.embedded.specs.Outcomes.{outcome_of}
use Rattle.embedded.specs.declared.engine.Embedded.{Embedded}
use Rattle.embedded.specs.declared.outcome.Outcome.{Outcome}
use Rattle.embedded.specs.declared.outcome.Outcome.TheVariants.{Refused, TransactionOpen}
use Rattle.serial.specs.Machine.{IsReply}
use Rattle.typed_calls.specs.Typed.{IsJobCause, IsPlaceCause, IsQueryCause, IsRefusedCall, IsStep, IsWithin, last_outcome, number_of}

-- a TSTART of the job, which has no open transaction
pub record IsAloneStarted (job : ℕ) (before after : Embedded) (outcome : Outcome) : Type 0 where
  pub none : is_some (transaction_of job before.core.machine) ≡ false
  pub step : IsStep job Start before after
  pub told : outcome ≡ last_outcome after.last

-- the job has an open transaction, and nothing has changed
pub record IsThere (job : ℕ) (before after : Embedded) (outcome : Outcome) : Type 0 where
  pub some : is_some (transaction_of job before.core.machine) ≡ true
  pub kept : IsKept before after
  pub told : outcome ≡ TransactionOpen

-- a view was begun by a TSTART, or not
abbrev pub IsViewBegun : ℕ → Embedded → Embedded → Outcome → Type 0
IsViewBegun job before after outcome =
    (IsAloneStarted job before after outcome ⊎ IsThere job before after outcome)
    ⊎ IsRefusedCall (λ refusal. IsJobCause job refusal) before after outcome

-- what $ORDER answers from this subscript on, one level below a key, which may stand there, was copied at a moment; or the
-- subscript was refused
abbrev pub IsOrderLook : ℕ → Machine → Reference → List ℕ → Direction → Outcome → List ℕ → List ℕ → ℕ → Type 0
IsOrderLook moment s level start direction result old new wanted =
    (IsOrderAt moment s (place_of (longer level start)) direction result old new wanted × IsWithin (λ refusal. IsPlaceCause level start refusal))
    ⊎ IsLeftFor (λ refusal. IsPlaceCause level start refusal) result old new wanted

-- the key moved to what $QUERY answers from it, or from the open place that may stand below it, at a moment; or that was
-- refused, and it stays
abbrev pub IsQueryLook : ℕ → Machine → Reference → Bool → Direction → Reference → Outcome → Type 0
IsQueryLook moment s old is_open direction new result =
    (IsQueryAt moment s (record { reference = old; is_open = is_open }) direction old new result × IsWithin (λ refusal. IsQueryCause old is_open refusal))
    ⊎ ((new ≡ old) × ((refusal : Refusal) × IsQueryCause old is_open refusal × (result ≡ Refused refusal)))

-- the children of a key behind this subscript were copied, in the database of a moment; or the subscript was refused, and nothing has changed
abbrev pub IsChildrenLook : ℕ → Reference → List ℕ → Embedded → Embedded → Outcome → List ℕ → List ℕ → ℕ → Type 0
IsChildrenLook moment level start before after result old new wanted =
    (IsChildrenCall moment (place_of (longer level start)) before after result old new wanted × IsWithin (λ refusal. IsPlaceCause level start refusal))
    ⊎ (IsKept before after × IsLeftFor (λ refusal. IsPlaceCause level start refusal) result old new wanted)

-- the reply to a command that changes nothing was told, and is not kept
pub record IsAsked (job : ℕ) (command : Command) (before after : Embedded) (outcome : Outcome) (number : ℕ) : Type 0 where
  pub reply : Reply
  pub answer : IsReply job command reply before.core.machine
  pub kept : IsKept before after
  pub told : outcome ≡ outcome_of reply
  pub number_told : number ≡ number_of reply

-- that, or no job has this number, and 0 is told
abbrev pub IsNumberLook : ℕ → Command → Embedded → Embedded → Outcome → ℕ → Type 0
IsNumberLook job command before after outcome number =
    IsAsked job command before after outcome number ⊎ (IsRefusedCall (λ refusal. IsJobCause job refusal) before after outcome × (number ≡ 0))
