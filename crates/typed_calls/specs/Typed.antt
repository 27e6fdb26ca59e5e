-- What the typed calls answer and leave.
-- Read IsWithin, IsTypedCall, then IsNumberCall, IsValueCall, IsFoundCall, IsNameCall.
use Rattle.std.specs.Prelude.{◌≡◌, ◌⊎◌, ℕ, ◌≤◌, ◌<◌, Bool, true, false, List, [], length, Option, None, Some}
use Rattle.std.specs.Option.{MatchOption}
use Rattle.refusal.specs.declared.Refusal.{Refusal}
use Rattle.refusal.specs.declared.Refusal.TheVariants.{BadLine, BadName, BadJob, ValueTooLong, OutOfMemory}
use Rattle.canonic_number.specs.Number.{is_canonic}
use Rattle.collation.specs.Name.{is_name}
use Rattle.collation.specs.Limits.{most_jobs, most_value_bytes}
use Rattle.collation.specs.Reference.{Reference}
use Rattle.command.specs.declared.access.Answer.TheVariants.{Done as DoneAnswer, Value, Number, Found}
use Rattle.command.specs.declared.request.Command.{Command}
use Rattle.command.specs.declared.request.Reply.{Reply}
use Rattle.command.specs.declared.request.Reply.TheVariants.{Answered as AnsweredReply, Finished, Had, Count, AtLevel, Committed, Restarted, Refused as RefusedReply}
use Rattle.journal.specs.Story.{told}
use Rattle.key_codec.specs.Draft.{IsDueOrMemory, longer, place_due}
use Rattle.key_codec.specs.Key.{key_of}
use Rattle.serial.specs.Machine.{IsReply}
use Rattle.embedded.specs.Calls.{IsCopied, IsKept, IsLeft}
use Rattle.embedded.specs.Outcomes.{outcome_of}
use Rattle.embedded.specs.declared.engine.Answered.{Answered}
use Rattle.embedded.specs.declared.engine.Embedded.{Embedded}
use Rattle.embedded.specs.declared.outcome.Outcome.{Outcome}
use Rattle.embedded.specs.declared.outcome.Outcome.TheVariants.{Done, Refused, NoReply, AtEnd, ReplyKept}

-- ---- a step

-- the machine's step of this command was done, and its reply is kept
pub record IsStep (job : ℕ) (command : Command) (before after : Embedded) : Type 0 where
  pub last : Answered
  pub kept : after.last ≡ Some last
  pub by : last.job ≡ Some job
  pub answer : IsReply job command last.reply before.core.machine
  pub machine : after.core.machine ≡ told job command last.reply before.core.machine
  pub listed : after.listed ≡ before.listed
  pub journal_place : after.journal_place ≡ before.journal_place

-- the call was refused for this cause, and nothing has changed
pub record IsRefusedCall (IsCause : Refusal → Type 0) (before after : Embedded) (outcome : Outcome) : Type 0 where
  pub refusal : Refusal
  pub cause : IsCause refusal
  pub kept : IsKept before after
  pub answered : outcome ≡ Refused refusal

-- none of these causes is there but that of memory: so what is done keeps all limits that they name
pub record IsWithin (IsCause : Refusal → Type 0) : Type 0 where
  pub limits : (refusal : Refusal) → IsCause refusal → refusal ≡ OutOfMemory

-- no job has this number
abbrev pub IsJobCause : ℕ → Refusal → Type 0
IsJobCause job refusal = (1 ≤ job → job ≤ most_jobs → ⊥) × (refusal ≡ BadJob)

-- no job has this number, or the cause is another
abbrev pub IsCauseBefore : (Refusal → Type 0) → ℕ → Refusal → Type 0
IsCauseBefore IsOther job refusal = IsOther refusal ⊎ IsJobCause job refusal

-- memory was refused
abbrev pub IsMemory : Refusal → Type 0
IsMemory refusal = refusal ≡ OutOfMemory

-- memory was refused, or the value is too long
abbrev pub IsValueCause : List ℕ → Refusal → Type 0
IsValueCause value refusal = IsMemory refusal ⊎ ((refusal ≡ ValueTooLong) × (most_value_bytes < length value))

-- the number isn't canonic; or it is, and the cause is a value's
abbrev pub IsNumberCause : List ℕ → Refusal → Type 0
IsNumberCause number refusal = ((refusal ≡ BadLine) × (is_canonic number ≡ false)) ⊎ ((is_canonic number ≡ true) × IsValueCause number refusal)

-- memory was refused, or there is a start, which is no name
abbrev pub IsNameCause : List ℕ → Refusal → Type 0
IsNameCause start refusal = IsMemory refusal ⊎ ((refusal ≡ BadName) × (start ≡ [] → ⊥) × (is_name start ≡ false))

-- no name was given
abbrev pub IsNoList : Refusal → Type 0
IsNoList refusal = refusal ≡ BadLine

-- memory was refused, or the subscript may not stand below the key
abbrev pub IsPlaceCause : Reference → List ℕ → Refusal → Type 0
IsPlaceCause level s refusal = IsDueOrMemory refusal (place_due (longer level s))

-- memory was refused; or, where an empty subscript follows the key, it may not stand there
abbrev pub IsQueryCause : Reference → Bool → Refusal → Type 0
IsQueryCause r true refusal = IsPlaceCause r [] refusal
IsQueryCause r false refusal = IsMemory refusal

-- ---- calls that answer nothing but how they went

-- what the last reply tells
abbrev pub last_outcome : Option Answered → Outcome
last_outcome None = NoReply
last_outcome (Some last) = outcome_of last.reply

-- the step was done within its limits and its outcome is told, or it was refused before
abbrev pub IsTypedCall : (Refusal → Type 0) → ℕ → Command → Embedded → Embedded → Outcome → Type 0
IsTypedCall IsCause job command before after outcome =
    (IsStep job command before after × (outcome ≡ last_outcome after.last) × IsWithin IsCause) ⊎ IsRefusedCall IsCause before after outcome

-- ---- calls that answer a number

-- the number that was answered: what $DATA tells, whether the names of a LOCK were had, the level or the restarts that are left
abbrev pub number_of : Reply → ℕ
number_of (AnsweredReply DoneAnswer) = 0
number_of (AnsweredReply (Value v)) = 0
number_of (AnsweredReply (Number n)) = n
number_of (AnsweredReply (Found r)) = 0
number_of Finished = 0
number_of (Had true) = 1
number_of (Had false) = 0
number_of (Count n) = n
number_of (AtLevel n) = n
number_of Committed = 0
number_of (Restarted n) = n
number_of (RefusedReply refusal) = 0

abbrev pub last_number : Option Answered → ℕ
last_number None = 0
last_number (Some last) = number_of last.reply

-- refused before, and the number is 0
abbrev pub IsRefusedNumber : (Refusal → Type 0) → Embedded → Embedded → Outcome → ℕ → Type 0
IsRefusedNumber IsCause before after outcome number = IsRefusedCall IsCause before after outcome × (number ≡ 0)

-- as a typed call, and the number is the last reply's; where it was refused before it is 0
abbrev pub IsNumberCall : (Refusal → Type 0) → ℕ → Command → Embedded → Embedded → Outcome → ℕ → Type 0
IsNumberCall IsCause job command before after outcome number =
    (IsStep job command before after × (outcome ≡ last_outcome after.last) × (number ≡ last_number after.last) × IsWithin IsCause)
    ⊎ IsRefusedNumber IsCause before after outcome number

-- ---- calls that copy a value

-- the value that was answered
abbrev pub value_of : Reply → Option (List ℕ)
value_of (AnsweredReply DoneAnswer) = None
value_of (AnsweredReply (Value v)) = Some v
value_of (AnsweredReply (Number n)) = None
value_of (AnsweredReply (Found r)) = None
value_of Finished = None
value_of (Had all) = None
value_of (Count n) = None
value_of (AtLevel n) = None
value_of Committed = None
value_of (Restarted n) = None
value_of (RefusedReply refusal) = None

-- the value of the last reply, where it has one
abbrev pub last_value : Option Answered → Option (List ℕ)
last_value None = None
last_value (Some last) = value_of last.reply

-- what a reply without what is asked for tells: its refusal, or this
abbrev pub refused_else : Outcome → Reply → Outcome
refused_else other (AnsweredReply answer) = other
refused_else other Finished = other
refused_else other (Had all) = other
refused_else other (Count n) = other
refused_else other (AtLevel n) = other
refused_else other Committed = other
refused_else other (Restarted n) = other
refused_else other (RefusedReply refusal) = Refused refusal

-- the same of the last reply
abbrev pub last_refused_else : Outcome → Option Answered → Outcome
last_refused_else other None = other
last_refused_else other (Some last) = refused_else other last.reply

-- the last value's bytes were copied; where there is none the refusal is told, or that there is none
abbrev pub IsValueCopied : Option Answered → Outcome → List ℕ → List ℕ → ℕ → Type 0
IsValueCopied last result old new wanted =
    MatchOption (last_value last) (IsLeft (last_refused_else NoReply last) result old new wanted) (λ value. IsCopied value Done result old new wanted)

-- a call was refused for this cause, nothing was copied, and nothing has changed
pub record IsLeftRefused (IsCause : Refusal → Type 0) (before after : Embedded) (result : Outcome) (old new : List ℕ) (wanted : ℕ) : Type 0 where
  pub refused : IsRefusedCall IsCause before after result
  pub left : new ≡ old
  pub told : wanted ≡ 0

-- the step was done within its limits and its value copied, or it was refused before
abbrev pub IsValueCall : (Refusal → Type 0) → ℕ → Command → Embedded → Embedded → Outcome → List ℕ → List ℕ → ℕ → Type 0
IsValueCall IsCause job command before after result old new wanted =
    (IsStep job command before after × IsValueCopied after.last result old new wanted × IsWithin IsCause) ⊎ IsLeftRefused IsCause before after result old new wanted

-- ---- $QUERY

-- the reference that was answered
abbrev pub found_of : Reply → Option Reference
found_of (AnsweredReply DoneAnswer) = None
found_of (AnsweredReply (Value v)) = None
found_of (AnsweredReply (Number n)) = None
found_of (AnsweredReply (Found r)) = Some r
found_of Finished = None
found_of (Had all) = None
found_of (Count n) = None
found_of (AtLevel n) = None
found_of Committed = None
found_of (Restarted n) = None
found_of (RefusedReply refusal) = None

-- the reference of the last reply, where it has one
abbrev pub last_found : Option Answered → Option Reference
last_found None = None
last_found (Some last) = found_of last.reply

-- the key comes to be this reference; or it is a long one, memory is refused for it, and the key stays
abbrev pub IsKeyOf : Reference → Reference → Reference → Outcome → Type 0
IsKeyOf found old new result = ((new ≡ found) × (result ≡ Done)) ⊎ ((new ≡ old) × (result ≡ ReplyKept) × (38 < length (key_of found)))

-- the key comes to be the last reply's reference; where it has none the key stays, and the refusal is told, or that no node is left
abbrev pub IsFoundTaken : Option Answered → Reference → Reference → Outcome → Type 0
IsFoundTaken last old new result =
    MatchOption (last_found last) ((new ≡ old) × (result ≡ last_refused_else AtEnd last)) (λ found. IsKeyOf found old new result)

-- the step was done within its limits and the key moved to what was found, or it was refused before
abbrev pub IsFoundCall : (Refusal → Type 0) → ℕ → Command → Embedded → Embedded → Reference → Reference → Outcome → Type 0
IsFoundCall IsCause job command before after old new result =
    (IsStep job command before after × IsFoundTaken after.last old new result × IsWithin IsCause)
    ⊎ (IsRefusedCall IsCause before after result × (new ≡ old))

-- ---- $ORDER of names

-- the name of the last reply's reference was copied; where it has none the refusal is told, or that no name is left
abbrev pub IsNameCopied : Option Answered → Outcome → List ℕ → List ℕ → ℕ → Type 0
IsNameCopied last result old new wanted =
    MatchOption (last_found last) (IsLeft (last_refused_else AtEnd last) result old new wanted) (λ found. IsCopied found.name Done result old new wanted)

-- the step was done within its limits and the name copied, or it was refused before
abbrev pub IsNameCall : (Refusal → Type 0) → ℕ → Command → Embedded → Embedded → Outcome → List ℕ → List ℕ → ℕ → Type 0
IsNameCall IsCause job command before after result old new wanted =
    (IsStep job command before after × IsNameCopied after.last result old new wanted × IsWithin IsCause) ⊎ IsLeftRefused IsCause before after result old new wanted
