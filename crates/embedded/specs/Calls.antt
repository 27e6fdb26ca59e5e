-- What the calls of an embedded engine answer, leave and copy.
-- Read IsAnswer, copied_onto, outcome_of_copy, then IsLineCall, IsReplyCall and IsListCall.
use Rattle.std.specs.Prelude.{◌≡◌, ◌≢◌, ◌⊎◌, ℕ, ◌-◌, ◌^◌, min, Bool, true, false, not, nat_le, if◌then◌else◌, List, ◌++◌, length, drop, Option, None, Some}
use Rattle.std.specs.List.{find, flat_map}
use Rattle.std.specs.Option.{MatchOption, is_some}
use Rattle.std.specs.Ordering.{is_lt}
use Rattle.std.specs.FinMap as finmap
use Rattle.refusal.specs.declared.Refusal.TheVariants.{OutOfMemory}
use Rattle.collation.specs.Reference.{Reference}
use Rattle.collation.specs.Order.{ref_cmp}
use Rattle.collation.specs.Database.{Database}
use Rattle.command.specs.declared.request.Reply.{Reply}
use Rattle.journal.specs.Checkpoints.{IsCheckpoint}
use Rattle.journal.specs.Format.{unit_bytes}
use Rattle.journal.specs.History.{initial, after as left_by}
use Rattle.journal.specs.Story.{Machine}
use Rattle.serial.specs.Answers.{IsReplyOrMemory, told_by}
use Rattle.script.specs.Line.{reading_of, job_of_line, HasOperands}
use Rattle.script.specs.Text.{reply_text}
use Rattle.listing.specs.Listing.{node_text}
use Rattle.embedded.specs.Moments.{database_at, unseen}
use Rattle.embedded.specs.Outcomes.{outcome_number, outcome_name, outcome_of}
use Rattle.embedded.specs.declared.outcome.Outcome.{Outcome}
use Rattle.embedded.specs.declared.outcome.Outcome.TheVariants.{BufferTooShort, ReplyKept, NoReply, AtEnd, UnknownNumber, Done, Refused as RefusedCall}
use Rattle.embedded.specs.declared.engine.Answered.{Answered}
use Rattle.embedded.specs.declared.engine.Embedded.{Embedded}

-- ---- a line's reply

-- the reply to a line, as it was read; where it has operands, memory to read them may be refused
abbrev pub IsAnswer : Machine → List ℕ → Reply → Type 0
IsAnswer s line reply = IsReplyOrMemory (HasOperands line) s (reading_of line) reply

-- ---- a text in a buffer

-- the buffer has room for the text
abbrev pub fits : List ℕ → List ℕ → Bool
fits text buffer = nat_le (length text) (length buffer)

-- the text, and what stood behind it; or the buffer as it was
abbrev pub copied_onto : List ℕ → List ℕ → List ℕ
copied_onto text buffer = if fits text buffer then text ++ drop (length text) buffer else buffer

-- this outcome where the text fits
abbrev pub outcome_of_copy : Outcome → List ℕ → List ℕ → Outcome
outcome_of_copy outcome text buffer = if fits text buffer then outcome else BufferTooShort

-- this text was copied, its length told, and what is answered is this outcome, or that the buffer is too short
pub record IsCopied (text : List ℕ) (outcome result : Outcome) (old new : List ℕ) (wanted : ℕ) : Type 0 where
  pub copied : new ≡ copied_onto text old
  pub told : wanted ≡ length text
  pub answered : result ≡ outcome_of_copy outcome text old

-- nothing was copied, and this is answered
pub record IsLeft (outcome result : Outcome) (old new : List ℕ) (wanted : ℕ) : Type 0 where
  pub left : new ≡ old
  pub told : wanted ≡ 0
  pub answered : result ≡ outcome

-- the line of the last reply was copied; or there is no reply, or no memory for its text
abbrev pub IsReplyCopied : Option Answered → Outcome → List ℕ → List ℕ → ℕ → Type 0
IsReplyCopied None result old new wanted = IsLeft NoReply result old new wanted
IsReplyCopied (Some last) result old new wanted =
    IsCopied (reply_text last.job last.reply) (outcome_of last.reply) result old new wanted ⊎ IsLeft ReplyKept result old new wanted

-- the line was run, its reply is kept in the place of the last one, and is what was copied
pub record IsLineCall (line : List ℕ) (before after : Embedded) (outcome : Outcome) (old new : List ℕ) (wanted : ℕ) : Type 0 where
  pub last : Answered
  pub kept : after.last ≡ Some last
  pub job : last.job ≡ job_of_line line
  pub answer : IsAnswer before.core.machine line last.reply
  pub machine : after.core.machine ≡ told_by (reading_of line) last.reply before.core.machine
  pub listed : after.listed ≡ before.listed
  pub journal_place : after.journal_place ≡ before.journal_place
  pub copied : IsReplyCopied (Some last) outcome old new wanted

-- the machine, the last reply and the places in the listing and in the journal are as they were
pub record IsKept (before after : Embedded) : Type 0 where
  pub core : after.core ≡ before.core
  pub last : after.last ≡ before.last
  pub listed : after.listed ≡ before.listed
  pub journal_place : after.journal_place ≡ before.journal_place

-- the last reply was copied, and nothing else has changed
pub record IsReplyCall (before after : Embedded) (outcome : Outcome) (old new : List ℕ) (wanted : ℕ) : Type 0 where
  pub copied : IsReplyCopied before.last outcome old new wanted
  pub kept : IsKept before after

-- ---- the listing, a node at a time

-- the database: what the units leave
abbrev pub database : Embedded → Database
database e = (left_by e.core.machine.units initial).map

-- the reference isn't after the one that was listed last
abbrev pub is_listed : Option Reference → Reference → Bool
is_listed None x = false
is_listed (Some r) x = not (is_lt (ref_cmp r x))

-- the node that is listed next
abbrev pub next_node : Option Reference → Database → Option (Reference × List ℕ)
next_node listed m = find (λ e. not (is_listed listed e.0)) (finmap.entries m)

-- the node was copied, and counts as listed where it fits; or memory was refused, and it doesn't
abbrev pub IsNodeOf : Reference × List ℕ → Option Reference → Option Reference → Outcome → List ℕ → List ℕ → ℕ → Type 0
IsNodeOf node listed now result old new wanted =
    (IsCopied (node_text node) Done result old new wanted × (now ≡ (if fits (node_text node) old then Some node.0 else listed)))
    ⊎ (IsLeft (RefusedCall OutOfMemory) result old new wanted × (now ≡ listed))

-- the next node's line, or the end
abbrev pub IsNodeCopied : Database → Option Reference → Option Reference → Outcome → List ℕ → List ℕ → ℕ → Type 0
IsNodeCopied m listed now result old new wanted = MatchOption (next_node listed m)
    (IsLeft AtEnd result old new wanted × (now ≡ listed)) (λ node. IsNodeOf node listed now result old new wanted)

-- there is a next node
abbrev pub HasNextNode : Database → Option Reference → Type 0
HasNextNode m listed = is_some (next_node listed m) ≡ true

-- the next node, and its line
pub record IsNodeLine (m : Database) (listed : Option Reference) (key : Reference) (text : List ℕ) : Type 0 where
  pub value : List ℕ
  pub next : next_node listed m ≡ Some (key, value)
  pub line : text ≡ node_text (key, value)

-- the next node with its line, where there is one
abbrev pub IsNodeFound : Database → Option Reference → Option Reference → List ℕ → Type 0
IsNodeFound m listed found text = MatchOption found (next_node listed m ≡ None) (λ key. IsNodeLine m listed key text)

-- the next node of a moment was copied, and the machine and the last reply are as they were; where nothing is seen, why is told
pub record IsListCall (moment : ℕ) (before after : Embedded) (outcome : Outcome) (old new : List ℕ) (wanted : ℕ) : Type 0 where
  pub copied : MatchOption (database_at moment before.core.machine) (IsLeft (RefusedCall (unseen moment)) outcome old new wanted × (after.listed ≡ before.listed))
      (λ m. IsNodeCopied m before.listed after.listed outcome old new wanted)
  pub core : after.core ≡ before.core
  pub last : after.last ≡ before.last
  pub journal_place : after.journal_place ≡ before.journal_place

-- the listing begins anew, and nothing else has changed
pub record IsRestart (before after : Embedded) : Type 0 where
  pub listed : after.listed ≡ None
  pub core : after.core ≡ before.core
  pub last : after.last ≡ before.last
  pub journal_place : after.journal_place ≡ before.journal_place

-- ---- what an engine holds

-- how many nodes there are, up to the most that a word counts
abbrev pub count_of : Database → ℕ
count_of m = min (length (finmap.entries m)) (2 ^ 64 - 1)

-- the statistics are the engine's
pub record IsCount (e : Embedded) (units bytes nodes : ℕ) : Type 0 where
  pub of_units : units ≡ length e.core.machine.units
  pub of_bytes : bytes ≡ length (flat_map unit_bytes (drop e.core.base e.core.machine.units))
  pub of_nodes : nodes ≡ count_of (database e)

-- a turn of the collector: done, or memory was refused; all that can be asked is as it was
pub record IsCollectCall (before after : Embedded) (outcome : Outcome) : Type 0 where
  pub kept : IsKept before after
  pub told : (outcome ≡ Done) ⊎ (outcome ≡ RefusedCall OutOfMemory)

-- the journal's base moved on as far as open transactions let it; or memory was refused, and it stays. All else is as it was
pub record IsCheckpointCall (before after : Embedded) (outcome : Outcome) : Type 0 where
  pub machine : after.core.machine ≡ before.core.machine
  pub moved : ((outcome ≡ Done) × IsCheckpoint after.core.base before.core.machine) ⊎ ((outcome ≡ RefusedCall OutOfMemory) × (after.core ≡ before.core))
  pub last : after.last ≡ before.last
  pub listed : after.listed ≡ before.listed
  pub journal_place : after.journal_place ≡ before.journal_place

-- ---- the name of a number

-- the name of an outcome with this number was copied
pub record IsNameOf (number : ℕ) (result : Outcome) (old new : List ℕ) (wanted : ℕ) : Type 0 where
  pub named : Outcome
  pub numbered : outcome_number named ≡ number
  pub copied : IsCopied (outcome_name named) Done result old new wanted

-- no outcome has this number
abbrev pub IsOfNone : ℕ → Type 0
IsOfNone number = (outcome : Outcome) → outcome_number outcome ≢ number

-- the name of the outcome with this number was copied; or none has it, which is told
abbrev pub IsNamed : ℕ → Outcome → List ℕ → List ℕ → ℕ → Type 0
IsNamed number result old new wanted = IsNameOf number result old new wanted ⊎ (IsOfNone number × IsLeft UnknownNumber result old new wanted)
