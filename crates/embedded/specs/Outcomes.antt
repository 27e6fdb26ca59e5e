-- The number and the name of what a call answers. Source: docs/LIBRARY.md, "Outcomes".
-- Read outcome_of, then outcome_number.
use Rattle.std.specs.Prelude.{ℕ, List, codes}
use Rattle.refusal.specs.Refusal.{refusal_number, name_of}
use Rattle.command.specs.declared.request.Reply.{Reply}
use Rattle.command.specs.declared.request.Reply.TheVariants.{Answered, Finished, Had, Count, AtLevel, Committed, Restarted as RestartedReply, Refused as RefusedReply}
use Rattle.embedded.specs.declared.outcome.Outcome.{Outcome}
use Rattle.embedded.specs.declared.outcome.Outcome.TheVariants.{Done, Refused, NoEngine, EngineThere, BufferTooShort, ReplyKept, NoReply, AtEnd, UnknownNumber, NoKey, Restarted, NoValue, TransactionOpen}

-- the number: 0, the refusal's own, or one of the library's
abbrev pub outcome_number : Outcome → ℕ
outcome_number Done = 0
outcome_number (Refused refusal) = refusal_number refusal
outcome_number NoEngine = 32
outcome_number EngineThere = 33
outcome_number BufferTooShort = 34
outcome_number ReplyKept = 35
outcome_number NoReply = 36
outcome_number AtEnd = 37
outcome_number UnknownNumber = 38
outcome_number NoKey = 39
outcome_number Restarted = 40
outcome_number NoValue = 41
outcome_number TransactionOpen = 42

-- the name
abbrev pub outcome_name : Outcome → List ℕ
outcome_name Done = codes "Done"
outcome_name (Refused refusal) = name_of refusal
outcome_name NoEngine = codes "NoEngine"
outcome_name EngineThere = codes "EngineThere"
outcome_name BufferTooShort = codes "BufferTooShort"
outcome_name ReplyKept = codes "ReplyKept"
outcome_name NoReply = codes "NoReply"
outcome_name AtEnd = codes "AtEnd"
outcome_name UnknownNumber = codes "UnknownNumber"
outcome_name NoKey = codes "NoKey"
outcome_name Restarted = codes "Restarted"
outcome_name NoValue = codes "NoValue"
outcome_name TransactionOpen = codes "TransactionOpen"

-- what a reply tells: its refusal, that the transaction begins anew, or that it is done
abbrev pub outcome_of : Reply → Outcome
outcome_of (Answered answer) = Done
outcome_of Finished = Done
outcome_of (Had all) = Done
outcome_of (Count n) = Done
outcome_of (AtLevel n) = Done
outcome_of Committed = Done
outcome_of (RestartedReply n) = Restarted
outcome_of (RefusedReply refusal) = Refused refusal
