-- What calls of the engine are replied.
use Rattle.std.specs.Prelude.{Result, Ok, Err}
use Rattle.refusal.specs.declared.Refusal.{Refusal}
use Rattle.command.specs.declared.access.Answer.{Answer}
use Rattle.command.specs.declared.access.Answer.TheVariants.{Done}
use Rattle.command.specs.declared.request.Reply.{Reply}
use Rattle.command.specs.declared.request.Reply.TheVariants.{Committed as committed_reply, Restarted as restarted_reply, Refused}
use Rattle.shared_engine.specs.declared.locked.Ended.{Ended}
use Rattle.shared_engine.specs.declared.locked.Ended.TheVariants.{Committed, Restarted}

-- what SET and KILL in a transaction answer
abbrev pub written_as : Result (Unit {0}) Refusal → Result Answer Refusal
written_as (Ok done) = Ok Done
written_as (Err refusal) = Err refusal

-- the reply to the outermost TCOMMIT
abbrev pub ended_as : Result Ended Refusal → Reply
ended_as (Ok Committed) = committed_reply
ended_as (Ok (Restarted restarts)) = restarted_reply restarts
ended_as (Err refusal) = Refused refusal
