-- Replies by job as text. Source: docs/FORMATS.md, "Replies".
use Rattle.std.specs.Prelude.{◌≡◌, ℕ, Bool, List, ◌++◌, Option}
use Rattle.std.specs.List.{flat_map, list_any}
use Rattle.command.specs.declared.request.Reply.{Reply}
use Rattle.command.specs.Replies.{is_refused}
use Rattle.script.specs.Text.{reply_text}

-- a job, or none, and the replies to its lines, in order
pub record Answers : Type 0 where
  pub job : Option ℕ
  pub replies : List Reply

abbrev pub answers : Option ℕ → List Reply → Answers
answers job replies = record { job = job; replies = replies }

-- with more replies behind them
abbrev pub and_replies : Answers → List Reply → Answers
and_replies a more = answers a.job (a.replies ++ more)

-- the replies are those before and more
abbrev pub GoesOnFrom : List Reply → List Reply → Type 0
GoesOnFrom old new = (more : List Reply) × (new ≡ old ++ more)

-- the lines of its replies
abbrev pub report_text : Answers → List ℕ
report_text a = flat_map (reply_text a.job) a.replies

-- the lines of all replies, report by report
abbrev pub reports_text : List Answers → List ℕ
reports_text reports = flat_map report_text reports

-- a reply is a refusal
abbrev pub some_refused : Answers → Bool
some_refused a = list_any is_refused a.replies
