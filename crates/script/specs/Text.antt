-- Replies as text. Source: docs/FORMATS.md, "Replies".
-- Read reply_text, then reply_words and answer_words.
use Rattle.std.specs.Prelude.{ℕ, List, [], ◌∷◌, ◌++◌, Option, if◌then◌else◌, codes, decimal, unwrap_or}
use Rattle.refusal.specs.Refusal.{refusal_text}
use Rattle.collation.specs.Bytes as byte
use Rattle.command.specs.declared.access.Answer.{Answer}
use Rattle.command.specs.declared.access.Answer.TheVariants.{Done, Value, Number, Found}
use Rattle.command.specs.declared.request.Reply.{Reply}
use Rattle.command.specs.declared.request.Reply.TheVariants.{Answered, Finished, Had, Count, AtLevel, Committed, Restarted, Refused}
use Rattle.m_text.specs.Written.{literal_text, reference_text}

-- what is printed of an answer
abbrev pub answer_words : Answer → List ℕ
answer_words Done = codes "ok"
answer_words (Value value) = literal_text value
answer_words (Number n) = decimal n
answer_words (Found r) = reference_text r

-- what is printed of a reply
abbrev pub reply_words : Reply → List ℕ
reply_words (Answered answer) = answer_words answer
reply_words Finished = codes "ok"
reply_words (Had all) = if all then codes "1" else codes "0"
reply_words (Count n) = decimal n
reply_words (AtLevel n) = codes "level " ++ decimal n
reply_words Committed = codes "committed"
reply_words (Restarted n) = codes "restart " ++ decimal n
reply_words (Refused refusal) = codes "error " ++ refusal_text refusal

-- a reply's line: the job, or 0, a space, the reply, and byte 10
abbrev pub reply_text : Option ℕ → Reply → List ℕ
reply_text job reply = decimal (unwrap_or job 0) ++ (byte.blank ∷ (reply_words reply ++ byte.line_feed ∷ []))
