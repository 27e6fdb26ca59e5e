-- How clauses see one reply of a list that is kept as text.
use Rattle.std.specs.Prelude.{ℕ, Bool, List, if◌then◌else◌}
use Rattle.command.specs.declared.access.Answer.{Answer}
use Rattle.command.specs.declared.access.Answer.TheVariants.{Value}
use Rattle.command.specs.declared.request.Reply.{Reply}
use Rattle.command.specs.declared.request.Reply.TheVariants.{Answered}

-- it is this reply, or this answer, or this value
abbrev pub seen_as : Bool → Reply → Bool → Answer → List ℕ → Reply
seen_as is_reply reply is_answer answer value = if is_reply then reply else Answered (if is_answer then answer else Value value)
