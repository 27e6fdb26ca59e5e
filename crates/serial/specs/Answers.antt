-- What a line is replied and leaves, by what was read of it: a job's command, or why it is refused.
use Rattle.std.specs.Prelude.{◌≡◌, ◌⊎◌, ℕ, Result, Ok, Err}
use Rattle.refusal.specs.declared.Refusal.{Refusal}
use Rattle.refusal.specs.declared.Refusal.TheVariants.{OutOfMemory}
use Rattle.command.specs.declared.request.Command.{Command}
use Rattle.command.specs.declared.request.Reply.{Reply}
use Rattle.command.specs.declared.request.Reply.TheVariants.{Refused}
use Rattle.journal.specs.Story.{Machine, told}
use Rattle.serial.specs.Machine.{IsReply}

-- what asks something gets a reply of the machine, what asks nothing its refusal
abbrev pub IsReplyDue : Machine → Result (ℕ × Command) Refusal → Reply → Type 0
IsReplyDue s (Ok step) reply = IsReply step.0 step.1 reply s
IsReplyDue s (Err refusal) reply = reply ≡ Refused refusal

-- it gets that, or, only where to read it may take memory, the refusal of memory
abbrev pub IsReplyOrMemory : Type 0 → Machine → Result (ℕ × Command) Refusal → Reply → Type 0
IsReplyOrMemory MayTakeMemory s asked reply = IsReplyDue s asked reply ⊎ ((reply ≡ Refused OutOfMemory) × MayTakeMemory)

-- what it and its reply change
abbrev pub told_by : Result (ℕ × Command) Refusal → Reply → Machine → Machine
told_by (Ok step) reply s = told step.0 step.1 reply s
told_by (Err refusal) reply s = s
