-- Steps for which memory was there.
use Rattle.std.specs.Prelude.{not, filter, ℕ, Bool, true, false, List, [], ◌∷◌, if◌then◌else◌}
use Rattle.refusal.specs.declared.Refusal.{Refusal}
use Rattle.refusal.specs.declared.Refusal.TheVariants.{OutOfMemory}
use Rattle.command.specs.declared.request.Command.{Command}
use Rattle.command.specs.declared.request.Reply.{Reply}
use Rattle.command.specs.declared.request.Reply.TheVariants.{Answered, Finished, Had, Count, AtLevel, Committed, Restarted, Refused}

-- memory was wanting; any other refusal has another cause
abbrev pub is_for_memory : Refusal → Bool
is_for_memory OutOfMemory = true
is_for_memory refusal = false

-- the step was answered that memory was wanting
abbrev pub is_out_of_memory : Reply → Bool
is_out_of_memory (Answered answer) = false
is_out_of_memory Finished = false
is_out_of_memory (Had had) = false
is_out_of_memory (Count n) = false
is_out_of_memory (AtLevel level) = false
is_out_of_memory Committed = false
is_out_of_memory (Restarted restarts) = false
is_out_of_memory (Refused refusal) = is_for_memory refusal

-- the steps for which memory was there
abbrev pub steps_done : List (ℕ × Command) → List Reply → List (ℕ × Command)
steps_done [] replies = []
steps_done (step ∷ steps) [] = []
steps_done (step ∷ steps) (reply ∷ replies) = if is_out_of_memory reply then steps_done steps replies else step ∷ steps_done steps replies

-- their replies
abbrev pub replies_done : List Reply → List Reply
replies_done replies = filter (λ reply. not (is_out_of_memory reply)) replies
