use Rattle.live_server.proofs.live.still_waits.Goals as goal

pub returns-then-is_due : goal.returns-then-is_due
returns-then-is_due c = λ _ _. c.if-is_due.true

pub returns-else-is_due : goal.returns-else-is_due
returns-else-is_due c = λ none had. absurd (c.is_blocked.ensures.had none had)
