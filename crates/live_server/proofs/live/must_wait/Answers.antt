use Rattle.live_server.proofs.live.must_wait.Goals as goal

pub returns-then-is_blocked-clause-waits : goal.returns-then-is_blocked-clause-waits
returns-then-is_blocked-clause-waits c = λ _. c.is_blocked.ensures.lock c.if-is_blocked.true

pub returns-then-is_blocked-clause-told : goal.returns-then-is_blocked-clause-told
returns-then-is_blocked-clause-told c = λ none _. c.is_patient.ensures none

pub returns-else-is_blocked-clause-waits : goal.returns-else-is_blocked-clause-waits
returns-else-is_blocked-clause-waits c = λ e. absurd cc

pub returns-else-is_blocked-clause-told : goal.returns-else-is_blocked-clause-told
returns-else-is_blocked-clause-told c = λ _ had. absurd (c.is_blocked.ensures.had c.if-is_blocked.false had)
