use Rattle.shared_engine.proofs.Waiting.{first_try, first_had, had_within, blocked_within, refused_later}
use Rattle.shared_engine.proofs.shared.Shared.lock_within.Goals as goal

pub returns-then-branch-clause-had : goal.returns-then-branch-clause-had
returns-then-branch-clause-had g c = first_had _ _ _ _ c.if-branch.true c.in_ok-lock_first.ensures.tried

pub returns-clause-had : goal.returns-clause-had
returns-clause-had g c = had_within _ _ _ _ _ (first_try _ _ _ _ c.if-branch.false c.in_ok-lock_first.ensures.tried) c.lock_within_later.ensures.had

pub returns-clause-blocked : goal.returns-clause-blocked
returns-clause-blocked g c = blocked_within _ _ _ _ _ (first_try _ _ _ _ c.if-branch.false c.in_ok-lock_first.ensures.tried) c.lock_within_later.ensures.blocked

pub returns-clause-refused : goal.returns-clause-refused
returns-clause-refused g c = refused_later _ _ _ _ _ (first_try _ _ _ _ c.if-branch.false c.in_ok-lock_first.ensures.tried) c.lock_within_later.ensures.refused
