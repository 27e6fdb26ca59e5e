use Rattle.std.proofs.Common.{◌≡◌}
use Rattle.shared_engine.proofs.shared.Shared.lock_within_later.Given as goal

-- nothing is done until a try has the names
abbrev pub invariant-tries : goal.invariant-tries
invariant-tries g l = l.session ≡ l.fn.session
