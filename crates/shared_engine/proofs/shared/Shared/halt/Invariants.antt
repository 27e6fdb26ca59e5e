use Rattle.std.proofs.Common.{◌≡◌}
use Rattle.shared_engine.proofs.shared.Shared.halt.Given as goal

-- nothing is done until a try ends it
abbrev pub invariant-tries : goal.invariant-tries
invariant-tries g l = l.held ≡ l.fn.session
