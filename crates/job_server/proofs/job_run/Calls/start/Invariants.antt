use Rattle.std.proofs.Common.{◌≡◌}
use Rattle.job_server.proofs.job_run.Calls.start.Given as goal

-- no transaction is open, and nothing has changed
abbrev pub invariant-tries : goal.invariant-tries
invariant-tries g l = record {
  none : l.session.state.level ≡ 0;
  same : l.session ≡ l.fn.session;
}
