use Rattle.std.proofs.Common.{◌≡◌, drop}
use Rattle.live_server.specs.Desks.{all_wait}
use Rattle.live_server.proofs.standstill.do_all_wait.Given as goal

-- what is left says the same as all of them
abbrev pub invariant-jobs : goal.invariant-jobs
invariant-jobs l = all_wait l.desks (drop l.job-index l.jobs) ≡ all_wait l.desks l.jobs
