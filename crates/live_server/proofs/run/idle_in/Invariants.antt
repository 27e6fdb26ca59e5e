use Rattle.std.proofs.Common.{◌≡◌, ℕ, true, drop}
use Rattle.script_run.specs.OpenJobs.{is_open}
use Rattle.live_server.proofs.run.idle_in.Given as goal

-- what is among those left is among all
abbrev pub invariant-jobs : goal.invariant-jobs
invariant-jobs l = (n : ℕ) → is_open n (drop l.job-index l.jobs) ≡ true → is_open n l.jobs ≡ true
