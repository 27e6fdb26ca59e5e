use Rattle.std.proofs.Common.{◌≡◌, drop}
use Rattle.journal.specs.History.{initial, after}
use Rattle.journal.specs.Story.{Machine}
use Rattle.script_run.specs.Output.{AreHalted}
use Rattle.script_run.proofs.open_jobs.halt_open.Given as goal

-- with the jobs left all are halted that have to be; and the database is as it was
abbrev pub invariant-jobs : goal.invariant-jobs
invariant-jobs l = record {
  halted : (t : Machine) → AreHalted (drop l.job-index l.jobs) l.core.machine t → AreHalted l.jobs l.fn.core.machine t;
  nodes : (after l.core.machine.units initial).map ≡ (after l.fn.core.machine.units initial).map;
}
