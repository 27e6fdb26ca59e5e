use Rattle.job_server.specs.Telling.{Begins}
use Rattle.job_server.proofs.worker.Worker.serve_block.Given as goal

-- the transaction stands as behind its TSTART
abbrev pub invariant-tries : goal.invariant-tries
invariant-tries g l = record {
  began : Begins l.fn.job l.fn.line l.fn.run l.run;
}

-- the same
abbrev pub invariant-alone : goal.invariant-alone
invariant-alone g l = record {
  began : Begins l.fn.job l.fn.line l.fn.run l.run;
}
