use Rattle.std.proofs.Common.{sym, ap, subst}
use Rattle.job_core.specs.Cores.{Cored}
use Rattle.serial.specs.Soundness.{IsGood}
use Rattle.script_run.specs.laws.Good.{good_start}
use Rattle.live_server.proofs.live.Live.new.Goals as goal

pub returns-in-Ok-new-clause-new : goal.returns-in-Ok-new-clause-new
returns-in-Ok-new-clause-new c = record {
  good = subst IsGood (ap (λ (core : Cored). core.machine) (sym c.in-Ok-new.ensures.core)) (good_start _ c.requires.legal c.requires.closed);
  jobs = c.in-Ok-new.ensures.jobs;
  out = c.in-Ok-new.ensures.out;
  outcome = c.in-Ok-new.ensures.outcome;
  desks = c.in-Ok.ensures;
}
