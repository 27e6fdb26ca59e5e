use Rattle.std.proofs.Common.{ap}
use Rattle.job_scripts.specs.Reports.{reports_text}
use Rattle.job_server.proofs.Reading.{begun_then, whole_then}
use Rattle.job_server.proofs.run.write_served.Goals as goal

pub returns-clause-err : goal.returns-clause-err
returns-clause-err g c = begun_then c.write_ending.result _ _ _ _ _ _ (ap reports_text c.as_slice.ensures.value) c.in_ok-write_reports.ensures.ok c.write_ending.ensures.err

pub returns-clause-replies : goal.returns-clause-replies
returns-clause-replies g c = whole_then c.write_ending.result _ _ _ _ _ _ _ (ap reports_text c.as_slice.ensures.value) c.in_ok-write_reports.ensures.ok c.write_ending.ensures.err
