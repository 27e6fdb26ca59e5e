use Rattle.std.proofs.Common.{◌≡◌, drop}
use Rattle.job_scripts.specs.Reports.{reports_text}
use Rattle.job_scripts.proofs.Written.{Leads}
use Rattle.job_scripts.proofs.report.write_reports.Given as goal

-- with the reports that are left all will be written
abbrev pub invariant-reports : goal.invariant-reports
invariant-reports g l = record {
  leads : Leads (g.W.Write.contents l.fn.writer.inner) (g.W.Write.contents l.writer.inner) (reports_text (drop l.report-index l.reports)) (reports_text l.reports);
  kept : l.writer.failures ≡ l.fn.writer.failures;
}
