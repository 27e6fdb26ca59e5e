use Rattle.std.proofs.Common.{◌≡◌, ◌+◌, ◌∷◌, drop, ap, sym, ◌∙◌}
use Rattle.std.proofs.lemmas.List.{at_drop_more}
use Rattle.job_scripts.proofs.Written.{leads_report}
use Rattle.job_scripts.proofs.report.write_reports.Goals as goal

pub reports-preserved : goal.reports-preserved
reports-preserved g c =
    let next = c.reports.report-index + 1 in
    let steps : drop c.reports.report-index c.args.reports.now ≡ c.report-item.result ∷ drop next c.args.reports.now =
    at_drop_more (λ rs. rs) c.args.reports.now c.reports.report-index c.report-item.result c.reports-test.true ∙ ap (λ r. r ∷ drop next c.args.reports.now) (sym c.report-item.is) in
    record {
      leads = leads_report _ _ _ _ _ c.report-item.result c.text.result.now _ c.reports.invariant.leads steps c.text.ensures c.in_ok-write_text.ensures.ok;
      kept = c.in_ok-write_text.ensures.kept ∙ c.reports.invariant.kept;
    }
