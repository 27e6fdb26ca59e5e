use Rattle.std.proofs.Common.{ℕ, subst}
use Rattle.std.proofs.lemmas.Result.{IfOk-at_ok}
use Rattle.job_server.specs.Served.{IsReportAt}
use Rattle.job_server.proofs.Handing.{one_more}
use Rattle.job_server.proofs.serving.Handed.take.Goals as goal

pub returns : goal.returns
returns g c =
    let old = c.args.self.now in
    let ran = c.in_ok-ran.ran in
    let scripts = g.B.Batch.scripts in
    λ h. one_more scripts c.args.place c.args.since old.reports.items c.push.new.self.items old.passes.items c.append.new.self.items ran.passes.items ran.report h
    (subst (λ (since : ℕ). ∥ IsReportAt scripts c.args.place since ran.report ran.passes.items ∥₁) c.if-done-since.false
    (subst (λ (place : ℕ). ∥ IsReportAt scripts place c.in-Some.done.since ran.report ran.passes.items ∥₁) c.if-done-place.false
    (IfOk-at_ok (λ r. ∥ IsReportAt scripts c.in-Some.done.place c.in-Some.done.since r.report r.passes.items ∥₁) c.in_ok-ran.was c.in-Some.done.told)))
    c.in_ok-push.ensures.items c.in_ok-append.ensures.items
