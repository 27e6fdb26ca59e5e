use Rattle.std.proofs.Common.{ap}
use Rattle.std.proofs.lemmas.Result.{on_ok_weaker}
use Rattle.job_scripts.specs.Reports.{Answers}
use Rattle.job_server.proofs.Refusing.{refuses_line}
use Rattle.job_server.proofs.worker.refuse_line.Goals as goal

pub returns : goal.returns
returns c = on_ok_weaker c.push_refused.result
    (λ pushed rest. refuses_line c.args.line.now rest c.refusal_of-refusal.result c.args.replies.now.replies c.push_refused.new.self.replies (c.refusal_of-refusal.ensures c.args.line.now c.read_line.ensures.reading)
    (ap (λ (a : Answers). a.replies) pushed)) c.push_refused.ensures.ok
