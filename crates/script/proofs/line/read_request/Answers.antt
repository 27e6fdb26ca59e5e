use Rattle.std.proofs.Common.{◌≡◌, sym, subst, ap, Result, Err, ◌∙◌}
use Rattle.script.proofs.Judging.{bad_job, read, faulty}
use Rattle.refusal.specs.declared.Refusal.{Refusal}
use Rattle.refusal.specs.declared.Refusal.TheVariants.{OutOfMemory}
use Rattle.command.specs.declared.request.Command.{Command}
use Rattle.script.specs.Line.{HasOperands, IsRefusalOf, job_of_line}
use Rattle.script.specs.Sentence.{IsOfOperands}
use Rattle.script.specs.declared.line.LineFault.{LineFault}
use Rattle.script.proofs.line.read_request.Goals as goal

pub returns-in_default-clause-request : goal.returns-in_default-clause-request
returns-in_default-clause-request c =
    let spelled = c.in-Ok.ensures.reading c.args.line.now (sym c.split_digits.ensures.digits) (sym c.split_digits.ensures.rest) in
    let job = c.printed_job-job.ensures c.args.line.now (sym c.split_digits.ensures.digits) (sym c.split_digits.ensures.rest) in
    subst (λ (fault : LineFault). IsRefusalOf c.args.line.now fault.refusal × (fault.job ≡ job_of_line c.args.line.now))
    (sym c.refuse-in_default.ensures.fault)
    (bad_job c.args.line.now spelled.0 spelled.1 (sym job ∙ c.in_default.is), job)

pub returns-clause-request : goal.returns-clause-request
returns-clause-request c =
    let spelled = c.in-Ok.ensures.reading c.args.line.now (sym c.split_digits.ensures.digits) (sym c.split_digits.ensures.rest) in
    let job = sym (c.printed_job-job.ensures c.args.line.now (sym c.split_digits.ensures.digits) (sym c.split_digits.ensures.rest)) ∙ c.in-Some.is in
    record { command = spelled.0; read = spelled.1; said = spelled.2; owner = job; operands = c.in-Ok.ensures.operands c.args.line.now (sym c.split_digits.ensures.digits) (sym c.split_digits.ensures.rest) }
