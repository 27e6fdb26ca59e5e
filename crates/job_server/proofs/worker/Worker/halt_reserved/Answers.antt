use Rattle.std.proofs.Common.{refl, sym, ◌∙◌, inr}
use Rattle.job_server.specs.Steps.{past}
use Rattle.job_server.proofs.GoingOn.{halt_refused}
use Rattle.job_server.proofs.Ending.{some_halted}
use Rattle.job_server.proofs.worker.Worker.halt_reserved.Goals as goal

pub returns-in-Ok-clause-told : goal.returns-in-Ok-clause-told
returns-in-Ok-clause-told g c = λ job since.
    some_halted job since c.args.passes.now.items c.push_reserved.new.self.items c.args.session.now c.take.new.self c.in-Some.begun c.in-Ok.pass (sym c.take.ensures.value ∙ c.in-Some.is) c.take.ensures.after c.in-Ok.ensures.pass c.push_reserved.ensures.items

pub returns-in-Err-clause-told : goal.returns-in-Err-clause-told
returns-in-Err-clause-told g c = λ job since.
    halt_refused job (past since c.args.passes.now.items) (past since c.args.passes.now.items) c.args.session.now _ c.in-Some.begun c.in-Err.begun c.in-Err.refusal refl (sym c.take.ensures.value ∙ c.in-Some.is) refl c.in-Err.ensures.refused.0 c.in-Err.ensures.refused.1 (inr c.in-Err.ensures.cause)
