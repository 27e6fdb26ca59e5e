use Rattle.std.proofs.Common.{sym, ap, refl, ◌∙◌, arith}
use Rattle.shared_engine.specs.Sessions.{Held}
use Rattle.job_server.proofs.Answering.{ok_that}
use Rattle.job_server.proofs.Stepped.{inner_stepped, outer_stepped}
use Rattle.job_server.proofs.job_run.Calls.start.Goals as goal

pub returns-then-tlevel-gt0 : goal.returns-then-tlevel-gt0
returns-then-tlevel-gt0 g c =
    inner_stepped c.tstart_inner.result c.args.session.now c.tstart_inner.new.self (omega (arith, c.tlevel.ensures, c.if-tlevel-gt0.true)) c.tstart_inner.ensures.deeper c.tstart_inner.ensures.refused

pub returns-then-is_ok : goal.returns-then-is_ok
returns-then-is_ok g c =
    outer_stepped c.args.session.now c.tstart.new.session c.tries.session 1 c.tries.invariant.same refl (sym (ap (λ (h : Held). h.state.level) c.tries.invariant.same) ∙ c.tries.invariant.none)
    (ok_that c.tstart.result c.tstart.ensures.begun (sym c.is_ok.ensures.value ∙ c.if-is_ok.true))
