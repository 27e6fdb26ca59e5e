use Rattle.shared_engine.proofs.shared.Shared.try_halt.Goals as goal

pub returns-in-Ok-clause-pass : goal.returns-in-Ok-clause-pass
returns-in-Ok-clause-pass g c = rw (← c.session.view_is) (_, c.in-Ok.ensures.pass.0, c.in-Ok.ensures.pass.1)
