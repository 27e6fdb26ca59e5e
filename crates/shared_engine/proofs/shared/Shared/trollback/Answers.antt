use Rattle.std.proofs.Common.{sym, ap, ◌∙◌}
use Rattle.shared_engine.specs.laws.Prefixes.{begins_itself}
use Rattle.shared_engine.specs.laws.Told.{rolled_free, rolled_done}
use Rattle.shared_engine.proofs.shared.Shared.trollback.Goals as goal

pub returns-then-took_lock : goal.returns-then-took_lock
returns-then-took_lock g c =
    let h = c.trollback-done.ensures in
    let took = ap (λ s. s.state.took_lock) c.session.view_is ∙ (sym c.took_lock.ensures ∙ c.if-took_lock.true) in
    record { done = rw (← c.session.view_is) (rolled_done _ _ _ _ c.session.inside.inner.held c.trollback-done.new.session.held took h.goes_on h.units h.session h.refused h.cause) }

pub returns : goal.returns
returns g c =
    let old = c.args.session.now in record { done = (old.seen, begins_itself old.seen, rolled_free old c.rollback_free.new.session (sym c.took_lock.ensures ∙ c.if-took_lock.false) c.rollback_free.ensures) }
