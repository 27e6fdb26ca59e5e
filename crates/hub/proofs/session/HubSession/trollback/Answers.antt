use Rattle.std.proofs.Common.{sym, ◌∙◌}
use Rattle.hub.proofs.Told.{on_err}
use Rattle.shared_engine.specs.laws.Prefixes.{begins_itself}
use Rattle.shared_engine.specs.laws.Told.{rolled_free}
use Rattle.hub.proofs.session.HubSession.trollback.Goals as goal

pub returns-clause-done : goal.returns-clause-done
returns-clause-done c =
    let old = c.args.self.now.held in (old.seen, begins_itself old.seen, rolled_free old c.rollback_free.new.self.held (sym c.took_lock.ensures ∙ c.if-took_lock.false) c.rollback_free.ensures.ended)

pub returns-then-took_lock-clause-done : goal.returns-then-took_lock-clause-done
returns-then-took_lock-clause-done c = rw (← c.self.view_is) c.rolled_back-done.ensures.done

pub returns-then-took_lock-clause-took : goal.returns-then-took_lock-clause-took
returns-then-took_lock-clause-took c = on_err _ (sym c.took_lock.ensures ∙ c.if-took_lock.true)
