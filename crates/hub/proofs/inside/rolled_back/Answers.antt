use Rattle.shared_engine.specs.laws.Told.{rolled_done}
use Rattle.hub.proofs.inside.rolled_back.Goals as goal

pub returns-clause-done : goal.returns-clause-done
returns-clause-done c =
    let h = c.trollback-done.ensures in rolled_done _ _ _ _ c.args.session.now.held c.trollback-done.new.session.held c.requires.took h.goes_on h.units h.session h.refused h.cause
