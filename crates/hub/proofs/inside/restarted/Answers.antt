use Rattle.shared_engine.specs.laws.Told.{anew_done, anew_journal}
use Rattle.hub.proofs.inside.restarted.Goals as goal

pub returns-clause-done : goal.returns-clause-done
returns-clause-done c = let h = c.trestart-done.ensures in anew_done _ _ _ _ c.args.session.now.held c.trestart-done.new.session.held h.goes_on h.units h.session h.refused h.cause

pub returns-clause-journal : goal.returns-clause-journal
returns-clause-journal c = let h = c.trestart-done.ensures in anew_journal _ _ c.args.session.now.held c.trestart-done.new.session.held h.session h.journal
