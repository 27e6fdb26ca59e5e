use Rattle.shared_engine.specs.Sessions.{begun_anew}
use Rattle.shared_engine.specs.Blocks.{HasCome}
use Rattle.shared_engine.specs.laws.Told.{anew_come, anew_refused, anew_cause}
use Rattle.shared_engine.proofs.shared.Shared.trestart_serially.Goals as goal

pub returns-clause-come : goal.returns-clause-come
returns-clause-come g c =
    let h = c.trestart_serially-done.ensures in
    let old = c.session.inside.inner.held in
    let new = c.trestart_serially-done.new.session.held in
    rw (← c.session.view_is) (anew_come _ _ _ old new (λ units more run. HasCome c.args.musts.now c.args.block.items run units more (begun_anew units old) new) h.goes_on h.journal h.seen h.come)

pub returns-clause-refused : goal.returns-clause-refused
returns-clause-refused g c = let h = c.trestart_serially-done.ensures in rw (← c.session.view_is) (anew_refused _ _ _ c.session.inside.inner.held c.trestart_serially-done.new.session.held h.goes_on h.refused)

pub returns-clause-cause : goal.returns-clause-cause
returns-clause-cause g c = let h = c.trestart_serially-done.ensures in anew_cause _ _ _ c.session.inside.inner.held c.trestart_serially-done.new.session.held h.refused h.cause
