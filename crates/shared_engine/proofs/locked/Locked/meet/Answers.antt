use Rattle.shared_engine.proofs.Beginning.{met_journal}
use Rattle.shared_engine.proofs.Writing.{session_met, view_met}
use Rattle.shared_engine.proofs.locked.Locked.meet.Goals as goal

pub invariant_of-session : goal.invariant_of-session
invariant_of-session c = session_met _ c.args.desk.now.knows _ _ _ c.session.invariant c.meet.ensures.met.seen c.meet.ensures.pin

pub returns-clause-same : goal.returns-clause-same
returns-clause-same c = rw (← c.session.view_is) (view_met _ c.args.desk.now.knows c.session.inside.state c.session.inside.pin.knows _ c.meet.ensures.pin c.requires.stands.log)

pub returns-clause-journal : goal.returns-clause-journal
returns-clause-journal c = rw (← c.session.view_is) (met_journal _ _ _ _ c.journal.ensures.legal c.requires.stands.log c.meet.ensures.met)
