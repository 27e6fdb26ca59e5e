use Rattle.shared_engine.proofs.Blocks.{come_anew}
use Rattle.shared_engine.proofs.locked.Locked.trestart_serially.Goals as goal

pub returns-in-Ok-trestart-clause-come : goal.returns-in-Ok-trestart-clause-come
returns-in-Ok-trestart-clause-come c =
    let h = c.in-Ok-trestart.ensures in
    come_anew _ _ _ _ _ _ c.args.session.now.held _ _ h.units h.session.0 c.run_alone.ensures.come
