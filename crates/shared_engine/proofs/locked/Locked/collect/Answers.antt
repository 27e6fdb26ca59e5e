use Rattle.shared_engine.proofs.locked.Locked.collect.Goals as goal

pub returns-clause-turn : goal.returns-clause-turn
returns-clause-turn c = (_, c.in_ok-turn.ensures.turn)
