use Rattle.collector.proofs.NextLemmas.{among_turn, distinct_turn}
use Rattle.collector.proofs.laws.placed_references_are_in_turn_once.Goals as goal

pub returns-clause-placed : goal.returns-clause-placed
returns-clause-placed c = among_turn

pub returns-clause-once : goal.returns-clause-once
returns-clause-once c = distinct_turn
