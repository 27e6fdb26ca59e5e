use Rattle.globals.specs.laws.Telling.{query_tells}
use Rattle.globals.proofs.laws.query_answers_the_nearest_node.Goals as goal

pub returns : goal.returns
returns c = query_tells
