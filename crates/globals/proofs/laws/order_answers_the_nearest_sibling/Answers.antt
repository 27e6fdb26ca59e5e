use Rattle.globals.specs.laws.Telling.{order_tells}
use Rattle.globals.proofs.laws.order_answers_the_nearest_sibling.Goals as goal

pub returns : goal.returns
returns c = order_tells
