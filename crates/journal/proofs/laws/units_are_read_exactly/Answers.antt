use Rattle.journal.specs.laws.Exact.{units_exact}
use Rattle.journal.proofs.laws.units_are_read_exactly.Goals as goal

pub returns : goal.returns
returns c = units_exact
