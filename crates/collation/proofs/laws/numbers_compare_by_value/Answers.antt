use Rattle.collation.proofs.Subscripts.{numbers_by_value}
use Rattle.collation.proofs.laws.numbers_compare_by_value.Goals as goal

pub returns : goal.returns
returns c = numbers_by_value
