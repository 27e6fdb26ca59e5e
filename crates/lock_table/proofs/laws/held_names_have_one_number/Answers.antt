use Rattle.lock_table.proofs.Numbers.{number_tells}
use Rattle.lock_table.proofs.laws.held_names_have_one_number.Goals as goal

pub returns : goal.returns
returns c = number_tells
