use Rattle.canonic_number.specs.laws.Classes.{equal_texts}
use Rattle.canonic_number.proofs.laws.equal_values_are_equal_texts.Goals as goal

pub returns : goal.returns
returns c = equal_texts
