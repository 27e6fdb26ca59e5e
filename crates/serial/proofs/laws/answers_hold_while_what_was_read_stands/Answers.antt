use Rattle.std.specs.Prelude.{false}
use Rattle.serial.specs.laws.Rereading.{right_on_both}
use Rattle.serial.proofs.laws.answers_hold_while_what_was_read_stands.Goals as goal

pub returns : goal.returns
returns c es m n read right = right_on_both es (λ y. false) m n (λ x f. absurd (cc)) read right
