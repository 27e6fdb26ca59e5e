use Rattle.m_text.specs.Place.{spot_fault, spot_of}
use Rattle.script.proofs.Due.{due_other}
use Rattle.script.proofs.finish.order.Goals as goal

pub returns-in-Err : goal.returns-in-Err
returns-in-Err c = λ r is. due_other c.in-Err.refusal (spot_fault (spot_of r)) (spot_of r) _ (c.in-Err.ensures r is)
