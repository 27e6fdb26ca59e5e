use Rattle.m_text.specs.laws.Faults.{place_answers}
use Rattle.script.proofs.finish.place_of.Goals as goal

pub returns : goal.returns
returns c = λ r is. place_answers r c.place.result (c.place.ensures.ok r is) (c.place.ensures.err r is)
