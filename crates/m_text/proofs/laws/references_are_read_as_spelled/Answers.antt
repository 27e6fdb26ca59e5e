use Rattle.m_text.specs.laws.Place.{place_found, place_read}
use Rattle.m_text.specs.laws.Written.{reference_again}
use Rattle.m_text.proofs.laws.references_are_read_as_spelled.Goals as goal

pub returns-clause-found : goal.returns-clause-found
returns-clause-found c = λ bytes r rest e. let f = place_found bytes r rest e in (f.text, f.form, f.parts)

pub returns-clause-again : goal.returns-clause-again
returns-clause-again c = place_read

pub returns-clause-round_trip : goal.returns-clause-round_trip
returns-clause-round_trip c = reference_again
