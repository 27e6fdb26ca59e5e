use Rattle.m_text.specs.laws.Literal.{literal_found, literal_read}
use Rattle.m_text.specs.laws.Written.{literal_form, literal_again}
use Rattle.m_text.specs.laws.Runs.{runs_are_runs, runs_joined}
use Rattle.m_text.proofs.laws.literals_are_read_as_spelled.Goals as goal

pub returns-clause-found : goal.returns-clause-found
returns-clause-found c = λ bytes s rest e. let f = literal_found bytes s rest e in (f.text, f.form, f.parts)

pub returns-clause-again : goal.returns-clause-again
returns-clause-again c = literal_read

pub returns-clause-written : goal.returns-clause-written
returns-clause-written c = literal_form

pub returns-clause-round_trip : goal.returns-clause-round_trip
returns-clause-round_trip c = literal_again

pub returns-clause-runs : goal.returns-clause-runs
returns-clause-runs c = λ s. (runs_are_runs s, runs_joined s)
