use Rattle.journal.specs.laws.Adopted.{adopted_legal, adopted_number, adopted_state, adopted_tally}
use Rattle.journal.proofs.laws.adopted_units_leave_the_database.Goals as goal

pub returns-clause-legal : goal.returns-clause-legal
returns-clause-legal c = adopted_legal

pub returns-clause-number : goal.returns-clause-number
returns-clause-number c = adopted_number

pub returns-clause-state : goal.returns-clause-state
returns-clause-state c = adopted_state

pub returns-clause-tallies : goal.returns-clause-tallies
returns-clause-tallies c = adopted_tally
