use Rattle.shared_engine_tests.proofs.waits.a_gate_is_called_without_the_lock.Given as goal

abbrev pub ghosts-waits : goal.ghosts-waits
ghosts-waits g a = record { table = a.blank.seat.table_id }
