use Rattle.shared_engine_tests.proofs.beside.transactions_begin_and_end_in_a_pause.Given as goal

abbrev pub ghosts-goes_on_beside : goal.ghosts-goes_on_beside
ghosts-goes_on_beside g a = record { table = a.blank.seat.table_id }
