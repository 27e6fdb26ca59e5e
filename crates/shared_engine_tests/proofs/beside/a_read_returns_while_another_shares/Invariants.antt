use Rattle.shared_engine_tests.proofs.beside.a_read_returns_while_another_shares.Given as goal

abbrev pub ghosts-goes_on_beside : goal.ghosts-goes_on_beside
ghosts-goes_on_beside g a = record { table = a.blank.seat.table_id }
