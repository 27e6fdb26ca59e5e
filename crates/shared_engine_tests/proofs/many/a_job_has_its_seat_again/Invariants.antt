use Rattle.shared_engine_tests.proofs.many.a_job_has_its_seat_again.Given as goal

abbrev pub ghosts-one_job : goal.ghosts-one_job
ghosts-one_job g a = record { table = a.blank.seat.table_id }
