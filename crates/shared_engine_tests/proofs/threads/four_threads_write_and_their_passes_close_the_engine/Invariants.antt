use Rattle.shared_engine_tests.proofs.threads.four_threads_write_and_their_passes_close_the_engine.Given as goal

abbrev pub ghosts-four_jobs : goal.ghosts-four_jobs
ghosts-four_jobs g a = record { table = a.blank.seat.table_id }
