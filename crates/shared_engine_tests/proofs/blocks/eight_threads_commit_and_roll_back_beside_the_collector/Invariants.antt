use Rattle.shared_engine_tests.proofs.blocks.eight_threads_commit_and_roll_back_beside_the_collector.Given as goal

abbrev pub ghosts-eight_jobs : goal.ghosts-eight_jobs
ghosts-eight_jobs g a = record { table = a.blank.seat.table_id }
