use Rattle.shared_engine_tests.proofs.many.each_job_has_one_session_at_once.Given as goal

abbrev pub ghosts-all_jobs : goal.ghosts-all_jobs
ghosts-all_jobs g a = record { table = a.blank.seat.table_id }
