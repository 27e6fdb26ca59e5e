use Rattle.shared_engine_tests.proofs.ahead.gets_that_find_the_lock_taken_are_told_what_is_there.Given as goal

abbrev pub ghosts-both : goal.ghosts-both
ghosts-both g a = record { table = a.blank.seat.table_id }
