use Rattle.shared_engine_tests.proofs.threads.a_start_is_kept_while_a_collector_goes_round.Given as goal

abbrev pub ghosts-open_throughout : goal.ghosts-open_throughout
ghosts-open_throughout g a = record { table = a.blank.seat.table_id }
