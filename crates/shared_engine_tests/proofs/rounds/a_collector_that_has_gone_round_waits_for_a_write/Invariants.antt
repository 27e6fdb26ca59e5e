use Rattle.shared_engine_tests.proofs.rounds.a_collector_that_has_gone_round_waits_for_a_write.Given as goal

abbrev pub ghosts-turns : goal.ghosts-turns
ghosts-turns g a = record { table = a.blank.seat.table_id }
