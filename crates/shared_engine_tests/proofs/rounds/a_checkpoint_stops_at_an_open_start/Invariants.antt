use Rattle.shared_engine_tests.proofs.rounds.a_checkpoint_stops_at_an_open_start.Given as goal

abbrev pub ghosts-bases_of : goal.ghosts-bases_of
ghosts-bases_of g a = record { table = a.blank.seat.table_id }
