use Rattle.shared_engine_tests.proofs.serial_runs.a_block_ends_at_a_blocked_lock_that_has_to_have_its_names.Given as goal

abbrev pub ghosts-is_block_cut : goal.ghosts-is_block_cut
ghosts-is_block_cut g a = record { table = a.blank.seat.table_id }
