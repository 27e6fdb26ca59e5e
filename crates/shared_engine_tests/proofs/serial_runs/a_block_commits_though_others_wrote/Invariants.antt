use Rattle.shared_engine_tests.proofs.serial_runs.a_block_commits_though_others_wrote.Given as goal

abbrev pub ghosts-is_block_done : goal.ghosts-is_block_done
ghosts-is_block_done g a = record { table = a.blank.seat.table_id }
