use Rattle.shared_engine_tests.proofs.rows.is_right.Given as goal

-- the board is the blank one
abbrev pub ghosts-writes : goal.ghosts-writes
ghosts-writes g a = record { table = a.blank.seat.table_id }
