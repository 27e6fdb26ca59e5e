use Rattle.shared_engine_tests.proofs.holds.holds_tell_each_line.Given as goal

abbrev pub ghosts-both_kinds : goal.ghosts-both_kinds
ghosts-both_kinds g a = record { table = a.blank.seat.table_id }
