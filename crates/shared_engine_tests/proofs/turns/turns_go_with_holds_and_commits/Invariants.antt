use Rattle.shared_engine_tests.proofs.turns.turns_go_with_holds_and_commits.Given as goal

abbrev pub ghosts-are_taken_by_two : goal.ghosts-are_taken_by_two
ghosts-are_taken_by_two g a = record { table = a.blank.seat.table_id }
