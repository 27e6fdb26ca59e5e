use Rattle.refused_memory.proofs.sessions.difference.Given as goal

-- the board is the blank one
abbrev pub ghosts-run : goal.ghosts-run
ghosts-run g a = record { table = a.blank.seat.table_id }
