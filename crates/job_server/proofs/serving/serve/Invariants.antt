use Rattle.std.proofs.Common.{map}
use Rattle.job_scripts.specs.Groups.{shown}
use Rattle.job_server.proofs.serving.serve.Given as goal

-- the board is the blank one, and the scripts are these
abbrev pub ghosts-load_and_serve-B-BoardName : goal.ghosts-load_and_serve-B-BoardName
ghosts-load_and_serve-B-BoardName g a = record { table = a.blank.seat.table_id }

abbrev pub ghosts-load_and_serve-B-Batch : goal.ghosts-load_and_serve-B-Batch
ghosts-load_and_serve-B-Batch g a = record { scripts = map shown a.scripts.items }
