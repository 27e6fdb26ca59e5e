use Rattle.std.proofs.Common.{◌≡◌, drop}
use Rattle.collation.specs.Answers.{subtree_of}
use Rattle.globals.specs.Cuts.{front_under}
use Rattle.journal.specs.Based.{map_in}
use Rattle.job_core.specs.Noted.{noted_all}
use Rattle.job_core.proofs.noted.note_based.Given as goal

-- with what is left it will be the whole
abbrev pub invariant-loop-key : goal.invariant-loop-key
invariant-loop-key l = noted_all (front_under l.root (drop l.key-index l.key-items)) l.noted ≡ noted_all (subtree_of l.root (map_in l.base)) l.initial.noted
