use Rattle.std.proofs.Common.{◌≡◌}
use Rattle.collation.specs.Answers.{subtree_of}
use Rattle.job_core.specs.Noted.{noted_all}
use Rattle.job_core.proofs.noted.note_ended.Given as goal

-- with what is left it will be the whole
abbrev pub invariant-loop-key : goal.invariant-loop-key
invariant-loop-key g l = noted_all l.key-iterator l.noted ≡ noted_all (subtree_of l.root (g.V.OrderedView.content l.end)) l.initial.noted
