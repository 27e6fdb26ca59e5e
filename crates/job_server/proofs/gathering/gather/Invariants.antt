use Rattle.std.proofs.Common.{◌≡◌, ◌≤◌, ◌∷◌, [], length}
use Rattle.std.specs.Prelude.{None, take}
use Rattle.std.specs.List.{All}
use Rattle.shared_engine.specs.Holds.{IsSet}
use Rattle.job_scripts.specs.Lines.{lent_lines}
use Rattle.job_server.specs.declared.gathering.Way.TheVariants.{Sets}
use Rattle.job_server.proofs.OneMore.{AreSoFar}
use Rattle.job_server.proofs.gathering.gather.Given as goal

-- the lines so far stand in the hold
abbrev pub invariant-lines : goal.invariant-lines
invariant-lines l = record {
  so_far : AreSoFar l.fn.job (l.fn.line.text.now ∷ lent_lines l.fn.line.next.lines.now) (lent_lines l.front.rest.now) l.most l.hold;
  fewer : length l.front.rest.now ≤ length l.fn.line.next.lines.now;
  sets : l.fn.way ≡ Sets → All IsSet l.hold.commands;
  way : l.front.way ≡ l.fn.way;
  accepted : take 1 l.hold.places ≡ None ∷ [];
}

abbrev pub decreases-lines : goal.decreases-lines
decreases-lines l = length l.front.rest.now
