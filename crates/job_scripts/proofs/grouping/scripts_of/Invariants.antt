use Rattle.std.proofs.Common.{◌≡◌, map, drop}
use Rattle.job_scripts.specs.Groups.{lines_in, nonempty, numbers_in, shown}
use Rattle.job_scripts.specs.SoFar.{AreSoFar, ArePlaces}
use Rattle.job_scripts.proofs.grouping.scripts_of.Given as goal

-- the lines so far are grouped, and with what is left they will be all
abbrev pub invariant-lines : goal.invariant-lines
invariant-lines l = record {
  places : ArePlaces l.groups.places.items (numbers_in (map shown l.groups.scripts.items));
  so_far : AreSoFar (lines_in l.fn.text) (nonempty l.line-iterator) l.groups.scripts.items;
}
