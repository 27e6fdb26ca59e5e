use Rattle.std.proofs.Common.{◌≡◌, map}
use Rattle.std.specs.Vec.Iter.{into_iter_items}
use Rattle.job_scripts.specs.Groups.{numbers_in, shown}
use Rattle.job_scripts.specs.SoFar.{with_groups, ArePlaces}
use Rattle.job_scripts.proofs.halves.take_scripts.Given as goal

-- with those that are left they will be all
abbrev pub invariant-loop-script : goal.invariant-loop-script
invariant-loop-script l = record {
  places : ArePlaces l.groups.places.items (numbers_in (map shown l.groups.scripts.items));
  taken : with_groups (map shown (into_iter_items l.script-iterator)) (map shown l.groups.scripts.items) ≡ with_groups (map shown l.fn.scripts.items) (map shown l.fn.groups.scripts.items);
}
