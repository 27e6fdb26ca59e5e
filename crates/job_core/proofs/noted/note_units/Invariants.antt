use Rattle.std.proofs.Common.{◌-◌}
use Rattle.journal.specs.Based.{map_in}
use Rattle.job_core.proofs.Between.{UnitsPassed}
use Rattle.job_core.proofs.noted.note_units.Given as goal

abbrev pub invariant-loop : goal.invariant-loop
invariant-loop g l = UnitsPassed (l.fn.count - l.counter) l.units l.noted l.fn.noted (map_in l.base) (g.V.OrderedView.content l.end) l.fn.count l.fn.units
