use Rattle.std.proofs.Common.{drop}
use Rattle.journal.specs.Based.{map_in}
use Rattle.job_core.proofs.Between.{EachPassed}
use Rattle.job_core.proofs.noted.note_each.Given as goal

abbrev pub invariant-loop-exchange : goal.invariant-loop-exchange
invariant-loop-exchange g l = EachPassed l.noted l.initial.noted (map_in l.base) (g.V.OrderedView.content l.end) (drop l.exchange-index l.exchanges) l.exchanges
