use Rattle.std.proofs.Common.{◌≡◌, ◌++◌}
use Rattle.std.specs.Prelude.{map}
use Rattle.std.specs.FinMap as finmap
use Rattle.job_core.specs.Noted.{end_values}
use Rattle.job_core.proofs.noted.list_end_values.Given as goal

-- with what is left it will be the whole
abbrev pub invariant-loop-key : goal.invariant-loop-key
invariant-loop-key g l = l.changes.items ++ map (λ e. (e.0, finmap.get (g.V.OrderedView.content l.end) e.0)) l.key-iterator ≡ end_values l.noted (g.V.OrderedView.content l.end)
