use Rattle.std.proofs.Common.{◌≡◌}
use Rattle.script_run.proofs.upkeep.collect_some.Given as goal

-- no turn changes what is seen of the core
abbrev pub invariant-turns : goal.invariant-turns
invariant-turns l = l.core ≡ l.fn.core
