use Rattle.std.proofs.Common.{◌≤◌, length}
use Rattle.script.proofs.locate.Look.subscripts.Given as goal

-- no more is left than there was
abbrev pub invariant-subscripts : goal.invariant-subscripts
invariant-subscripts l = length l.self.rest.now ≤ length l.fn.self.rest.now
