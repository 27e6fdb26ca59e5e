use Rattle.std.proofs.Common.{◌≤◌, length}
use Rattle.script.proofs.locate.Look.lock_names.Given as goal

-- no more is left than there was
abbrev pub invariant-names : goal.invariant-names
invariant-names l = length l.self.rest.now ≤ length l.fn.self.rest.now
