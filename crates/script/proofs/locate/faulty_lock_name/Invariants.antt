use Rattle.std.proofs.Common.{◌≤◌, length}
use Rattle.script.proofs.locate.faulty_lock_name.Given as goal

-- no more is left than there was
abbrev pub invariant-names : goal.invariant-names
invariant-names l = length l.name ≤ length l.fn.operands
