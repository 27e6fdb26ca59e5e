use Rattle.std.proofs.Common.{◌-◌, List, length}
use Rattle.collation.specs.Reference.{Resource}
use Rattle.script.specs.Sentence.{AreNamed}
use Rattle.script.proofs.Naming.{Stands}
use Rattle.script.proofs.lock.read_list.Given as goal

-- what is read of the rest goes on with what is read so far
abbrev pub invariant-names : goal.invariant-names
invariant-names l = (ns : List Resource) → AreNamed l.fn.names ns → Stands l.names ns (length l.text - l.counter) l.rest l.text
