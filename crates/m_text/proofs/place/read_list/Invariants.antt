use Rattle.std.proofs.Common.{◌-◌, length}
use Rattle.collation.specs.Reference.{Reference}
use Rattle.key_codec.specs.Draft.{IsDraft}
use Rattle.m_text.proofs.Drafted.{Stands}
use Rattle.m_text.proofs.place.read_list.Given as goal

-- what is read of the rest goes on with what is read so far
abbrev pub invariant-subscripts : goal.invariant-subscripts
invariant-subscripts l = (r : Reference) → IsDraft l.fn.draft r → Stands l.draft r (length l.text - l.counter) l.rest l.text
