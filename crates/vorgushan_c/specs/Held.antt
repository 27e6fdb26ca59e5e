-- What an engine in memory of C's owns.
use Rattle.std.specs.Prelude.{Option, Some, None}
use base.Fml.{Fml, ftrue, ffalse}
use denote.RattleType.{RattleType}
use denote.RawPtr.{Ptr, block_ptr, null_ptr}
use Rattle.std.specs.Box.Ownership.{box_owns}
use Rattle.std.specs.declared.alloc.Global.{Global}
use Rattle.std.specs.contracts.impls.GlobalAllocator.TheImpl.{ghosts}

-- nothing at null; elsewhere the box there, and the right to free it
abbrev pub held : (R : RattleType) → Global → Ptr → Option R.Denot → Fml
held R a null_ptr None = ftrue
held R a null_ptr (Some x) = ffalse
held R a (block_ptr b o) None = ffalse
held R a (block_ptr b o) (Some x) = box_owns (ghosts.dealloc_token a) R (block_ptr b o) x
