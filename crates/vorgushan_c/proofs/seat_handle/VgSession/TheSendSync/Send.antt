-- What a session owns says the same to every thread.
use mir.Raw.{raw}
use base.Fraction.{full_share}
use base.Shift.{Keyless}
use denote.Memory.{lone}
use denote.RawPtr.{Ptr, block_ptr, null_ptr}
use denote.RattleType.{RattleType}
use denote.Param.Send.{IsSend, part_keyless}
use denote.Struct.Owning.{to}
use Rattle.std.specs.declared.alloc.Global.{Global}
use Rattle.std.specs.declared.option.Option.{Option}
use Rattle.std.specs.declared.option.Option.TheVariants.{None, Some}
use Rattle.std.proofs.Crossing.{frees}
use Rattle.std.proofs.alloc.Global.TheSendSync as heap
use Rattle.vorgushan_c.specs.Held.{held}
use Rattle.vorgushan_c.specs.contracts.seat_handle.VgSession.{the_row, the_type}
use Rattle.session_calls.specs.contracts.seat.Seat as seat_of
use Rattle.session_calls.proofs.Crossing.{seat_send}

held_keyless : (R : RattleType) → IsSend R → (a : Global) (p : Ptr) (s : Option R.Denot) → Keyless (held R a p s)
held_keyless R sent a null_ptr None = tt
held_keyless R sent a null_ptr (Some x) = tt
held_keyless R sent a (block_ptr b o) None = tt
held_keyless R sent a (block_ptr b o) (Some x) = (part_keyless R sent full_share x b o, frees.frees a (raw (lone R.mir)) (block_ptr b o))

pub send : IsSend the_row
send = record { owned = λ d vs. ((λ vss. (tt, (tt, ((heap.the_field_send).owned (to the_type d).1.0 vss.1.0, tt)))), held_keyless seat_of.the_row seat_send d.alloc d.at d.inside); leaving = λ k x vs. tt }
