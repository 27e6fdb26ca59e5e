use Rattle.std.proofs.Common.{sym, subst, inl, arith}
use Rattle.job_core.specs.Sessions.{AreBegun, AreEmpty}
use Rattle.job_core.proofs.Opened.{are_none_open}
use Rattle.job_core.proofs.sessions.Sessions.new.Goals as goal

pub invariant_of-result : goal.invariant_of-result
invariant_of-result c = record {
  least = inl c.new.ensures;
  begun = subst (AreBegun c.new-2.result) (sym c.new.ensures) (are_none_open c.new-2.result c.new-2.ensures);
  spare = record { few = omega (arith, c.new-3.ensures.capacity); empty = subst AreEmpty (sym c.new-3.ensures.items) tt };
}
