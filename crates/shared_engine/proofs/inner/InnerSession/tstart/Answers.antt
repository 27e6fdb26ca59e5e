use Rattle.std.proofs.Common.{refl, ap, arith}
use Rattle.shared_engine.proofs.Beginning.{has_begun, session_begun}
use Rattle.shared_engine.proofs.inner.InnerSession.tstart.Goals as goal

pub returns-in-Ok-clause-begun : goal.returns-in-Ok-clause-begun
returns-in-Ok-clause-begun c =
    let ok = c.in-Ok.ensures.ok in (
      c.settle.new.pin.knows.base,
      rw (← c.self.view_is)
          (has_begun c.settle.new.pin.knows.base c.self.inside.pin.knows c.settle.new.pin.knows c.self.inside.state c.begin.new.self _ c.in-Ok.ensures.same.2 ok.0 refl c.in-Ok.ensures.seen ok.1 c.begin.ensures c.in-Ok.ensures.in_journal c.in-Ok.ensures.goes_on),
    )

pub invariant_of-self : goal.invariant_of-self
invariant_of-self c =
    let same = c.in-Ok.ensures.same in
    let ok = c.in-Ok.ensures.ok in
    let t = c.begin.ensures in
    session_begun _ _ _ _ _ c.settle.new.pin.knows.base _ c.self.invariant same.0 same.1 same.2 ok.0 refl c.in-Ok.ensures.seen ok.1 (omega (arith, ap (λ s. s.level) t)) (ap (λ s. s.work) t)
