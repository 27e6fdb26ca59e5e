use Rattle.std.proofs.Common.{refl, ap, arith}
use Rattle.pin_board.specs.declared.view.PinView.{PinView}
use Rattle.shared_engine.proofs.Beginning.{has_begun, session_begun}
use Rattle.shared_engine.proofs.locked.Locked.serial_start.Goals as goal

pub returns-clause-outside : goal.returns-clause-outside
returns-clause-outside c =
    let settled = c.settle_now-now.ensures.pin in λ none. (
      refl,
      (
        refl,
        rw (← c.session.view_is, ← c.requires.stands.log)
            (has_begun _ c.session.inside.pin.knows c.settle_now-now.new.pin.knows c.session.inside.state c.begin.new.self _
            (ap (λ (p : PinView). p.mine) settled)
            (ap (λ (p : PinView). p.settled) settled)
            (ap (λ (p : PinView). p.base) settled)
            (ap (λ (p : PinView). p.seen) settled)
            c.settle_now-now.ensures.start
            c.begin.ensures
            c.settle_now-now.ensures.met.mine
            c.settle_now-now.ensures.met.seen),
      ),
    )

pub invariant_of-session : goal.invariant_of-session
invariant_of-session c =
    let settled = c.settle_now-now.ensures.pin in
    let t = c.begin.ensures in
    session_begun _ _ c.session.inside.pin.knows _ _ _ _ c.session.invariant
    (ap (λ (p : PinView). p.place) settled)
    (ap (λ (p : PinView). p.slips) settled)
    (ap (λ (p : PinView). p.mine) settled)
    (ap (λ (p : PinView). p.settled) settled)
    (ap (λ (p : PinView). p.base) settled)
    (ap (λ (p : PinView). p.seen) settled)
    c.settle_now-now.ensures.start
    (omega (arith, ap (λ s. s.level) t))
    (ap (λ s. s.work) t)
