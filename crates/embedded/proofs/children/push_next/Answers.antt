use Rattle.std.proofs.Common.{arith, ap, false, ◌∙◌}
use Rattle.embedded.proofs.Siblings.{full_cut, followed, of_some}
use Rattle.embedded.proofs.children.push_next.Goals as goal

pub returns-then-len-room-clause-ok : goal.returns-then-len-room-clause-ok
returns-then-len-room-clause-ok g c =
    let child = of_some _ _ c.in_ok-child.field-0 c.in-Some.child c.in-Some.is c.in_ok-child.ensures.ok in
    full_cut _ c.args.place.now _ _ _ _ _ _ _ child.0 c.in_ok-push_child.ensures (omega (arith, c.len.ensures, c.if-len-room.true)) (omega (arith, c.len-before.ensures)) c.truncate.ensures.items

pub returns-clause-ok : goal.returns-clause-ok
returns-clause-ok g c =
    let child = of_some _ _ c.in_ok-child.field-0 c.in-Some.child c.in-Some.is c.in_ok-child.ensures.ok in
    followed _ _ _ _ _ _ _ _ child.0 child.1 (c.new.ensures ∙ ap (λ k. record { reference = k; is_open = false }) child.2) c.in_ok-push_child.ensures (omega (arith, c.len.ensures, c.if-len-room.false))
