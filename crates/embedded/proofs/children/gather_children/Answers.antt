use Rattle.std.proofs.Common.{arith}
use Rattle.embedded.proofs.Siblings.{all_after, first_level, of_some, one_gathered}
use Rattle.embedded.proofs.children.gather_children.Goals as goal

pub returns-then-len-room-clause-ok : goal.returns-then-len-room-clause-ok
returns-then-len-room-clause-ok g c =
    let child = of_some _ _ c.in_ok-child.field-0 c.in-Some.child c.in-Some.is c.in_ok-child.ensures.ok in
    one_gathered _ _ _ _ _ _ _ _ c.in_ok-level.ensures.key child.0 child.1 c.in_ok-push_child.ensures c.clear.ensures.items (omega (arith, c.len.ensures, c.if-len-room.true))

pub push_children-requires-clause-level : goal.push_children-requires-clause-level
push_children-requires-clause-level g c =
    let child = of_some _ _ c.in_ok-child.field-0 c.in-Some.child c.in-Some.is c.in_ok-child.ensures.ok in
    first_level _ _ _ _ c.new.ensures child.2

pub returns-clause-ok : goal.returns-clause-ok
returns-clause-ok g c =
    let child = of_some _ _ c.in_ok-child.field-0 c.in-Some.child c.in-Some.is c.in_ok-child.ensures.ok in
    all_after _ _ _ _ _ _ _ _ _ _ _ c.in_ok-level.ensures.key child.0 child.1 child.2 c.new.ensures c.in_ok-push_child.ensures c.clear.ensures.items (c.in_ok-push_children.ensures.ok c.args.place.now)
