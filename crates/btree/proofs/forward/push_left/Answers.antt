use Rattle.std.proofs.Common.{◌≡◌, ◌+◌, length, ap, subst, sym, ◌∙◌, arith}
use borrow.Author.Tests.{eqb-false}
use Rattle.btree.specs.Walk.{left_of, left_back_of, HaveRoomBelow}
use Rattle.btree.proofs.Walks.{positive, left_push, left_back_push, path_push}
use Rattle.btree.proofs.forward.push_left.Goals as goal

pub returns-clause-items : goal.returns-clause-items
returns-clause-items g c = ap left_of c.push.ensures.items ∙ left_push c.args.path.now.items _

pub returns-clause-back : goal.returns-clause-back
returns-clause-back g c = ap left_back_of c.push.ensures.items ∙ left_back_push c.args.path.now.items _

pub returns-clause-path : goal.returns-clause-path
returns-clause-path g c =
    let some = positive (length c.args.kids.now) (eqb-false (length c.args.kids.now) 0 (sym c.is_empty.ensures ∙ c.if-is_empty.false)) in
    let below : length c.args.path.now.items ≡ 0 + length c.args.path.now.items = omega arith in
    rw c.push.ensures.items (path_push 0 c.args.path.now.items _ c.requires.path some (omega (arith, c.requires.room)) (subst (λ n. HaveRoomBelow n c.args.kids.now) below c.requires.below))
