use Rattle.std.proofs.Common.{arith, ap, ◌∙◌}
use Rattle.collation.specs.Levels.{parent_of}
use Rattle.embedded.proofs.Siblings.{child_level, grows, none_more, of_none, of_some, one_more}
use Rattle.embedded.proofs.children.push_children.Goals as goal

pub children-smaller : goal.children-smaller
children-smaller g c =
    let next = of_some _ _ c.in-Ok-Some.field-0 c.in-Ok-Some.next c.in-Ok-Some.field-0-is c.in-Ok-Some.ensures.ok in
    omega (arith, grows _ _ _ _ _ _ _ next, next.low)

pub children-preserved : goal.children-preserved
children-preserved g c =
    let next = of_some _ _ c.in-Ok-Some.field-0 c.in-Ok-Some.next c.in-Ok-Some.field-0-is c.in-Ok-Some.ensures.ok in
    record {
      level = ap parent_of next.place ∙ child_level _ _;
      low = next.low;
      goes = λ p h. one_more _ _ _ _ _ _ _ _ (c.children.invariant.goes p h) next;
    }

pub returns-in-Ok-None-clause-ok : goal.returns-in-Ok-None-clause-ok
returns-in-Ok-None-clause-ok g c = λ p h. none_more _ _ _ _ _ _ _ (c.children.invariant.goes p h) (of_none _ _ c.in-Ok-None.field-0 c.in-Ok-None.field-0-is c.in-Ok-None.ensures.ok) c.children.invariant.low
