use Rattle.std.proofs.Common.{◌≡◌, ◌+◌, ◌∷◌, ◌∙◌, refl, rules, arith, min, length}
use Rattle.std.specs.Prelude.{cond}
use Rattle.std.specs.Vec.Iter.{into_iter_items}
use Rattle.collector.proofs.TurnLemmas.{stands_more, stands_last}
use Rattle.collector.proofs.turning.visit_each.Goals as goal

pub loop-key-preserved-then-is_removed : goal.loop-key-preserved-then-is_removed
loop-key-preserved-then-is_removed c =
    let now = c.loop-key.invariant in
    let steps : into_iter_items c.loop-key.key-iterator ≡ c.in-Some.key ∷ into_iter_items c.next.new.self = search rules in
    let sum : c.saturating_add-dropped.result ≡ min 18446744073709551615 (c.loop-key.dropped + c.visit-count.result.0) = search (rules, arith) in
    let visited = c.visit-count.ensures in
    let more : c.loop-key.removed + 1 ≡ c.loop-key.removed + cond c.visit-count.result.1 1 0 = rw c.if-is_removed.true refl in
    record {
      can_next = tt;
      is_finite = tt;
      stands = stands_more _ _ _ _ _ c.in-Some.key _ _ c.visit-count.result.0 _ _ _ _ c.visit-count.result.1 now.stands steps visited.versions visited.dropped visited.removed sum more;
      horizon = omega (arith, now.horizon, visited.cut);
      present = visited.present ∙ now.present;
      cut = visited.cut ∙ now.cut;
      mark = visited.mark ∙ now.mark;
      spare = omega (arith, now.spare, visited.spare);
    }

pub loop-key-preserved : goal.loop-key-preserved
loop-key-preserved c =
    let now = c.loop-key.invariant in
    let steps : into_iter_items c.loop-key.key-iterator ≡ c.in-Some.key ∷ into_iter_items c.next.new.self = search rules in
    let sum : c.saturating_add-dropped.result ≡ min 18446744073709551615 (c.loop-key.dropped + c.visit-count.result.0) = search (rules, arith) in
    let visited = c.visit-count.ensures in
    let more : c.loop-key.removed ≡ c.loop-key.removed + cond c.visit-count.result.1 1 0 = rw c.if-is_removed.false (omega arith) in
    record {
      can_next = tt;
      is_finite = tt;
      stands = stands_more _ _ _ _ _ c.in-Some.key _ _ c.visit-count.result.0 _ _ _ _ c.visit-count.result.1 now.stands steps visited.versions visited.dropped visited.removed sum more;
      horizon = omega (arith, now.horizon, visited.cut);
      present = visited.present ∙ now.present;
      cut = visited.cut ∙ now.cut;
      mark = visited.mark ∙ now.mark;
      spare = omega (arith, now.spare, visited.spare);
    }

pub returns-clause-progress : goal.returns-clause-progress
returns-clause-progress c =
    let none : length (into_iter_items c.loop-key.key-iterator) ≡ 0 = search (rules, arith) in
    stands_last _ _ _ _ _ _ _ _ c.loop-key.invariant.stands none (search rules)
