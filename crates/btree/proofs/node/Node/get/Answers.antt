use Rattle.std.proofs.Common.{◌≡◌, ◌+◌, ◌∙◌, refl, ap, sym, subst, arith, length}
use borrow.Author.Tests.{eqb-true, eqb-false}
use Rattle.std.specs.FinMap.Entries.{find}
use Rattle.btree.specs.Order.{Ascends}
use Rattle.btree.proofs.Leaves.{find_at, find_gap}
use Rattle.btree.proofs.Nodes.{leaf_row, leaf_sorted, inner_rises, inner_low, inner_level, kid_ascends, kid_found}
use Rattle.btree.proofs.node.Node.get.Goals as goal

pub loop-separators-init : goal.loop-separators-init
loop-separators-init g c = record { sorted = c.requires.sorted; low = omega arith; counts = refl; found = refl }

pub place-requires : goal.place-requires
place-requires g c =
    let none : length c.read.result.2.now ≡ 0 = eqb-true (length c.read.result.2.now) 0 (sym c.is_empty.ensures ∙ c.if-is_empty.true) in
    leaf_sorted g.K.Ord.cmp c.loop-separators.here.now c.read.result.0.now c.read.result.1.now c.read.result.2.now c.read.ensures.same_view c.read.ensures.sound none c.loop-separators.invariant.sorted

pub kid_of-at-requires : goal.kid_of-at-requires
kid_of-at-requires g c =
    let some : length c.read.result.2.now ≡ 0 → ⊥ = eqb-false (length c.read.result.2.now) 0 (sym c.is_empty.ensures ∙ c.if-is_empty.false) in
    inner_rises g.K.Ord.cmp c.loop-separators.here.now c.read.result.0.now c.read.result.1.now c.read.result.2.now c.read.ensures.same_view c.read.ensures.sound some

pub loop-separators-preserved : goal.loop-separators-preserved
loop-separators-preserved g c =
    let some : length c.read.result.2.now ≡ 0 → ⊥ = eqb-false (length c.read.result.2.now) 0 (sym c.is_empty.ensures ∙ c.if-is_empty.false) in
    let at = c.kid_of-at.result in
    let low = inner_low g.K.Ord.cmp c.loop-separators.here.now c.read.result.0.now c.read.result.1.now c.read.result.2.now c.read.ensures.same_view c.read.ensures.sound some at c.kid_of-at.ensures.in_range in
    let level = inner_level g.K.Ord.cmp c.loop-separators.here.now c.read.result.0.now c.read.result.1.now c.read.result.2.now c.read.ensures.same_view c.read.ensures.sound some at c.index-kids-at.result low in
    let height : c.index-kids-at.result.height + 1 ≡ c.loop-separators.here.now.height = omega (arith, level, ap (λ b. b.height) c.index-kids-at.is) in
    let found = kid_found g.K.Ord.cmp c.loop-separators.here.now c.read.result.0.now c.read.result.1.now c.read.result.2.now c.read.ensures.same_view c.read.ensures.sound some g.met.K.Ord.total c.args.key.now at c.index-kids-at.result c.kid_of-at.ensures.in_range c.kid_of-at.ensures.from c.kid_of-at.ensures.under in
    record {
      sorted = subst (λ b. Ascends g.K.Ord.cmp b.pairs) (sym c.index-kids-at.is) (kid_ascends g.K.Ord.cmp c.loop-separators.here.now c.read.result.0.now c.read.result.1.now c.read.result.2.now c.read.ensures.same_view c.read.ensures.sound some g.met.K.Ord.total at c.index-kids-at.result low c.loop-separators.invariant.sorted);
      low = omega (arith, c.note-in-loop-separators.ensures, c.read.ensures.visit, c.loop-separators.invariant.low);
      counts = omega (arith, height, c.note-in-loop-separators.ensures, c.read.ensures.visit, c.loop-separators.invariant.counts);
      found = ap (λ b. find g.K.Ord.cmp c.args.key.now b.pairs) c.index-kids-at.is ∙ sym found ∙ c.loop-separators.invariant.found;
    }

pub returns-in-Ok-clause-found : goal.returns-in-Ok-clause-found
returns-in-Ok-clause-found g c =
    let none : length c.read.result.2.now ≡ 0 = eqb-true (length c.read.result.2.now) 0 (sym c.is_empty.ensures ∙ c.if-is_empty.true) in
    let sorted = leaf_sorted g.K.Ord.cmp c.loop-separators.here.now c.read.result.0.now c.read.result.1.now c.read.result.2.now c.read.ensures.same_view c.read.ensures.sound none c.loop-separators.invariant.sorted in
    sym (ap (find g.K.Ord.cmp c.args.key.now) (leaf_row g.K.Ord.cmp c.loop-separators.here.now c.read.result.0.now c.read.result.1.now c.read.result.2.now c.read.ensures.same_view c.read.ensures.sound none)
    ∙ find_at g.K.Ord.cmp g.met.K.Ord.total c.args.key.now c.in-Ok.at c.read.result.0.now c.index-entries-at.result sorted c.in-Ok.ensures.found.0 (c.in-Ok.ensures.found.1 c.index-entries-at.result)) ∙ c.loop-separators.invariant.found

pub returns-in-Err-clause-found : goal.returns-in-Err-clause-found
returns-in-Err-clause-found g c =
    let none : length c.read.result.2.now ≡ 0 = eqb-true (length c.read.result.2.now) 0 (sym c.is_empty.ensures ∙ c.if-is_empty.true) in
    sym (ap (find g.K.Ord.cmp c.args.key.now) (leaf_row g.K.Ord.cmp c.loop-separators.here.now c.read.result.0.now c.read.result.1.now c.read.result.2.now c.read.ensures.same_view c.read.ensures.sound none)
    ∙ find_gap g.K.Ord.cmp g.met.K.Ord.total c.args.key.now c.in-Err.at c.read.result.0.now c.in-Err.ensures.gap.0 c.in-Err.ensures.gap.1 c.in-Err.ensures.gap.2) ∙ c.loop-separators.invariant.found
