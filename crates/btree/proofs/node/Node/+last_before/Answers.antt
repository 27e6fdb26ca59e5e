use Rattle.std.specs.Option.{option_or, option_map}
use Rattle.std.proofs.Common.{◌≡◌, ◌<◌, ◌+◌, ◌*◌, ◌-◌, ◌∙◌, length, take, ap, sym, subst, arith, rules}
use borrow.Author.Tests.{eqb-true, eqb-false}
use Rattle.btree.specs.Order.{Ascends, last_before, last_of}
use Rattle.btree.specs.Parts.{flat}
use Rattle.btree.proofs.Order.{each_at}
use Rattle.btree.proofs.Nodes.{leaf_row, inner, inner_pairs, inner_rises, inner_low, inner_level, kid_ascends}
use Rattle.btree.proofs.Seeks.{last_at, last_ahead, some_last, some_kids, last_in_kids}
use Rattle.btree.proofs.node.Node.+last_before.Goals as goal

pub returns-then-is_empty-clause-found : goal.returns-then-is_empty-clause-found
returns-then-is_empty-clause-found g t c =
    let none : length c.read.result.2.now ≡ 0 = eqb-true (length c.read.result.2.now) 0 (sym c.is_empty.ensures ∙ c.if-is_empty.true) in
    c.entry_before.ensures ∙ sym (ap (last_before (g.P.Point.before c.args.point.now)) (leaf_row g.K.Ord.cmp c.args.self.now c.read.result.0.now c.read.result.1.now c.read.result.2.now c.read.ensures.same_view c.read.ensures.sound none) ∙ last_at (g.P.Point.before c.args.point.now) c.count_before.result c.read.result.0.now c.count_before.ensures.before c.count_before.ensures.after)

pub kid_at_point-at-requires : goal.kid_at_point-at-requires
kid_at_point-at-requires g t c =
    let some : length c.read.result.2.now ≡ 0 → ⊥ = eqb-false (length c.read.result.2.now) 0 (sym c.is_empty.ensures ∙ c.if-is_empty.false) in
    inner_rises g.K.Ord.cmp c.args.self.now c.read.result.0.now c.read.result.1.now c.read.result.2.now c.read.ensures.same_view c.read.ensures.sound some

pub last_before-requires : goal.last_before-requires
last_before-requires g t c κs within =
    let some : length c.read.result.2.now ≡ 0 → ⊥ = eqb-false (length c.read.result.2.now) 0 (sym c.is_empty.ensures ∙ c.if-is_empty.false) in
    let at = c.kid_at_point-at.result in
    let s = inner g.K.Ord.cmp c.args.self.now c.read.result.0.now c.read.result.1.now c.read.result.2.now c.read.ensures.same_view c.read.ensures.sound some in
    let low = inner_low g.K.Ord.cmp c.args.self.now c.read.result.0.now c.read.result.1.now c.read.result.2.now c.read.ensures.same_view c.read.ensures.sound some at c.kid_at_point-at.ensures.in_range in
    let height = inner_level g.K.Ord.cmp c.args.self.now c.read.result.0.now c.read.result.1.now c.read.result.2.now c.read.ensures.same_view c.read.ensures.sound some at c.index-kids-at.result low in
    let level : c.index-kids-at.result.height + 1 ≡ c.args.self.now.height = omega (arith, height, ap (λ b. b.height) c.index-kids-at.is) in
    let sorted : Ascends g.K.Ord.cmp c.index-kids-at.result.pairs = subst (λ b. Ascends g.K.Ord.cmp b.pairs) (sym c.index-kids-at.is) (kid_ascends g.K.Ord.cmp c.args.self.now c.read.result.0.now c.read.result.1.now c.read.result.2.now c.read.ensures.same_view c.read.ensures.sound some g.met.K.Ord.total at c.index-kids-at.result low c.requires.sorted) in
    let counts : c.read.new.visits + 2 * c.index-kids-at.result.height < 9223372036854775808 = omega (arith, level, c.requires.counts, c.read.ensures.visit) in
    search rules

pub returns-in-Some-clause-found : goal.returns-in-Some-clause-found
returns-in-Some-clause-found g t c =
    let some : length c.read.result.2.now ≡ 0 → ⊥ = eqb-false (length c.read.result.2.now) 0 (sym c.is_empty.ensures ∙ c.if-is_empty.false) in
    let at = c.kid_at_point-at.result in
    let s = inner g.K.Ord.cmp c.args.self.now c.read.result.0.now c.read.result.1.now c.read.result.2.now c.read.ensures.same_view c.read.ensures.sound some in
    let low = inner_low g.K.Ord.cmp c.args.self.now c.read.result.0.now c.read.result.1.now c.read.result.2.now c.read.ensures.same_view c.read.ensures.sound some at c.kid_at_point-at.ensures.in_range in
    let height = inner_level g.K.Ord.cmp c.args.self.now c.read.result.0.now c.read.result.1.now c.read.result.2.now c.read.ensures.same_view c.read.ensures.sound some at c.index-kids-at.result low in
    let level : c.index-kids-at.result.height + 1 ≡ c.args.self.now.height = omega (arith, height, ap (λ b. b.height) c.index-kids-at.is) in
    let rest = last_of (flat (take at c.read.result.2.now)) in
    sym (ap (last_before (g.P.Point.before c.args.point.now)) (inner_pairs g.K.Ord.cmp c.args.self.now c.read.result.0.now c.read.result.1.now c.read.result.2.now c.read.ensures.same_view c.read.ensures.sound some) ∙ last_in_kids g.K.Ord.cmp g.met.K.Ord.total (g.P.Point.before c.args.point.now) (g.met.P.Point.downward c.args.point.now) (g.met.P.Point.tied c.args.point.now) c.read.result.1.now c.read.result.2.now s at c.index-kids-at.result c.kid_at_point-at.ensures.in_range low c.kid_at_point-at.ensures.before c.kid_at_point-at.ensures.after ∙ ap (λ o. option_or o rest) (ap (λ b. last_before (g.P.Point.before c.args.point.now) b.pairs) (sym c.index-kids-at.is) ∙ sym c.in-Some.ensures.found))

pub returns-then-at-eq0-clause-found : goal.returns-then-at-eq0-clause-found
returns-then-at-eq0-clause-found g t c =
    let some : length c.read.result.2.now ≡ 0 → ⊥ = eqb-false (length c.read.result.2.now) 0 (sym c.is_empty.ensures ∙ c.if-is_empty.false) in
    let at = c.kid_at_point-at.result in
    let s = inner g.K.Ord.cmp c.args.self.now c.read.result.0.now c.read.result.1.now c.read.result.2.now c.read.ensures.same_view c.read.ensures.sound some in
    let low = inner_low g.K.Ord.cmp c.args.self.now c.read.result.0.now c.read.result.1.now c.read.result.2.now c.read.ensures.same_view c.read.ensures.sound some at c.kid_at_point-at.ensures.in_range in
    let height = inner_level g.K.Ord.cmp c.args.self.now c.read.result.0.now c.read.result.1.now c.read.result.2.now c.read.ensures.same_view c.read.ensures.sound some at c.index-kids-at.result low in
    let level : c.index-kids-at.result.height + 1 ≡ c.args.self.now.height = omega (arith, height, ap (λ b. b.height) c.index-kids-at.is) in
    let first : at ≡ 0 = omega arith in
    sym (ap (last_before (g.P.Point.before c.args.point.now)) (inner_pairs g.K.Ord.cmp c.args.self.now c.read.result.0.now c.read.result.1.now c.read.result.2.now c.read.ensures.same_view c.read.ensures.sound some) ∙ last_in_kids g.K.Ord.cmp g.met.K.Ord.total (g.P.Point.before c.args.point.now) (g.met.P.Point.downward c.args.point.now) (g.met.P.Point.tied c.args.point.now) c.read.result.1.now c.read.result.2.now s at c.index-kids-at.result c.kid_at_point-at.ensures.in_range low c.kid_at_point-at.ensures.before c.kid_at_point-at.ensures.after ∙ ap (λ o. option_or o (last_of (flat (take at c.read.result.2.now)))) (ap (λ b. last_before (g.P.Point.before c.args.point.now) b.pairs) (sym c.index-kids-at.is) ∙ sym c.in_default.ensures.found) ∙ ap (λ n. last_of (flat (take n c.read.result.2.now))) first)

pub returns-clause-found : goal.returns-clause-found
returns-clause-found g t c =
    let some : length c.read.result.2.now ≡ 0 → ⊥ = eqb-false (length c.read.result.2.now) 0 (sym c.is_empty.ensures ∙ c.if-is_empty.false) in
    let at = c.kid_at_point-at.result in
    let s = inner g.K.Ord.cmp c.args.self.now c.read.result.0.now c.read.result.1.now c.read.result.2.now c.read.ensures.same_view c.read.ensures.sound some in
    let low = inner_low g.K.Ord.cmp c.args.self.now c.read.result.0.now c.read.result.1.now c.read.result.2.now c.read.ensures.same_view c.read.ensures.sound some at c.kid_at_point-at.ensures.in_range in
    c.last.ensures.found ∙ sym (ap (last_before (g.P.Point.before c.args.point.now)) (inner_pairs g.K.Ord.cmp c.args.self.now c.read.result.0.now c.read.result.1.now c.read.result.2.now c.read.ensures.same_view c.read.ensures.sound some) ∙ last_in_kids g.K.Ord.cmp g.met.K.Ord.total (g.P.Point.before c.args.point.now) (g.met.P.Point.downward c.args.point.now) (g.met.P.Point.tied c.args.point.now) c.read.result.1.now c.read.result.2.now s at c.index-kids-at.result c.kid_at_point-at.ensures.in_range low c.kid_at_point-at.ensures.before c.kid_at_point-at.ensures.after ∙ ap (λ o. option_or o (last_of (flat (take at c.read.result.2.now)))) (ap (λ b. last_before (g.P.Point.before c.args.point.now) b.pairs) (sym c.index-kids-at.is) ∙ sym c.in_default.ensures.found)
    ∙ last_ahead at c.read.result.2.now c.index-kids-at-2.result (omega arith) low (some_kids g.K.Ord.cmp g.met.K.Ord.total (g.P.Point.before c.args.point.now) (g.met.P.Point.downward c.args.point.now) (g.met.P.Point.tied c.args.point.now) c.read.result.1.now c.read.result.2.now s at c.index-kids-at.result c.kid_at_point-at.ensures.in_range low c.kid_at_point-at.ensures.before c.kid_at_point-at.ensures.after) c.index-kids-at-2.is)

pub returns-clause-missed : goal.returns-clause-missed
returns-clause-missed g t c = λ e.
    let some : length c.read.result.2.now ≡ 0 → ⊥ = eqb-false (length c.read.result.2.now) 0 (sym c.is_empty.ensures ∙ c.if-is_empty.false) in
    let at = c.kid_at_point-at.result in
    let s = inner g.K.Ord.cmp c.args.self.now c.read.result.0.now c.read.result.1.now c.read.result.2.now c.read.ensures.same_view c.read.ensures.sound some in
    let low = inner_low g.K.Ord.cmp c.args.self.now c.read.result.0.now c.read.result.1.now c.read.result.2.now c.read.ensures.same_view c.read.ensures.sound some at c.kid_at_point-at.ensures.in_range in
    let there : at - 1 < length c.read.result.2.now = omega (arith, low) in
    let long : 0 < length c.index-kids-at-2.result.pairs = subst (λ b. 0 < length b.pairs) (sym c.index-kids-at-2.is) (each_at (λ b. 0 < length b.pairs) c.read.result.2.now (at - 1) c.index-kids-at-2.result there (some_kids g.K.Ord.cmp g.met.K.Ord.total (g.P.Point.before c.args.point.now) (g.met.P.Point.downward c.args.point.now) (g.met.P.Point.tied c.args.point.now) c.read.result.1.now c.read.result.2.now s at c.index-kids-at.result c.kid_at_point-at.ensures.in_range low c.kid_at_point-at.ensures.before c.kid_at_point-at.ensures.after)) in
    absurd (some_last c.index-kids-at-2.result.pairs long (sym c.last.ensures.found ∙ ap (option_map (λ p. (p.0.now, p.1.now))) e))
