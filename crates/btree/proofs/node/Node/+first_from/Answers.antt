use Rattle.std.specs.Option.{option_or, option_map}
use Rattle.std.proofs.Common.{◌≡◌, ◌<◌, ◌≤◌, ◌+◌, ◌*◌, ◌∙◌, suc, length, drop, ap, sym, subst, add-one, arith, rules}
use borrow.Author.Tests.{eqb-true, eqb-false, ltb-true, ltb-false}
use Rattle.std.specs.List.{slice_get}
use Rattle.btree.specs.Order.{Ascends, first_from}
use Rattle.btree.specs.Parts.{flat}
use Rattle.btree.proofs.Order.{each_at}
use Rattle.btree.proofs.Nodes.{leaf_row, inner, inner_pairs, inner_rises, inner_low, inner_level, kid_ascends}
use Rattle.btree.proofs.Seeks.{first_at, first_after, none_after, some_first, some_kids, first_in_kids}
use Rattle.btree.proofs.node.Node.+first_from.Goals as goal

pub returns-then-is_empty-clause-found : goal.returns-then-is_empty-clause-found
returns-then-is_empty-clause-found g t c =
    let none : length c.read.result.2.now ≡ 0 = eqb-true (length c.read.result.2.now) 0 (sym c.is_empty.ensures ∙ c.if-is_empty.true) in
    c.entry_at.ensures ∙ sym (ap (first_from (g.P.Point.before c.args.point.now)) (leaf_row g.K.Ord.cmp c.args.self.now c.read.result.0.now c.read.result.1.now c.read.result.2.now c.read.ensures.same_view c.read.ensures.sound none) ∙ first_at (g.P.Point.before c.args.point.now) c.count_before.result c.read.result.0.now c.count_before.ensures.before c.count_before.ensures.after)

pub kid_at_point-at-requires : goal.kid_at_point-at-requires
kid_at_point-at-requires g t c =
    let some : length c.read.result.2.now ≡ 0 → ⊥ = eqb-false (length c.read.result.2.now) 0 (sym c.is_empty.ensures ∙ c.if-is_empty.false) in
    inner_rises g.K.Ord.cmp c.args.self.now c.read.result.0.now c.read.result.1.now c.read.result.2.now c.read.ensures.same_view c.read.ensures.sound some

pub first_from-requires : goal.first_from-requires
first_from-requires g t c κs within =
    let some : length c.read.result.2.now ≡ 0 → ⊥ = eqb-false (length c.read.result.2.now) 0 (sym c.is_empty.ensures ∙ c.if-is_empty.false) in
    let at = c.kid_at_point-at.result in
    let s = inner g.K.Ord.cmp c.args.self.now c.read.result.0.now c.read.result.1.now c.read.result.2.now c.read.ensures.same_view c.read.ensures.sound some in
    let low = inner_low g.K.Ord.cmp c.args.self.now c.read.result.0.now c.read.result.1.now c.read.result.2.now c.read.ensures.same_view c.read.ensures.sound some at c.kid_at_point-at.ensures.in_range in
    let height = inner_level g.K.Ord.cmp c.args.self.now c.read.result.0.now c.read.result.1.now c.read.result.2.now c.read.ensures.same_view c.read.ensures.sound some at c.index-kids-at.result low in
    let level : c.index-kids-at.result.height + 1 ≡ c.args.self.now.height = omega (arith, height, ap (λ b. b.height) c.index-kids-at.is) in
    let sorted : Ascends g.K.Ord.cmp c.index-kids-at.result.pairs = subst (λ b. Ascends g.K.Ord.cmp b.pairs) (sym c.index-kids-at.is) (kid_ascends g.K.Ord.cmp c.args.self.now c.read.result.0.now c.read.result.1.now c.read.result.2.now c.read.ensures.same_view c.read.ensures.sound some g.met.K.Ord.total at c.index-kids-at.result low c.requires.sorted) in
    let counts : c.read.new.visits + 2 * c.index-kids-at.result.height < 9223372036854775808 = omega (arith, level, c.requires.counts, c.read.ensures.visit) in
    search rules

pub returns-in-Some-clause-found : goal.returns-in-Some-clause-found
returns-in-Some-clause-found g t c =
    let some : length c.read.result.2.now ≡ 0 → ⊥ = eqb-false (length c.read.result.2.now) 0 (sym c.is_empty.ensures ∙ c.if-is_empty.false) in
    let at = c.kid_at_point-at.result in
    let s = inner g.K.Ord.cmp c.args.self.now c.read.result.0.now c.read.result.1.now c.read.result.2.now c.read.ensures.same_view c.read.ensures.sound some in
    let low = inner_low g.K.Ord.cmp c.args.self.now c.read.result.0.now c.read.result.1.now c.read.result.2.now c.read.ensures.same_view c.read.ensures.sound some at c.kid_at_point-at.ensures.in_range in
    let height = inner_level g.K.Ord.cmp c.args.self.now c.read.result.0.now c.read.result.1.now c.read.result.2.now c.read.ensures.same_view c.read.ensures.sound some at c.index-kids-at.result low in
    let level : c.index-kids-at.result.height + 1 ≡ c.args.self.now.height = omega (arith, height, ap (λ b. b.height) c.index-kids-at.is) in
    let rest = slice_get (flat (drop (suc at) c.read.result.2.now)) 0 in
    sym (ap (first_from (g.P.Point.before c.args.point.now)) (inner_pairs g.K.Ord.cmp c.args.self.now c.read.result.0.now c.read.result.1.now c.read.result.2.now c.read.ensures.same_view c.read.ensures.sound some) ∙ first_in_kids g.K.Ord.cmp g.met.K.Ord.total (g.P.Point.before c.args.point.now) (g.met.P.Point.downward c.args.point.now) (g.met.P.Point.tied c.args.point.now) c.read.result.1.now c.read.result.2.now s at c.index-kids-at.result c.kid_at_point-at.ensures.in_range low c.kid_at_point-at.ensures.before c.kid_at_point-at.ensures.after ∙ ap (λ o. option_or o rest) (ap (λ b. first_from (g.P.Point.before c.args.point.now) b.pairs) (sym c.index-kids-at.is) ∙ sym c.in-Some.ensures.found))

pub first-requires : goal.first-requires
first-requires g t c =
    let some : length c.read.result.2.now ≡ 0 → ⊥ = eqb-false (length c.read.result.2.now) 0 (sym c.is_empty.ensures ∙ c.if-is_empty.false) in
    let at = c.kid_at_point-at.result in
    let s = inner g.K.Ord.cmp c.args.self.now c.read.result.0.now c.read.result.1.now c.read.result.2.now c.read.ensures.same_view c.read.ensures.sound some in
    let low = inner_low g.K.Ord.cmp c.args.self.now c.read.result.0.now c.read.result.1.now c.read.result.2.now c.read.ensures.same_view c.read.ensures.sound some at c.kid_at_point-at.ensures.in_range in
    let height = inner_level g.K.Ord.cmp c.args.self.now c.read.result.0.now c.read.result.1.now c.read.result.2.now c.read.ensures.same_view c.read.ensures.sound some at c.index-kids-at.result low in
    let level : c.index-kids-at.result.height + 1 ≡ c.args.self.now.height = omega (arith, height, ap (λ b. b.height) c.index-kids-at.is) in
    let there : at + 1 < length c.read.result.2.now = ltb-true _ _ (sym c.in-Some-get.ensures.lookup.0) in
    let beside = inner_level g.K.Ord.cmp c.args.self.now c.read.result.0.now c.read.result.1.now c.read.result.2.now c.read.ensures.same_view c.read.ensures.sound some (at + 1) c.in-Some-get.kid.now there in
    record { counts = omega (arith, level, beside, ap (λ b. b.height) c.in-Some-get.ensures.lookup.1, c.requires.counts, c.read.ensures.visit, c.first_from.ensures.visited) }

pub returns-in-None-clause-found : goal.returns-in-None-clause-found
returns-in-None-clause-found g t c =
    let some : length c.read.result.2.now ≡ 0 → ⊥ = eqb-false (length c.read.result.2.now) 0 (sym c.is_empty.ensures ∙ c.if-is_empty.false) in
    let at = c.kid_at_point-at.result in
    let s = inner g.K.Ord.cmp c.args.self.now c.read.result.0.now c.read.result.1.now c.read.result.2.now c.read.ensures.same_view c.read.ensures.sound some in
    let low = inner_low g.K.Ord.cmp c.args.self.now c.read.result.0.now c.read.result.1.now c.read.result.2.now c.read.ensures.same_view c.read.ensures.sound some at c.kid_at_point-at.ensures.in_range in
    let height = inner_level g.K.Ord.cmp c.args.self.now c.read.result.0.now c.read.result.1.now c.read.result.2.now c.read.ensures.same_view c.read.ensures.sound some at c.index-kids-at.result low in
    let level : c.index-kids-at.result.height + 1 ≡ c.args.self.now.height = omega (arith, height, ap (λ b. b.height) c.index-kids-at.is) in
    let past : length c.read.result.2.now ≤ at + 1 = ltb-false _ _ (sym c.in-None.ensures.lookup.0) in
    sym (ap (first_from (g.P.Point.before c.args.point.now)) (inner_pairs g.K.Ord.cmp c.args.self.now c.read.result.0.now c.read.result.1.now c.read.result.2.now c.read.ensures.same_view c.read.ensures.sound some) ∙ first_in_kids g.K.Ord.cmp g.met.K.Ord.total (g.P.Point.before c.args.point.now) (g.met.P.Point.downward c.args.point.now) (g.met.P.Point.tied c.args.point.now) c.read.result.1.now c.read.result.2.now s at c.index-kids-at.result c.kid_at_point-at.ensures.in_range low c.kid_at_point-at.ensures.before c.kid_at_point-at.ensures.after ∙ ap (λ o. option_or o (slice_get (flat (drop (suc at) c.read.result.2.now)) 0)) (ap (λ b. first_from (g.P.Point.before c.args.point.now) b.pairs) (sym c.index-kids-at.is) ∙ sym c.in_default.ensures.found) ∙ none_after (suc at) c.read.result.2.now (omega (arith, past)))

pub returns-in-Some-get-clause-found : goal.returns-in-Some-get-clause-found
returns-in-Some-get-clause-found g t c =
    let some : length c.read.result.2.now ≡ 0 → ⊥ = eqb-false (length c.read.result.2.now) 0 (sym c.is_empty.ensures ∙ c.if-is_empty.false) in
    let at = c.kid_at_point-at.result in
    let s = inner g.K.Ord.cmp c.args.self.now c.read.result.0.now c.read.result.1.now c.read.result.2.now c.read.ensures.same_view c.read.ensures.sound some in
    let low = inner_low g.K.Ord.cmp c.args.self.now c.read.result.0.now c.read.result.1.now c.read.result.2.now c.read.ensures.same_view c.read.ensures.sound some at c.kid_at_point-at.ensures.in_range in
    let height = inner_level g.K.Ord.cmp c.args.self.now c.read.result.0.now c.read.result.1.now c.read.result.2.now c.read.ensures.same_view c.read.ensures.sound some at c.index-kids-at.result low in
    let level : c.index-kids-at.result.height + 1 ≡ c.args.self.now.height = omega (arith, height, ap (λ b. b.height) c.index-kids-at.is) in
    let there : suc at < length c.read.result.2.now = omega (arith, ltb-true _ _ (sym c.in-Some-get.ensures.lookup.0)) in
    let kid = rw add-one at c.in-Some-get.ensures.lookup.1 in
    c.first.ensures.found ∙ sym (ap (first_from (g.P.Point.before c.args.point.now)) (inner_pairs g.K.Ord.cmp c.args.self.now c.read.result.0.now c.read.result.1.now c.read.result.2.now c.read.ensures.same_view c.read.ensures.sound some) ∙ first_in_kids g.K.Ord.cmp g.met.K.Ord.total (g.P.Point.before c.args.point.now) (g.met.P.Point.downward c.args.point.now) (g.met.P.Point.tied c.args.point.now) c.read.result.1.now c.read.result.2.now s at c.index-kids-at.result c.kid_at_point-at.ensures.in_range low c.kid_at_point-at.ensures.before c.kid_at_point-at.ensures.after ∙ ap (λ o. option_or o (slice_get (flat (drop (suc at) c.read.result.2.now)) 0)) (ap (λ b. first_from (g.P.Point.before c.args.point.now) b.pairs) (sym c.index-kids-at.is) ∙ sym c.in_default.ensures.found)
    ∙ first_after (suc at) c.read.result.2.now c.in-Some-get.kid.now there (some_kids g.K.Ord.cmp g.met.K.Ord.total (g.P.Point.before c.args.point.now) (g.met.P.Point.downward c.args.point.now) (g.met.P.Point.tied c.args.point.now) c.read.result.1.now c.read.result.2.now s at c.index-kids-at.result c.kid_at_point-at.ensures.in_range low c.kid_at_point-at.ensures.before c.kid_at_point-at.ensures.after) kid)

pub returns-in-Some-get-clause-missed : goal.returns-in-Some-get-clause-missed
returns-in-Some-get-clause-missed g t c = λ e.
    let some : length c.read.result.2.now ≡ 0 → ⊥ = eqb-false (length c.read.result.2.now) 0 (sym c.is_empty.ensures ∙ c.if-is_empty.false) in
    let at = c.kid_at_point-at.result in
    let s = inner g.K.Ord.cmp c.args.self.now c.read.result.0.now c.read.result.1.now c.read.result.2.now c.read.ensures.same_view c.read.ensures.sound some in
    let low = inner_low g.K.Ord.cmp c.args.self.now c.read.result.0.now c.read.result.1.now c.read.result.2.now c.read.ensures.same_view c.read.ensures.sound some at c.kid_at_point-at.ensures.in_range in
    let there : suc at < length c.read.result.2.now = omega (arith, ltb-true _ _ (sym c.in-Some-get.ensures.lookup.0)) in
    let kid = rw add-one at c.in-Some-get.ensures.lookup.1 in
    let long : 0 < length c.in-Some-get.kid.now.pairs = subst (λ b. 0 < length b.pairs) (sym kid) (each_at (λ b. 0 < length b.pairs) c.read.result.2.now (suc at) c.in-Some-get.kid.now there (some_kids g.K.Ord.cmp g.met.K.Ord.total (g.P.Point.before c.args.point.now) (g.met.P.Point.downward c.args.point.now) (g.met.P.Point.tied c.args.point.now) c.read.result.1.now c.read.result.2.now s at c.index-kids-at.result c.kid_at_point-at.ensures.in_range low c.kid_at_point-at.ensures.before c.kid_at_point-at.ensures.after)) in
    absurd (some_first c.in-Some-get.kid.now.pairs long (sym c.first.ensures.found ∙ ap (option_map (λ p. (p.0.now, p.1.now))) e))
