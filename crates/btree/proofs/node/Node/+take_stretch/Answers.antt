use Rattle.std.proofs.Common.{◌≡◌, ◌<◌, ◌≤◌, ◌+◌, ◌-◌, ◌∙◌, ◌++◌, suc, true, false, ap, sym, subst, arith, rules, length, get_or}
use borrow.Author.Tests.{eqb-true, eqb-false}
use Rattle.std.specs.Vec.{vec_len}
use Rattle.btree.specs.Branch.{Branch}
use Rattle.btree.specs.Order.{Ascends, Each}
use Rattle.btree.specs.Parts.{flat, IsSure}
use Rattle.btree.specs.Stretch.{IsStretch, IsMended, HasLost, lessened}
use Rattle.btree.proofs.Mending.{get_or_any}
use Rattle.btree.proofs.Nodes.{bare, inner, inner_pairs, inner_size, inner_sorted, inner_levels, inner_level, inner_kid_at, inner_made, kid_ascends, kid_each, leaf_height}
use Rattle.btree.proofs.Stretches.{leaf_stretch, kid_stretch, each_left, lost_loose, lost_inner, set_height, on_ok_on}
use Rattle.btree.proofs.node.Node.+take_stretch.Goals as goal

pub returns-then-is_empty-clause-stretch : goal.returns-then-is_empty-clause-stretch
returns-then-is_empty-clause-stretch g t c =
    let R = g.K.Ord.cmp in
    let i = c.places-places.result.first in
    let j = c.places-places.result.end in
    let from = g.P.Point.before c.args.from.now in
    let to = g.Q.Point.before c.args.to.now in
    let es = c.args.self.now.pairs in
    subst (λ (x : Branch g.row.K.Denot g.row.V.Denot). IsStretch from to es (j - i) x.pairs) (sym c.take_places.ensures.rest) (leaf_stretch from to es i j c.places-places.ensures.run)

pub returns-then-is_empty-clause-lost : goal.returns-then-is_empty-clause-lost
returns-then-is_empty-clause-lost g t c =
    let R = g.K.Ord.cmp in
    let i = c.places-places.result.first in
    let j = c.places-places.result.end in
    let none_len : vec_len c.self.inside.kids ≡ 0 = eqb-true (vec_len c.self.inside.kids) 0 (sym c.is_empty.ensures ∙ c.if-is_empty.true) in
    let none : length c.self.inside.kids.items ≡ 0 = omega (arith, none_len, c.self.inside.kids.ok.0) in
    let height = leaf_height R c.args.self.now c.self.inside.entries.items c.self.inside.separators.items c.self.inside.kids.items c.self.view_is c.self.invariant.0 none in
    let left : (lessened c.args.self.now i j).count + (j - i) ≡ c.args.self.now.count = omega (arith, c.take_places.ensures.count, ap (λ x. x.count) c.take_places.ensures.rest) in
    subst (HasLost c.args.self.now) (sym c.take_places.ensures.rest) record { level = sym height; most = omega (arith, left); least = λ p. absurd (omega (arith, p, height)); full = (omega arith, tt) }

pub take_below-requires-clause-reaches : goal.take_below-requires-clause-reaches
take_below-requires-clause-reaches g t c = rw c.deref-2.ensures.value at c.kid_from-at.ensures.reaches

pub returns-then-is_leaf-clause-lost : goal.returns-then-is_leaf-clause-lost
returns-then-is_leaf-clause-lost g t c =
    let some_len : vec_len c.self.inside.kids ≡ 0 → ⊥ = eqb-false (vec_len c.self.inside.kids) 0 (sym c.is_empty.ensures ∙ c.if-is_empty.false) in
    let some : length c.self.inside.kids.items ≡ 0 → ⊥ = λ e. some_len (c.self.inside.kids.ok.0 ∙ e) in
    let R = g.K.Ord.cmp in
    let ss = c.self.inside.separators.items in
    let ks = c.self.inside.kids.items in
    on_ok_on c.take_below.result (λ m. subst (HasLost c.args.self.now) (sym (inner_made R c.args.self.now c.self.inside.entries.items c.self.inside.separators.items c.self.inside.kids.items c.self.view_is c.self.invariant.0 some c.take_below.new.separators.items c.take_below.new.kids.items))
    (lost_inner R c.args.self.now ss ks c.take_below.new.separators.items c.take_below.new.kids.items m (inner_levels R c.args.self.now c.self.inside.entries.items c.self.inside.separators.items c.self.inside.kids.items c.self.view_is c.self.invariant.0 some) (inner_size R c.args.self.now c.self.inside.entries.items c.self.inside.separators.items c.self.inside.kids.items c.self.view_is c.self.invariant.0 some))) c.take_below.ensures.mended

pub returns-then-is_leaf-clause-sure : goal.returns-then-is_leaf-clause-sure
returns-then-is_leaf-clause-sure g t c = λ short.
    let some_len : vec_len c.self.inside.kids ≡ 0 → ⊥ = eqb-false (vec_len c.self.inside.kids) 0 (sym c.is_empty.ensures ∙ c.if-is_empty.false) in
    let some : length c.self.inside.kids.items ≡ 0 → ⊥ = λ e. some_len (c.self.inside.kids.ok.0 ∙ e) in
    let R = g.K.Ord.cmp in
    let ss = c.self.inside.separators.items in
    let ks = c.self.inside.kids.items in
    c.take_below.ensures.sure (subst (Each (λ e. IsSure g.K.Ord.cmp g.K.Clone.is_clone g.K.Clone.is_infallible e.0)) (inner_pairs R c.args.self.now c.self.inside.entries.items c.self.inside.separators.items c.self.inside.kids.items c.self.view_is c.self.invariant.0 some) short)

pub take_stretch-requires : goal.take_stretch-requires
take_stretch-requires g t c κs within =
    let some_len : vec_len c.self.inside.kids ≡ 0 → ⊥ = eqb-false (vec_len c.self.inside.kids) 0 (sym c.is_empty.ensures ∙ c.if-is_empty.false) in
    let some : length c.self.inside.kids.items ≡ 0 → ⊥ = λ e. some_len (c.self.inside.kids.ok.0 ∙ e) in
    let R = g.K.Ord.cmp in
    let ss = c.self.inside.separators.items in
    let ks = c.self.inside.kids.items in
    let s = inner R c.args.self.now c.self.inside.entries.items c.self.inside.separators.items c.self.inside.kids.items c.self.view_is c.self.invariant.0 some in
    let at = c.kid_from-at.result in
    let low = rw c.deref-2.ensures.value at c.kid_from-at.ensures.in_range in
    let d = c.index_mut.result.now in
    let kid = inner_kid_at R c.args.self.now c.self.inside.entries.items c.self.inside.separators.items c.self.inside.kids.items c.self.view_is c.self.invariant.0 some at d low in
    let sorted : Ascends R d.pairs = subst (λ b. Ascends R b.pairs) (sym c.index_mut.ensures.value) (kid_ascends R c.args.self.now c.self.inside.entries.items c.self.inside.separators.items c.self.inside.kids.items c.self.view_is c.self.invariant.0 some g.met.K.Ord.total at d low c.requires.sorted) in
    let most : d.count ≤ 32 = subst (λ b. b.count ≤ 32) (sym c.index_mut.ensures.value) kid.most in
    let least : 16 ≤ d.count = subst (λ b. 16 ≤ b.count) (sym c.index_mut.ensures.value) kid.least in
    let level : suc d.height ≡ c.args.self.now.height = ap (λ b. suc b.height) c.index_mut.ensures.value ∙ inner_level R c.args.self.now c.self.inside.entries.items c.self.inside.separators.items c.self.inside.kids.items c.self.view_is c.self.invariant.0 some at d low in
    search rules

pub returns-in_err-count-clause-sure : goal.returns-in_err-count-clause-sure
returns-in_err-count-clause-sure g t c = λ short.
    let some_len : vec_len c.self.inside.kids ≡ 0 → ⊥ = eqb-false (vec_len c.self.inside.kids) 0 (sym c.is_empty.ensures ∙ c.if-is_empty.false) in
    let some : length c.self.inside.kids.items ≡ 0 → ⊥ = λ e. some_len (c.self.inside.kids.ok.0 ∙ e) in
    let R = g.K.Ord.cmp in
    let ss = c.self.inside.separators.items in
    let ks = c.self.inside.kids.items in
    let s = inner R c.args.self.now c.self.inside.entries.items c.self.inside.separators.items c.self.inside.kids.items c.self.view_is c.self.invariant.0 some in
    let at = c.kid_from-at.result in
    let low = rw c.deref-2.ensures.value at c.kid_from-at.ensures.in_range in
    let d = c.index_mut.result.now in
    let kid = kid_each R c.args.self.now c.self.inside.entries.items c.self.inside.separators.items c.self.inside.kids.items c.self.view_is c.self.invariant.0 some (λ e. IsSure g.K.Ord.cmp g.K.Clone.is_clone g.K.Clone.is_infallible e.0) at d low short in
    let clash : false ≡ true = c.in_err-count.ensures.sure (subst (λ b. Each (λ e. IsSure g.K.Ord.cmp g.K.Clone.is_clone g.K.Clone.is_infallible e.0) b.pairs) (sym c.index_mut.ensures.value) kid) in
    absurd (cc)

pub mend_inner-requires-clause-loose : goal.mend_inner-requires-clause-loose
mend_inner-requires-clause-loose g t c =
    let some_len : vec_len c.self.inside.kids ≡ 0 → ⊥ = eqb-false (vec_len c.self.inside.kids) 0 (sym c.is_empty.ensures ∙ c.if-is_empty.false) in
    let some : length c.self.inside.kids.items ≡ 0 → ⊥ = λ e. some_len (c.self.inside.kids.ok.0 ∙ e) in
    let R = g.K.Ord.cmp in
    let ss = c.self.inside.separators.items in
    let ks = c.self.inside.kids.items in
    let s = inner R c.args.self.now c.self.inside.entries.items c.self.inside.separators.items c.self.inside.kids.items c.self.view_is c.self.invariant.0 some in
    let at = c.kid_from-at.result in
    let low = rw c.deref-2.ensures.value at c.kid_from-at.ensures.in_range in
    let d = c.index_mut.result.now in
    let b = get_or ks at d in
    let from = g.P.Point.before c.args.from.now in
    let to = g.Q.Point.before c.args.to.now in
    let k = c.take_stretch.new.self in
    let out = c.in_ok-count.count in
    let part = subst (λ (x : Branch g.row.K.Denot g.row.V.Denot). IsStretch from to x.pairs out k.pairs) c.index_mut.ensures.value c.in_ok-count.ensures.stretch in
    let lost = subst (λ (x : Branch g.row.K.Denot g.row.V.Denot). HasLost x k) c.index_mut.ensures.value c.in_ok-count.ensures.lost in
    let same = c.index.ensures ∙ get_or_any at ks c.index.result.now d low in
    let high : 0 < b.height = subst (λ (x : Branch g.row.K.Denot g.row.V.Denot). 0 < x.height) same (c.is_leaf.ensures.inner c.if-is_leaf.false) in
    lost_loose R ss ks s at low d k lost high (λ P h. each_left from to b.pairs out k.pairs part P h)

pub returns-clause-stretch : goal.returns-clause-stretch
returns-clause-stretch g t c =
    let some_len : vec_len c.self.inside.kids ≡ 0 → ⊥ = eqb-false (vec_len c.self.inside.kids) 0 (sym c.is_empty.ensures ∙ c.if-is_empty.false) in
    let some : length c.self.inside.kids.items ≡ 0 → ⊥ = λ e. some_len (c.self.inside.kids.ok.0 ∙ e) in
    let R = g.K.Ord.cmp in
    let ss = c.self.inside.separators.items in
    let ks = c.self.inside.kids.items in
    let s = inner R c.args.self.now c.self.inside.entries.items c.self.inside.separators.items c.self.inside.kids.items c.self.view_is c.self.invariant.0 some in
    let at = c.kid_from-at.result in
    let low = rw c.deref-2.ensures.value at c.kid_from-at.ensures.in_range in
    let d = c.index_mut.result.now in
    let b = get_or ks at d in
    let from = g.P.Point.before c.args.from.now in
    let to = g.Q.Point.before c.args.to.now in
    let k = c.take_stretch.new.self in
    let out = c.in_ok-count.count in
    let part = subst (λ (x : Branch g.row.K.Denot g.row.V.Denot). IsStretch from to x.pairs out k.pairs) c.index_mut.ensures.value c.in_ok-count.ensures.stretch in
    let lost = subst (λ (x : Branch g.row.K.Denot g.row.V.Denot). HasLost x k) c.index_mut.ensures.value c.in_ok-count.ensures.lost in
    let ahead = rw c.deref-2.ensures.value at c.kid_from-at.ensures.ahead in
    let reaches = rw c.deref-2.ensures.value at c.kid_from-at.ensures.reaches in
    let sorted = inner_sorted R c.args.self.now c.self.inside.entries.items c.self.inside.separators.items c.self.inside.kids.items c.self.view_is c.self.invariant.0 some c.requires.sorted in
    let whole = kid_stretch R from to (g.met.Q.Point.downward c.args.to.now) ss ks s at d low sorted ahead (λ p. reaches p d) out k part in
    let pairs = inner_pairs R c.args.self.now c.self.inside.entries.items c.self.inside.separators.items c.self.inside.kids.items c.self.view_is c.self.invariant.0 some in
    let left = ap (λ zs. zs ++ flat c.mend_inner.new.kids.items) (bare R c.args.self.now c.self.inside.entries.items c.self.inside.separators.items c.self.inside.kids.items c.self.view_is c.self.invariant.0 some) ∙ c.mend_inner.ensures.pairs in
    subst (λ zs. IsStretch from to zs out (c.self.inside.entries.items ++ flat c.mend_inner.new.kids.items)) (sym pairs) (subst (IsStretch from to (flat ks) out) (sym left) whole)

pub returns-clause-lost : goal.returns-clause-lost
returns-clause-lost g t c =
    let some_len : vec_len c.self.inside.kids ≡ 0 → ⊥ = eqb-false (vec_len c.self.inside.kids) 0 (sym c.is_empty.ensures ∙ c.if-is_empty.false) in
    let some : length c.self.inside.kids.items ≡ 0 → ⊥ = λ e. some_len (c.self.inside.kids.ok.0 ∙ e) in
    let R = g.K.Ord.cmp in
    let ss = c.self.inside.separators.items in
    let ks = c.self.inside.kids.items in
    let s = inner R c.args.self.now c.self.inside.entries.items c.self.inside.separators.items c.self.inside.kids.items c.self.view_is c.self.invariant.0 some in
    let at = c.kid_from-at.result in
    let low = rw c.deref-2.ensures.value at c.kid_from-at.ensures.in_range in
    let d = c.index_mut.result.now in
    let b = get_or ks at d in
    let from = g.P.Point.before c.args.from.now in
    let to = g.Q.Point.before c.args.to.now in
    let k = c.take_stretch.new.self in
    let out = c.in_ok-count.count in
    let part = subst (λ (x : Branch g.row.K.Denot g.row.V.Denot). IsStretch from to x.pairs out k.pairs) c.index_mut.ensures.value c.in_ok-count.ensures.stretch in
    let lost = subst (λ (x : Branch g.row.K.Denot g.row.V.Denot). HasLost x k) c.index_mut.ensures.value c.in_ok-count.ensures.lost in
    let height = c.mend_inner.ensures.height ∙ set_height at ks d k low lost.level in
    let mended : IsMended R ss ks c.mend_inner.new.separators.items c.mend_inner.new.kids.items = record { node = c.mend_inner.ensures.node; height = height; most = c.mend_inner.ensures.most; least = c.mend_inner.ensures.least } in
    subst (HasLost c.args.self.now) (sym (inner_made R c.args.self.now c.self.inside.entries.items c.self.inside.separators.items c.self.inside.kids.items c.self.view_is c.self.invariant.0 some c.mend_inner.new.separators.items c.mend_inner.new.kids.items))
    (lost_inner R c.args.self.now ss ks c.mend_inner.new.separators.items c.mend_inner.new.kids.items mended (inner_levels R c.args.self.now c.self.inside.entries.items c.self.inside.separators.items c.self.inside.kids.items c.self.view_is c.self.invariant.0 some) (inner_size R c.args.self.now c.self.inside.entries.items c.self.inside.separators.items c.self.inside.kids.items c.self.view_is c.self.invariant.0 some))
