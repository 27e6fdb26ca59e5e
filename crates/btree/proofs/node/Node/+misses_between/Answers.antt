use Rattle.std.proofs.Common.{◌≡◌, ◌≤◌, ◌∙◌, suc, IsSome, ap, sym, subst, arith, rules, refl, length, take, get_or}
use Rattle.std.specs.Option.{option_map, option_or}
use Rattle.std.specs.Vec.{vec_len}
use borrow.Author.Tests.{eqb-true, eqb-false}
use Rattle.std.specs.FinMap.Entries.{find}
use Rattle.btree.specs.Order.{Ascends, Each, last_of}
use Rattle.btree.specs.Parts.{IsWithin}
use Rattle.btree.proofs.Nodes.{leaf_row, leaf_sorted, leaf_each, inner_low, inner_level, inner_kid_at, kid_ascends}
use Rattle.btree.proofs.Gaps.{kid_inside, key_within, key_missed}
use Rattle.btree.proofs.node.Node.+misses_between.Goals as goal

pub gap_beside-requires : goal.gap_beside-requires
gap_beside-requires g t c =
    let none_len : vec_len c.self.inside.kids ≡ 0 = eqb-true (vec_len c.self.inside.kids) 0 (sym c.is_empty.ensures ∙ c.if-is_empty.true) in
    let none : length c.self.inside.kids.items ≡ 0 = omega (arith, none_len, c.self.inside.kids.ok.0) in
    let low = option_map (λ k. k.now) c.args.low in
    let high = option_map (λ k. k.now) c.args.high in
    record { sorted = rw c.deref.ensures.value (leaf_sorted g.K.Ord.cmp c.args.self.now c.self.inside.entries.items c.self.inside.separators.items c.self.inside.kids.items c.self.view_is c.self.invariant.0 none c.requires.sorted); inside = rw c.deref.ensures.value (leaf_each g.K.Ord.cmp c.args.self.now c.self.inside.entries.items c.self.inside.separators.items c.self.inside.kids.items c.self.view_is c.self.invariant.0 none (λ e. IsWithin g.K.Ord.cmp low high e.0) c.requires.inside) }

pub returns-then-is_empty-clause-missed : goal.returns-then-is_empty-clause-missed
returns-then-is_empty-clause-missed g t c = λ _.
    let none_len : vec_len c.self.inside.kids ≡ 0 = eqb-true (vec_len c.self.inside.kids) 0 (sym c.is_empty.ensures ∙ c.if-is_empty.true) in
    let none : length c.self.inside.kids.items ≡ 0 = omega (arith, none_len, c.self.inside.kids.ok.0) in
    ap (find g.K.Ord.cmp c.args.key.now) (leaf_row g.K.Ord.cmp c.args.self.now c.self.inside.entries.items c.self.inside.separators.items c.self.inside.kids.items c.self.view_is c.self.invariant.0 none) ∙ (rw c.deref.ensures.value at c.gap_beside.ensures.missed) (subst IsSome (sym c.in-Some.is) refl)

pub misses_between-requires : goal.misses_between-requires
misses_between-requires g t c κs within =
    let some_len : vec_len c.self.inside.kids ≡ 0 → ⊥ = eqb-false (vec_len c.self.inside.kids) 0 (sym c.is_empty.ensures ∙ c.if-is_empty.false) in
    let some : length c.self.inside.kids.items ≡ 0 → ⊥ = λ e. some_len (c.self.inside.kids.ok.0 ∙ e) in
    let at = c.place-at.result in
    let in_range : at ≤ length c.self.inside.separators.items = omega (arith, c.self.inside.separators.ok.0) in
    let low = option_map (λ k. k.now) c.args.low in
    let high = option_map (λ k. k.now) c.args.high in
    let below = rw c.deref-2.ensures.value at c.separator_before-low.ensures in
    let above = rw c.deref-3.ensures.value at c.separator_after-high.ensures in
    let in_kids = inner_low g.K.Ord.cmp c.args.self.now c.self.inside.entries.items c.self.inside.separators.items c.self.inside.kids.items c.self.view_is c.self.invariant.0 some at in_range in
    let kid = inner_kid_at g.K.Ord.cmp c.args.self.now c.self.inside.entries.items c.self.inside.separators.items c.self.inside.kids.items c.self.view_is c.self.invariant.0 some at c.index.result.now in_kids in
    let sorted : Ascends g.K.Ord.cmp c.index.result.now.pairs = subst (λ b. Ascends g.K.Ord.cmp b.pairs) (sym c.index.ensures) (kid_ascends g.K.Ord.cmp c.args.self.now c.self.inside.entries.items c.self.inside.separators.items c.self.inside.kids.items c.self.view_is c.self.invariant.0 some g.met.K.Ord.total at c.index.result.now in_kids c.requires.sorted) in
    let most : c.index.result.now.count ≤ 32 = subst (λ b. b.count ≤ 32) (sym c.index.ensures) kid.most in
    let level : suc c.index.result.now.height ≡ c.args.self.now.height = ap (λ b. suc b.height) c.index.ensures ∙ inner_level g.K.Ord.cmp c.args.self.now c.self.inside.entries.items c.self.inside.separators.items c.self.inside.kids.items c.self.view_is c.self.invariant.0 some at c.index.result.now in_kids in
    let inside : Each (λ e. IsWithin g.K.Ord.cmp (option_map (λ k. k.now) c.separator_before-low.result) (option_map (λ k. k.now) c.separator_after-high.result) e.0) c.index.result.now.pairs =
    subst (λ b. Each (λ e. IsWithin g.K.Ord.cmp (option_map (λ k. k.now) c.separator_before-low.result) (option_map (λ k. k.now) c.separator_after-high.result) e.0) b.pairs) (sym c.index.ensures)
    (subst (λ l. Each (λ e. IsWithin g.K.Ord.cmp l (option_map (λ k. k.now) c.separator_after-high.result) e.0) (get_or c.self.inside.kids.items at c.index.result.now).pairs) (sym below)
    (subst (λ h. Each (λ e. IsWithin g.K.Ord.cmp (option_or (last_of (take at c.self.inside.separators.items)) low) h e.0) (get_or c.self.inside.kids.items at c.index.result.now).pairs) (sym above)
    (kid_inside g.K.Ord.cmp g.met.K.Ord.total c.args.self.now c.self.inside.entries.items c.self.inside.separators.items c.self.inside.kids.items c.self.view_is c.self.invariant.0 some at c.index.result.now c.index.result.now low high in_range c.requires.sorted c.requires.inside))) in
    search rules

pub returns-clause-missed : goal.returns-clause-missed
returns-clause-missed g t c = λ done.
    let some_len : vec_len c.self.inside.kids ≡ 0 → ⊥ = eqb-false (vec_len c.self.inside.kids) 0 (sym c.is_empty.ensures ∙ c.if-is_empty.false) in
    let some : length c.self.inside.kids.items ≡ 0 → ⊥ = λ e. some_len (c.self.inside.kids.ok.0 ∙ e) in
    let at = c.place-at.result in
    let in_range : at ≤ length c.self.inside.separators.items = omega (arith, c.self.inside.separators.ok.0) in
    let low = option_map (λ k. k.now) c.args.low in
    let high = option_map (λ k. k.now) c.args.high in
    let below = rw c.deref-2.ensures.value at c.separator_before-low.ensures in
    let above = rw c.deref-3.ensures.value at c.separator_after-high.ensures in
    let in_kids = inner_low g.K.Ord.cmp c.args.self.now c.self.inside.entries.items c.self.inside.separators.items c.self.inside.kids.items c.self.view_is c.self.invariant.0 some at in_range in
    let within = subst (λ h. IsWithin g.K.Ord.cmp (option_or (last_of (take at c.self.inside.separators.items)) low) h c.args.key.now) above
    (subst (λ l. IsWithin g.K.Ord.cmp l (option_map (λ k. k.now) c.separator_after-high.result) c.args.key.now) below (c.misses_between.ensures.within done)) in
    key_missed g.K.Ord.cmp g.met.K.Ord.total c.args.self.now c.self.inside.entries.items c.self.inside.separators.items c.self.inside.kids.items c.self.view_is c.self.invariant.0 some at c.index.result.now c.index.result.now low high in_range c.requires.sorted c.requires.inside c.args.key.now within (ap (λ b. find g.K.Ord.cmp c.args.key.now b.pairs) (sym c.index.ensures) ∙ c.misses_between.ensures.missed done)

pub returns-clause-within : goal.returns-clause-within
returns-clause-within g t c = λ done.
    let some_len : vec_len c.self.inside.kids ≡ 0 → ⊥ = eqb-false (vec_len c.self.inside.kids) 0 (sym c.is_empty.ensures ∙ c.if-is_empty.false) in
    let some : length c.self.inside.kids.items ≡ 0 → ⊥ = λ e. some_len (c.self.inside.kids.ok.0 ∙ e) in
    let at = c.place-at.result in
    let in_range : at ≤ length c.self.inside.separators.items = omega (arith, c.self.inside.separators.ok.0) in
    let low = option_map (λ k. k.now) c.args.low in
    let high = option_map (λ k. k.now) c.args.high in
    let below = rw c.deref-2.ensures.value at c.separator_before-low.ensures in
    let above = rw c.deref-3.ensures.value at c.separator_after-high.ensures in
    let in_kids = inner_low g.K.Ord.cmp c.args.self.now c.self.inside.entries.items c.self.inside.separators.items c.self.inside.kids.items c.self.view_is c.self.invariant.0 some at in_range in
    let within = subst (λ h. IsWithin g.K.Ord.cmp (option_or (last_of (take at c.self.inside.separators.items)) low) h c.args.key.now) above
    (subst (λ l. IsWithin g.K.Ord.cmp l (option_map (λ k. k.now) c.separator_after-high.result) c.args.key.now) below (c.misses_between.ensures.within done)) in
    key_within g.K.Ord.cmp g.met.K.Ord.total c.args.self.now c.self.inside.entries.items c.self.inside.separators.items c.self.inside.kids.items c.self.view_is c.self.invariant.0 some at c.index.result.now c.index.result.now low high in_range c.requires.sorted c.requires.inside c.args.key.now within
