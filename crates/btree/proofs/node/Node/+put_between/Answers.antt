use Rattle.std.proofs.Common.{◌≡◌, ◌≤◌, ◌∙◌, suc, true, false, Option, Some, None, IfSome, append-nil, ap, sym, subst, arith, rules, length, take, slice_set, get_or}
use Rattle.std.specs.Option.{option_map, option_or}
use Rattle.std.specs.List.{slice_get}
use Rattle.std.specs.Vec.{vec_len}
use Rattle.std.proofs.lemmas.List.{length-set}
use borrow.Author.Tests.{eqb-true, eqb-false}
use Rattle.btree.specs.Order.{Ascends, Each, last_of}
use Rattle.btree.specs.Parts.{IsWithin}
use Rattle.btree.specs.Gap.{IsPutIn}
use Rattle.btree.specs.Branch.{Branch}
use Rattle.btree.specs.Rows.{branch_of, IsKid}
use Rattle.btree.proofs.Leaves.{if_some_on}
use Rattle.btree.proofs.Nodes.{leaf_row, leaf_size, leaf_made, leaf_node, leaf_sorted, leaf_each, leaf_same_size, same_here, inner_low, inner_level, inner_kid_at, inner_node, kid_ascends}
use Rattle.btree.proofs.Gaps.{kid_inside, key_within, put_case, put_up}
use Rattle.btree.proofs.node.Node.+put_between.Goals as goal

pub put_between-requires : goal.put_between-requires
put_between-requires g t c κs within =
    let some_len : vec_len c.self.inside.kids ≡ 0 → ⊥ = eqb-false (vec_len c.self.inside.kids) 0 (sym c.is_empty.ensures ∙ c.if-is_empty.false) in
    let some : length c.self.inside.kids.items ≡ 0 → ⊥ = λ e. some_len (c.self.inside.kids.ok.0 ∙ e) in
    let at = c.place-at.result in
    let in_range : at ≤ length c.self.inside.separators.items = omega (arith, c.self.inside.separators.ok.0) in
    let low = option_map (λ k. k.now) c.args.low in
    let high = option_map (λ k. k.now) c.args.high in
    let below = rw c.deref.ensures.value at c.separator_before-low.ensures in
    let above = rw c.deref-2.ensures.value at c.separator_after-high.ensures in
    let in_kids = inner_low g.K.Ord.cmp c.args.self.now c.self.inside.entries.items c.self.inside.separators.items c.self.inside.kids.items c.self.view_is c.self.invariant.0 some at in_range in
    let kid = inner_kid_at g.K.Ord.cmp c.args.self.now c.self.inside.entries.items c.self.inside.separators.items c.self.inside.kids.items c.self.view_is c.self.invariant.0 some at c.index_mut.result.now in_kids in
    let sorted : Ascends g.K.Ord.cmp c.index_mut.result.now.pairs = subst (λ b. Ascends g.K.Ord.cmp b.pairs) (sym c.index_mut.ensures.value) (kid_ascends g.K.Ord.cmp c.args.self.now c.self.inside.entries.items c.self.inside.separators.items c.self.inside.kids.items c.self.view_is c.self.invariant.0 some g.met.K.Ord.total at c.index_mut.result.now in_kids c.requires.sorted) in
    let most : c.index_mut.result.now.count ≤ 32 = subst (λ b. b.count ≤ 32) (sym c.index_mut.ensures.value) kid.most in
    let level : suc c.index_mut.result.now.height ≡ c.args.self.now.height = ap (λ b. suc b.height) c.index_mut.ensures.value ∙ inner_level g.K.Ord.cmp c.args.self.now c.self.inside.entries.items c.self.inside.separators.items c.self.inside.kids.items c.self.view_is c.self.invariant.0 some at c.index_mut.result.now in_kids in
    let inside : Each (λ e. IsWithin g.K.Ord.cmp (option_map (λ k. k.now) c.separator_before-low.result) (option_map (λ k. k.now) c.separator_after-high.result) e.0) c.index_mut.result.now.pairs =
    subst (λ b. Each (λ e. IsWithin g.K.Ord.cmp (option_map (λ k. k.now) c.separator_before-low.result) (option_map (λ k. k.now) c.separator_after-high.result) e.0) b.pairs) (sym c.index_mut.ensures.value)
    (subst (λ l. Each (λ e. IsWithin g.K.Ord.cmp l (option_map (λ k. k.now) c.separator_after-high.result) e.0) (get_or c.self.inside.kids.items at c.index_mut.result.now).pairs) (sym below)
    (subst (λ h. Each (λ e. IsWithin g.K.Ord.cmp (option_or (last_of (take at c.self.inside.separators.items)) low) h e.0) (get_or c.self.inside.kids.items at c.index_mut.result.now).pairs) (sym above)
    (kid_inside g.K.Ord.cmp g.met.K.Ord.total c.args.self.now c.self.inside.entries.items c.self.inside.separators.items c.self.inside.kids.items c.self.view_is c.self.invariant.0 some at c.index_mut.result.now c.index_mut.result.now low high in_range c.requires.sorted c.requires.inside))) in
    search rules

pub invariant_of-self-2 : goal.invariant_of-self-2
invariant_of-self-2 g t c =
    let some_len : vec_len c.self.inside.kids ≡ 0 → ⊥ = eqb-false (vec_len c.self.inside.kids) 0 (sym c.is_empty.ensures ∙ c.if-is_empty.false) in
    let some : length c.self.inside.kids.items ≡ 0 → ⊥ = λ e. some_len (c.self.inside.kids.ok.0 ∙ e) in
    let at = c.place-at.result in
    let in_range : at ≤ length c.self.inside.separators.items = omega (arith, c.self.inside.separators.ok.0) in
    let low = option_map (λ k. k.now) c.args.low in
    let high = option_map (λ k. k.now) c.args.high in
    let below = rw c.deref.ensures.value at c.separator_before-low.ensures in
    let above = rw c.deref-2.ensures.value at c.separator_after-high.ensures in
    let in_kids = inner_low g.K.Ord.cmp c.args.self.now c.self.inside.entries.items c.self.inside.separators.items c.self.inside.kids.items c.self.view_is c.self.invariant.0 some at in_range in
    let same = subst (λ (k : Branch g.row.K.Denot g.row.V.Denot). IsKid k.count k.height c.put_between.new.self) c.index_mut.ensures.value c.put_between.ensures.same_size in
    let put_in : c.put_between.result ≡ true → IfSome c.args.pair.now (λ p. IsPutIn g.K.Ord.cmp p.0 p.1 (get_or c.self.inside.kids.items at c.index_mut.result.now).pairs c.put_between.new.self.pairs) = λ t. subst (λ (k : Branch g.row.K.Denot g.row.V.Denot). IfSome c.args.pair.now (λ p. IsPutIn g.K.Ord.cmp p.0 p.1 k.pairs c.put_between.new.self.pairs)) c.index_mut.ensures.value (c.put_between.ensures.put t) in
    let within : c.put_between.result ≡ true → IfSome c.args.pair.now (λ p. IsWithin g.K.Ord.cmp (option_or (last_of (take at c.self.inside.separators.items)) low) (option_or (slice_get c.self.inside.separators.items at) high) p.0) = λ t. subst (λ h. IfSome c.args.pair.now (λ p. IsWithin g.K.Ord.cmp (option_or (last_of (take at c.self.inside.separators.items)) low) h p.0)) above
    (subst (λ l. IfSome c.args.pair.now (λ p. IsWithin g.K.Ord.cmp l (option_map (λ k. k.now) c.separator_after-high.result) p.0)) below (c.put_between.ensures.within t)) in
    let kept : c.put_between.result ≡ false → c.put_between.new.self ≡ get_or c.self.inside.kids.items at c.index_mut.result.now = λ t. c.put_between.ensures.kept t ∙ c.index_mut.ensures.value in
    let size = length-set c.self.inside.kids.items at c.put_between.new.self in
    (inner_node g.K.Ord.cmp c.args.self.now c.self.inside.entries.items c.self.inside.separators.items c.self.inside.kids.items c.self.view_is c.self.invariant.0 some c.self.inside.separators.items (slice_set c.self.inside.kids.items at c.put_between.new.self) (put_case g.K.Ord.cmp g.met.K.Ord.total c.args.self.now c.self.inside.entries.items c.self.inside.separators.items c.self.inside.kids.items c.self.view_is c.self.invariant.0 some at c.index_mut.result.now c.put_between.new.self low high in_range c.requires.sorted c.requires.inside c.put_between.result c.args.pair.now c.put_between.ensures.some put_in within kept same c.requires.fits).0, c.self.invariant.1, λ p. c.self.invariant.2 (omega (arith, size, p)))

pub returns-clause-same_size : goal.returns-clause-same_size
returns-clause-same_size g t c =
    let some_len : vec_len c.self.inside.kids ≡ 0 → ⊥ = eqb-false (vec_len c.self.inside.kids) 0 (sym c.is_empty.ensures ∙ c.if-is_empty.false) in
    let some : length c.self.inside.kids.items ≡ 0 → ⊥ = λ e. some_len (c.self.inside.kids.ok.0 ∙ e) in
    let at = c.place-at.result in
    let in_range : at ≤ length c.self.inside.separators.items = omega (arith, c.self.inside.separators.ok.0) in
    let low = option_map (λ k. k.now) c.args.low in
    let high = option_map (λ k. k.now) c.args.high in
    let below = rw c.deref.ensures.value at c.separator_before-low.ensures in
    let above = rw c.deref-2.ensures.value at c.separator_after-high.ensures in
    let in_kids = inner_low g.K.Ord.cmp c.args.self.now c.self.inside.entries.items c.self.inside.separators.items c.self.inside.kids.items c.self.view_is c.self.invariant.0 some at in_range in
    let same = subst (λ (k : Branch g.row.K.Denot g.row.V.Denot). IsKid k.count k.height c.put_between.new.self) c.index_mut.ensures.value c.put_between.ensures.same_size in
    let put_in : c.put_between.result ≡ true → IfSome c.args.pair.now (λ p. IsPutIn g.K.Ord.cmp p.0 p.1 (get_or c.self.inside.kids.items at c.index_mut.result.now).pairs c.put_between.new.self.pairs) = λ t. subst (λ (k : Branch g.row.K.Denot g.row.V.Denot). IfSome c.args.pair.now (λ p. IsPutIn g.K.Ord.cmp p.0 p.1 k.pairs c.put_between.new.self.pairs)) c.index_mut.ensures.value (c.put_between.ensures.put t) in
    let within : c.put_between.result ≡ true → IfSome c.args.pair.now (λ p. IsWithin g.K.Ord.cmp (option_or (last_of (take at c.self.inside.separators.items)) low) (option_or (slice_get c.self.inside.separators.items at) high) p.0) = λ t. subst (λ h. IfSome c.args.pair.now (λ p. IsWithin g.K.Ord.cmp (option_or (last_of (take at c.self.inside.separators.items)) low) h p.0)) above
    (subst (λ l. IfSome c.args.pair.now (λ p. IsWithin g.K.Ord.cmp l (option_map (λ k. k.now) c.separator_after-high.result) p.0)) below (c.put_between.ensures.within t)) in
    let kept : c.put_between.result ≡ false → c.put_between.new.self ≡ get_or c.self.inside.kids.items at c.index_mut.result.now = λ t. c.put_between.ensures.kept t ∙ c.index_mut.ensures.value in
    (put_case g.K.Ord.cmp g.met.K.Ord.total c.args.self.now c.self.inside.entries.items c.self.inside.separators.items c.self.inside.kids.items c.self.view_is c.self.invariant.0 some at c.index_mut.result.now c.put_between.new.self low high in_range c.requires.sorted c.requires.inside c.put_between.result c.args.pair.now c.put_between.ensures.some put_in within kept same c.requires.fits).1

pub returns-clause-put : goal.returns-clause-put
returns-clause-put g t c = λ done.
    let some_len : vec_len c.self.inside.kids ≡ 0 → ⊥ = eqb-false (vec_len c.self.inside.kids) 0 (sym c.is_empty.ensures ∙ c.if-is_empty.false) in
    let some : length c.self.inside.kids.items ≡ 0 → ⊥ = λ e. some_len (c.self.inside.kids.ok.0 ∙ e) in
    let at = c.place-at.result in
    let in_range : at ≤ length c.self.inside.separators.items = omega (arith, c.self.inside.separators.ok.0) in
    let low = option_map (λ k. k.now) c.args.low in
    let high = option_map (λ k. k.now) c.args.high in
    let below = rw c.deref.ensures.value at c.separator_before-low.ensures in
    let above = rw c.deref-2.ensures.value at c.separator_after-high.ensures in
    let in_kids = inner_low g.K.Ord.cmp c.args.self.now c.self.inside.entries.items c.self.inside.separators.items c.self.inside.kids.items c.self.view_is c.self.invariant.0 some at in_range in
    let same = subst (λ (k : Branch g.row.K.Denot g.row.V.Denot). IsKid k.count k.height c.put_between.new.self) c.index_mut.ensures.value c.put_between.ensures.same_size in
    let put_in : c.put_between.result ≡ true → IfSome c.args.pair.now (λ p. IsPutIn g.K.Ord.cmp p.0 p.1 (get_or c.self.inside.kids.items at c.index_mut.result.now).pairs c.put_between.new.self.pairs) = λ t. subst (λ (k : Branch g.row.K.Denot g.row.V.Denot). IfSome c.args.pair.now (λ p. IsPutIn g.K.Ord.cmp p.0 p.1 k.pairs c.put_between.new.self.pairs)) c.index_mut.ensures.value (c.put_between.ensures.put t) in
    let within : c.put_between.result ≡ true → IfSome c.args.pair.now (λ p. IsWithin g.K.Ord.cmp (option_or (last_of (take at c.self.inside.separators.items)) low) (option_or (slice_get c.self.inside.separators.items at) high) p.0) = λ t. subst (λ h. IfSome c.args.pair.now (λ p. IsWithin g.K.Ord.cmp (option_or (last_of (take at c.self.inside.separators.items)) low) h p.0)) above
    (subst (λ l. IfSome c.args.pair.now (λ p. IsWithin g.K.Ord.cmp l (option_map (λ k. k.now) c.separator_after-high.result) p.0)) below (c.put_between.ensures.within t)) in
    let kept : c.put_between.result ≡ false → c.put_between.new.self ≡ get_or c.self.inside.kids.items at c.index_mut.result.now = λ t. c.put_between.ensures.kept t ∙ c.index_mut.ensures.value in
    both c.args.pair.now (put_in done) (within done) (λ q x y. put_up g.K.Ord.cmp g.met.K.Ord.total c.args.self.now c.self.inside.entries.items c.self.inside.separators.items c.self.inside.kids.items c.self.view_is c.self.invariant.0 some at c.index_mut.result.now c.put_between.new.self low high in_range c.requires.sorted c.requires.inside q same x y)
  where
    both : {A : Type 0} {P S Q : A → Type 0} (o : Option A) → IfSome o P → IfSome o S → ((x : A) → P x → S x → Q x) → IfSome o Q
    both None p s f = tt
    both (Some x) p s f = f x p s

pub returns-clause-within : goal.returns-clause-within
returns-clause-within g t c = λ done.
    let some_len : vec_len c.self.inside.kids ≡ 0 → ⊥ = eqb-false (vec_len c.self.inside.kids) 0 (sym c.is_empty.ensures ∙ c.if-is_empty.false) in
    let some : length c.self.inside.kids.items ≡ 0 → ⊥ = λ e. some_len (c.self.inside.kids.ok.0 ∙ e) in
    let at = c.place-at.result in
    let in_range : at ≤ length c.self.inside.separators.items = omega (arith, c.self.inside.separators.ok.0) in
    let low = option_map (λ k. k.now) c.args.low in
    let high = option_map (λ k. k.now) c.args.high in
    let below = rw c.deref.ensures.value at c.separator_before-low.ensures in
    let above = rw c.deref-2.ensures.value at c.separator_after-high.ensures in
    let in_kids = inner_low g.K.Ord.cmp c.args.self.now c.self.inside.entries.items c.self.inside.separators.items c.self.inside.kids.items c.self.view_is c.self.invariant.0 some at in_range in
    let same = subst (λ (k : Branch g.row.K.Denot g.row.V.Denot). IsKid k.count k.height c.put_between.new.self) c.index_mut.ensures.value c.put_between.ensures.same_size in
    let put_in : c.put_between.result ≡ true → IfSome c.args.pair.now (λ p. IsPutIn g.K.Ord.cmp p.0 p.1 (get_or c.self.inside.kids.items at c.index_mut.result.now).pairs c.put_between.new.self.pairs) = λ t. subst (λ (k : Branch g.row.K.Denot g.row.V.Denot). IfSome c.args.pair.now (λ p. IsPutIn g.K.Ord.cmp p.0 p.1 k.pairs c.put_between.new.self.pairs)) c.index_mut.ensures.value (c.put_between.ensures.put t) in
    let within : c.put_between.result ≡ true → IfSome c.args.pair.now (λ p. IsWithin g.K.Ord.cmp (option_or (last_of (take at c.self.inside.separators.items)) low) (option_or (slice_get c.self.inside.separators.items at) high) p.0) = λ t. subst (λ h. IfSome c.args.pair.now (λ p. IsWithin g.K.Ord.cmp (option_or (last_of (take at c.self.inside.separators.items)) low) h p.0)) above
    (subst (λ l. IfSome c.args.pair.now (λ p. IsWithin g.K.Ord.cmp l (option_map (λ k. k.now) c.separator_after-high.result) p.0)) below (c.put_between.ensures.within t)) in
    let kept : c.put_between.result ≡ false → c.put_between.new.self ≡ get_or c.self.inside.kids.items at c.index_mut.result.now = λ t. c.put_between.ensures.kept t ∙ c.index_mut.ensures.value in
    if_some_on c.args.pair.now (λ q x. key_within g.K.Ord.cmp g.met.K.Ord.total c.args.self.now c.self.inside.entries.items c.self.inside.separators.items c.self.inside.kids.items c.self.view_is c.self.invariant.0 some at c.index_mut.result.now c.put_between.new.self low high in_range c.requires.sorted c.requires.inside q.0 x) (within done)

pub insert_between-requires : goal.insert_between-requires
insert_between-requires g t c =
    let none_len : vec_len c.self.inside.kids ≡ 0 = eqb-true (vec_len c.self.inside.kids) 0 (sym c.is_empty.ensures ∙ c.if-is_empty.true) in
    let none : length c.self.inside.kids.items ≡ 0 = omega (arith, none_len, c.self.inside.kids.ok.0) in
    let low = option_map (λ k. k.now) c.args.low in
    let high = option_map (λ k. k.now) c.args.high in
    record { in_range = omega (arith, c.self.inside.entries.ok.0); sorted = leaf_sorted g.K.Ord.cmp c.args.self.now c.self.inside.entries.items c.self.inside.separators.items c.self.inside.kids.items c.self.view_is c.self.invariant.0 none c.requires.sorted; inside = leaf_each g.K.Ord.cmp c.args.self.now c.self.inside.entries.items c.self.inside.separators.items c.self.inside.kids.items c.self.view_is c.self.invariant.0 none (λ e. IsWithin g.K.Ord.cmp low high e.0) c.requires.inside }

pub invariant_of-self : goal.invariant_of-self
invariant_of-self g t c =
    let none_len : vec_len c.self.inside.kids ≡ 0 = eqb-true (vec_len c.self.inside.kids) 0 (sym c.is_empty.ensures ∙ c.if-is_empty.true) in
    let none : length c.self.inside.kids.items ≡ 0 = omega (arith, none_len, c.self.inside.kids.ok.0) in
    (leaf_node g.K.Ord.cmp c.args.self.now c.self.inside.entries.items c.self.inside.separators.items c.self.inside.kids.items c.self.view_is c.self.invariant.0 none c.insert_between.new.row.items, c.insert_between.ensures.room c.self.invariant.1, c.self.invariant.2)

pub returns-then-is_empty-clause-put : goal.returns-then-is_empty-clause-put
returns-then-is_empty-clause-put g t c = λ done.
    let none_len : vec_len c.self.inside.kids ≡ 0 = eqb-true (vec_len c.self.inside.kids) 0 (sym c.is_empty.ensures ∙ c.if-is_empty.true) in
    let none : length c.self.inside.kids.items ≡ 0 = omega (arith, none_len, c.self.inside.kids.ok.0) in
    let new = ap (λ b. b.pairs) (leaf_made g.K.Ord.cmp c.args.self.now c.self.inside.entries.items c.self.inside.separators.items c.self.inside.kids.items c.self.view_is c.self.invariant.0 none c.insert_between.new.row.items) ∙ append-nil c.insert_between.new.row.items in
    if_some_on c.args.pair.now (λ p x. subst (λ ps. IsPutIn g.K.Ord.cmp p.0 p.1 ps (branch_of c.insert_between.new.row.items c.self.inside.separators.items c.self.inside.kids.items).pairs) (sym (leaf_row g.K.Ord.cmp c.args.self.now c.self.inside.entries.items c.self.inside.separators.items c.self.inside.kids.items c.self.view_is c.self.invariant.0 none)) (subst (λ ps. IsPutIn g.K.Ord.cmp p.0 p.1 c.self.inside.entries.items ps) (sym new) x)) (c.insert_between.ensures.put done)

pub returns-then-is_empty-clause-same_size : goal.returns-then-is_empty-clause-same_size
returns-then-is_empty-clause-same_size g t c =
    let none_len : vec_len c.self.inside.kids ≡ 0 = eqb-true (vec_len c.self.inside.kids) 0 (sym c.is_empty.ensures ∙ c.if-is_empty.true) in
    let none : length c.self.inside.kids.items ≡ 0 = omega (arith, none_len, c.self.inside.kids.ok.0) in
    let n = leaf_size g.K.Ord.cmp c.args.self.now c.self.inside.entries.items c.self.inside.separators.items c.self.inside.kids.items c.self.view_is c.self.invariant.0 none in
    leaf_same_size g.K.Ord.cmp c.args.self.now c.self.inside.entries.items c.self.inside.separators.items c.self.inside.kids.items c.self.view_is c.self.invariant.0 none c.insert_between.new.row.items c.insert_between.ensures.least (c.insert_between.ensures.most (omega (arith, n, c.requires.fits)))

pub returns-then-at-len-2-clause-same_size : goal.returns-then-at-len-2-clause-same_size
returns-then-at-len-2-clause-same_size g t c = same_here g.K.Ord.cmp c.args.self.now c.self.inside.entries.items c.self.inside.separators.items c.self.inside.kids.items c.self.view_is c.self.invariant.0 c.requires.fits
