use Rattle.std.proofs.Common.{◌≡◌, ◌≤◌, ◌∙◌, suc, Some, None, Ok, Err, IfOk, OnErr, append-nil, ap, sym, subst, arith, rules, length, slice_set}
use Rattle.std.specs.Prelude.{Result}
use Rattle.std.specs.Vec.{vec_len}
use Rattle.std.proofs.lemmas.List.{length-set}
use borrow.Author.Tests.{eqb-true, eqb-false}
use Rattle.std.specs.FinMap.Entries.{find, put}
use Rattle.btree.specs.Order.{Ascends}
use Rattle.btree.specs.Branch.{Branch}
use Rattle.btree.specs.Rows.{IsKid}
use Rattle.btree.proofs.Leaves.{if_ok_on}
use Rattle.btree.proofs.Nodes.{leaf_row, leaf_size, leaf_made, leaf_node, leaf_sorted, leaf_same_size, inner_low, inner_rises, inner_level, inner_kid_at, inner_node, kid_ascends, kid_found, kid_replaced, kid_put_pairs}
use Rattle.btree.proofs.node.Node.+replace.Goals as goal

pub replace_in_leaf-requires : goal.replace_in_leaf-requires
replace_in_leaf-requires g t c =
    let none_len : vec_len c.self.inside.kids ≡ 0 = eqb-true (vec_len c.self.inside.kids) 0 (sym c.is_empty.ensures ∙ c.if-is_empty.true) in
    let none : length c.self.inside.kids.items ≡ 0 = omega (arith, none_len, c.self.inside.kids.ok.0) in
    record { sorted = leaf_sorted g.K.Ord.cmp c.args.self.now c.self.inside.entries.items c.self.inside.separators.items c.self.inside.kids.items c.self.view_is c.self.invariant.0 none c.requires.sorted }

pub invariant_of-self : goal.invariant_of-self
invariant_of-self g t c =
    let none_len : vec_len c.self.inside.kids ≡ 0 = eqb-true (vec_len c.self.inside.kids) 0 (sym c.is_empty.ensures ∙ c.if-is_empty.true) in
    let none : length c.self.inside.kids.items ≡ 0 = omega (arith, none_len, c.self.inside.kids.ok.0) in
    (leaf_node g.K.Ord.cmp c.args.self.now c.self.inside.entries.items c.self.inside.separators.items c.self.inside.kids.items c.self.view_is c.self.invariant.0 none c.replace_in_leaf.new.entries.items, (λ p. let q = c.self.invariant.1 (omega (arith, c.replace_in_leaf.ensures.length, p)) in omega (arith, q, c.replace_in_leaf.ensures.capacity)), c.self.invariant.2)

pub returns-then-is_empty-clause-before : goal.returns-then-is_empty-clause-before
returns-then-is_empty-clause-before g t c =
    let none_len : vec_len c.self.inside.kids ≡ 0 = eqb-true (vec_len c.self.inside.kids) 0 (sym c.is_empty.ensures ∙ c.if-is_empty.true) in
    let none : length c.self.inside.kids.items ≡ 0 = omega (arith, none_len, c.self.inside.kids.ok.0) in
    subst (λ ps. IfOk c.replace_in_leaf.result (λ before. find g.K.Ord.cmp c.args.key.now ps ≡ Some before)) (sym (leaf_row g.K.Ord.cmp c.args.self.now c.self.inside.entries.items c.self.inside.separators.items c.self.inside.kids.items c.self.view_is c.self.invariant.0 none)) c.replace_in_leaf.ensures.before

pub returns-then-is_empty-clause-same_size : goal.returns-then-is_empty-clause-same_size
returns-then-is_empty-clause-same_size g t c =
    let none_len : vec_len c.self.inside.kids ≡ 0 = eqb-true (vec_len c.self.inside.kids) 0 (sym c.is_empty.ensures ∙ c.if-is_empty.true) in
    let none : length c.self.inside.kids.items ≡ 0 = omega (arith, none_len, c.self.inside.kids.ok.0) in
    let n = leaf_size g.K.Ord.cmp c.args.self.now c.self.inside.entries.items c.self.inside.separators.items c.self.inside.kids.items c.self.view_is c.self.invariant.0 none in
    leaf_same_size g.K.Ord.cmp c.args.self.now c.self.inside.entries.items c.self.inside.separators.items c.self.inside.kids.items c.self.view_is c.self.invariant.0 none c.replace_in_leaf.new.entries.items (omega (arith, c.replace_in_leaf.ensures.length)) (omega (arith, c.replace_in_leaf.ensures.length, n, c.requires.fits))

pub returns-then-is_empty-clause-put : goal.returns-then-is_empty-clause-put
returns-then-is_empty-clause-put g t c =
    let none_len : vec_len c.self.inside.kids ≡ 0 = eqb-true (vec_len c.self.inside.kids) 0 (sym c.is_empty.ensures ∙ c.if-is_empty.true) in
    let none : length c.self.inside.kids.items ≡ 0 = omega (arith, none_len, c.self.inside.kids.ok.0) in
    if_ok_on c.replace_in_leaf.result (λ _ e. ap (λ b. b.pairs) (leaf_made g.K.Ord.cmp c.args.self.now c.self.inside.entries.items c.self.inside.separators.items c.self.inside.kids.items c.self.view_is c.self.invariant.0 none c.replace_in_leaf.new.entries.items) ∙ append-nil c.replace_in_leaf.new.entries.items ∙ e ∙ ap (put g.K.Ord.cmp c.args.key.now c.args.value) (sym (leaf_row g.K.Ord.cmp c.args.self.now c.self.inside.entries.items c.self.inside.separators.items c.self.inside.kids.items c.self.view_is c.self.invariant.0 none))) c.replace_in_leaf.ensures.put

pub returns-then-is_empty-clause-missed : goal.returns-then-is_empty-clause-missed
returns-then-is_empty-clause-missed g t c =
    let none_len : vec_len c.self.inside.kids ≡ 0 = eqb-true (vec_len c.self.inside.kids) 0 (sym c.is_empty.ensures ∙ c.if-is_empty.true) in
    let none : length c.self.inside.kids.items ≡ 0 = omega (arith, none_len, c.self.inside.kids.ok.0) in
    subst (λ ps. OnErr c.replace_in_leaf.result (find g.K.Ord.cmp c.args.key.now ps ≡ None)) (sym (leaf_row g.K.Ord.cmp c.args.self.now c.self.inside.entries.items c.self.inside.separators.items c.self.inside.kids.items c.self.view_is c.self.invariant.0 none)) c.replace_in_leaf.ensures.missed

pub kid_of-at-requires : goal.kid_of-at-requires
kid_of-at-requires g t c =
    let some_len : vec_len c.self.inside.kids ≡ 0 → ⊥ = eqb-false (vec_len c.self.inside.kids) 0 (sym c.is_empty.ensures ∙ c.if-is_empty.false) in
    let some : length c.self.inside.kids.items ≡ 0 → ⊥ = λ e. some_len (c.self.inside.kids.ok.0 ∙ e) in
    rw c.deref.ensures.value (inner_rises g.K.Ord.cmp c.args.self.now c.self.inside.entries.items c.self.inside.separators.items c.self.inside.kids.items c.self.view_is c.self.invariant.0 some)

pub replace-requires : goal.replace-requires
replace-requires g t c κs within =
    let some_len : vec_len c.self.inside.kids ≡ 0 → ⊥ = eqb-false (vec_len c.self.inside.kids) 0 (sym c.is_empty.ensures ∙ c.if-is_empty.false) in
    let some : length c.self.inside.kids.items ≡ 0 → ⊥ = λ e. some_len (c.self.inside.kids.ok.0 ∙ e) in
    let at = c.kid_of-at.result in
    let in_range = rw c.deref.ensures.value at c.kid_of-at.ensures.in_range in
    let lo = rw c.deref.ensures.value at c.kid_of-at.ensures.from in
    let hi = rw c.deref.ensures.value at c.kid_of-at.ensures.under in
    let low = inner_low g.K.Ord.cmp c.args.self.now c.self.inside.entries.items c.self.inside.separators.items c.self.inside.kids.items c.self.view_is c.self.invariant.0 some at in_range in
    let kid = inner_kid_at g.K.Ord.cmp c.args.self.now c.self.inside.entries.items c.self.inside.separators.items c.self.inside.kids.items c.self.view_is c.self.invariant.0 some at c.index_mut.result.now low in
    let sorted : Ascends g.K.Ord.cmp c.index_mut.result.now.pairs = subst (λ b. Ascends g.K.Ord.cmp b.pairs) (sym c.index_mut.ensures.value) (kid_ascends g.K.Ord.cmp c.args.self.now c.self.inside.entries.items c.self.inside.separators.items c.self.inside.kids.items c.self.view_is c.self.invariant.0 some g.met.K.Ord.total at c.index_mut.result.now low c.requires.sorted) in
    let most : c.index_mut.result.now.count ≤ 32 = subst (λ b. b.count ≤ 32) (sym c.index_mut.ensures.value) kid.most in
    let level : suc c.index_mut.result.now.height ≡ c.args.self.now.height = ap (λ b. suc b.height) c.index_mut.ensures.value ∙ inner_level g.K.Ord.cmp c.args.self.now c.self.inside.entries.items c.self.inside.separators.items c.self.inside.kids.items c.self.view_is c.self.invariant.0 some at c.index_mut.result.now low in
    search rules

pub invariant_of-self-2 : goal.invariant_of-self-2
invariant_of-self-2 g t c =
    let some_len : vec_len c.self.inside.kids ≡ 0 → ⊥ = eqb-false (vec_len c.self.inside.kids) 0 (sym c.is_empty.ensures ∙ c.if-is_empty.false) in
    let some : length c.self.inside.kids.items ≡ 0 → ⊥ = λ e. some_len (c.self.inside.kids.ok.0 ∙ e) in
    let at = c.kid_of-at.result in
    let in_range = rw c.deref.ensures.value at c.kid_of-at.ensures.in_range in
    let lo = rw c.deref.ensures.value at c.kid_of-at.ensures.from in
    let hi = rw c.deref.ensures.value at c.kid_of-at.ensures.under in
    let low = inner_low g.K.Ord.cmp c.args.self.now c.self.inside.entries.items c.self.inside.separators.items c.self.inside.kids.items c.self.view_is c.self.invariant.0 some at in_range in
    let same = subst (λ (k : Branch g.row.K.Denot g.row.V.Denot). IsKid k.count k.height c.replace.new.self) c.index_mut.ensures.value c.replace.ensures.same_size in
    let put_in = if_ok_on c.replace.result (λ _ e. e ∙ ap (λ b. put g.K.Ord.cmp c.args.key.now c.args.value b.pairs) c.index_mut.ensures.value) c.replace.ensures.put in
    let kept = on_err c.replace.result (λ e. e ∙ c.index_mut.ensures.value) c.replace.ensures.kept in
    let size = length-set c.self.inside.kids.items at c.replace.new.self in
    (inner_node g.K.Ord.cmp c.args.self.now c.self.inside.entries.items c.self.inside.separators.items c.self.inside.kids.items c.self.view_is c.self.invariant.0 some c.self.inside.separators.items (slice_set c.self.inside.kids.items at c.replace.new.self) (kid_replaced g.K.Ord.cmp c.args.self.now c.self.inside.entries.items c.self.inside.separators.items c.self.inside.kids.items c.self.view_is c.self.invariant.0 some g.met.K.Ord.total c.args.key.now c.args.value at c.index_mut.result.now c.replace.new.self in_range lo hi c.replace.result same put_in kept c.requires.fits).0, c.self.invariant.1, λ p. c.self.invariant.2 (omega (arith, size, p)))
  where
    on_err : {T E P Q : Type 0} (r : Result T E) → (P → Q) → OnErr r P → OnErr r Q
    on_err (Ok x) f p = p
    on_err (Err e) f p = f p

pub returns-clause-before : goal.returns-clause-before
returns-clause-before g t c =
    let some_len : vec_len c.self.inside.kids ≡ 0 → ⊥ = eqb-false (vec_len c.self.inside.kids) 0 (sym c.is_empty.ensures ∙ c.if-is_empty.false) in
    let some : length c.self.inside.kids.items ≡ 0 → ⊥ = λ e. some_len (c.self.inside.kids.ok.0 ∙ e) in
    let at = c.kid_of-at.result in
    let in_range = rw c.deref.ensures.value at c.kid_of-at.ensures.in_range in
    let lo = rw c.deref.ensures.value at c.kid_of-at.ensures.from in
    let hi = rw c.deref.ensures.value at c.kid_of-at.ensures.under in
    let low = inner_low g.K.Ord.cmp c.args.self.now c.self.inside.entries.items c.self.inside.separators.items c.self.inside.kids.items c.self.view_is c.self.invariant.0 some at in_range in
    let below = ap (λ b. find g.K.Ord.cmp c.args.key.now b.pairs) c.index_mut.ensures.value ∙ sym (kid_found g.K.Ord.cmp c.args.self.now c.self.inside.entries.items c.self.inside.separators.items c.self.inside.kids.items c.self.view_is c.self.invariant.0 some g.met.K.Ord.total c.args.key.now at c.index_mut.result.now in_range lo hi) in
    subst (λ o. IfOk c.replace.result (λ before. o ≡ Some before)) below c.replace.ensures.before

pub returns-clause-same_size : goal.returns-clause-same_size
returns-clause-same_size g t c =
    let some_len : vec_len c.self.inside.kids ≡ 0 → ⊥ = eqb-false (vec_len c.self.inside.kids) 0 (sym c.is_empty.ensures ∙ c.if-is_empty.false) in
    let some : length c.self.inside.kids.items ≡ 0 → ⊥ = λ e. some_len (c.self.inside.kids.ok.0 ∙ e) in
    let at = c.kid_of-at.result in
    let in_range = rw c.deref.ensures.value at c.kid_of-at.ensures.in_range in
    let lo = rw c.deref.ensures.value at c.kid_of-at.ensures.from in
    let hi = rw c.deref.ensures.value at c.kid_of-at.ensures.under in
    let low = inner_low g.K.Ord.cmp c.args.self.now c.self.inside.entries.items c.self.inside.separators.items c.self.inside.kids.items c.self.view_is c.self.invariant.0 some at in_range in
    let same = subst (λ (k : Branch g.row.K.Denot g.row.V.Denot). IsKid k.count k.height c.replace.new.self) c.index_mut.ensures.value c.replace.ensures.same_size in
    let put_in = if_ok_on c.replace.result (λ _ e. e ∙ ap (λ b. put g.K.Ord.cmp c.args.key.now c.args.value b.pairs) c.index_mut.ensures.value) c.replace.ensures.put in
    let kept = on_err c.replace.result (λ e. e ∙ c.index_mut.ensures.value) c.replace.ensures.kept in
    (kid_replaced g.K.Ord.cmp c.args.self.now c.self.inside.entries.items c.self.inside.separators.items c.self.inside.kids.items c.self.view_is c.self.invariant.0 some g.met.K.Ord.total c.args.key.now c.args.value at c.index_mut.result.now c.replace.new.self in_range lo hi c.replace.result same put_in kept c.requires.fits).1
  where
    on_err : {T E P Q : Type 0} (r : Result T E) → (P → Q) → OnErr r P → OnErr r Q
    on_err (Ok x) f p = p
    on_err (Err e) f p = f p

pub returns-clause-put : goal.returns-clause-put
returns-clause-put g t c =
    let some_len : vec_len c.self.inside.kids ≡ 0 → ⊥ = eqb-false (vec_len c.self.inside.kids) 0 (sym c.is_empty.ensures ∙ c.if-is_empty.false) in
    let some : length c.self.inside.kids.items ≡ 0 → ⊥ = λ e. some_len (c.self.inside.kids.ok.0 ∙ e) in
    let at = c.kid_of-at.result in
    let in_range = rw c.deref.ensures.value at c.kid_of-at.ensures.in_range in
    let lo = rw c.deref.ensures.value at c.kid_of-at.ensures.from in
    let hi = rw c.deref.ensures.value at c.kid_of-at.ensures.under in
    let low = inner_low g.K.Ord.cmp c.args.self.now c.self.inside.entries.items c.self.inside.separators.items c.self.inside.kids.items c.self.view_is c.self.invariant.0 some at in_range in
    let same = subst (λ (k : Branch g.row.K.Denot g.row.V.Denot). IsKid k.count k.height c.replace.new.self) c.index_mut.ensures.value c.replace.ensures.same_size in
    if_ok_on c.replace.result (λ _ e. kid_put_pairs g.K.Ord.cmp c.args.self.now c.self.inside.entries.items c.self.inside.separators.items c.self.inside.kids.items c.self.view_is c.self.invariant.0 some g.met.K.Ord.total c.args.key.now c.args.value at c.index_mut.result.now c.replace.new.self in_range lo hi same (e ∙ ap (λ b. put g.K.Ord.cmp c.args.key.now c.args.value b.pairs) c.index_mut.ensures.value)) c.replace.ensures.put

pub returns-clause-missed : goal.returns-clause-missed
returns-clause-missed g t c =
    let some_len : vec_len c.self.inside.kids ≡ 0 → ⊥ = eqb-false (vec_len c.self.inside.kids) 0 (sym c.is_empty.ensures ∙ c.if-is_empty.false) in
    let some : length c.self.inside.kids.items ≡ 0 → ⊥ = λ e. some_len (c.self.inside.kids.ok.0 ∙ e) in
    let at = c.kid_of-at.result in
    let in_range = rw c.deref.ensures.value at c.kid_of-at.ensures.in_range in
    let lo = rw c.deref.ensures.value at c.kid_of-at.ensures.from in
    let hi = rw c.deref.ensures.value at c.kid_of-at.ensures.under in
    let low = inner_low g.K.Ord.cmp c.args.self.now c.self.inside.entries.items c.self.inside.separators.items c.self.inside.kids.items c.self.view_is c.self.invariant.0 some at in_range in
    let below = ap (λ b. find g.K.Ord.cmp c.args.key.now b.pairs) c.index_mut.ensures.value ∙ sym (kid_found g.K.Ord.cmp c.args.self.now c.self.inside.entries.items c.self.inside.separators.items c.self.inside.kids.items c.self.view_is c.self.invariant.0 some g.met.K.Ord.total c.args.key.now at c.index_mut.result.now in_range lo hi) in
    subst (λ o. OnErr c.replace.result (o ≡ None)) below c.replace.ensures.missed
