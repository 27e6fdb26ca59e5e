use Rattle.std.proofs.Common.{◌≡◌, ◌≤◌, ◌∙◌, [], suc, Some, None, IfOk, IsSome, ap, sym, subst, arith, rules, refl, length, slice_set, get_or}
use Rattle.std.specs.Vec.{vec_len}
use borrow.Author.Tests.{eqb-true, eqb-false}
use Rattle.std.specs.FinMap.Entries.{find, put}
use Rattle.btree.specs.Order.{Ascends}
use Rattle.btree.specs.Parts.{flat}
use Rattle.btree.specs.Branch.{Branch}
use Rattle.btree.specs.Rows.{branch_of, height_of, HasBecome, with_separator, with_kid}
use Rattle.btree.proofs.Order.{ascends_put}
use Rattle.btree.proofs.Growth.{become_from, longer, one_longer, full_at}
use Rattle.btree.proofs.Leaves.{if_ok_on}
use Rattle.btree.proofs.Nodes.{leaf_row, leaf_size, leaf_height, leaf_made, leaf_node, leaf_sorted, inner_size, inner_low, inner_rises, inner_level, inner_kid_at, kid_ascends, kid_found, beside_node, beside_pairs, same_become, split_become}
use Rattle.btree.proofs.node.Node.+insert.Goals as goal

pub insert_leaf-requires : goal.insert_leaf-requires
insert_leaf-requires g t c =
    let none_len : vec_len c.self.inside.kids ≡ 0 = eqb-true (vec_len c.self.inside.kids) 0 (sym c.is_empty.ensures ∙ c.if-is_empty.true) in
    let none : length c.self.inside.kids.items ≡ 0 = omega (arith, none_len, c.self.inside.kids.ok.0) in
    let n = leaf_size g.K.Ord.cmp c.args.self.now c.self.inside.entries.items c.self.inside.separators.items c.self.inside.kids.items c.self.view_is c.self.invariant.0 none in
    record { sorted = leaf_sorted g.K.Ord.cmp c.args.self.now c.self.inside.entries.items c.self.inside.separators.items c.self.inside.kids.items c.self.view_is c.self.invariant.0 none c.requires.sorted; fits = omega (arith, n, c.requires.fits); room = c.self.invariant.1 }

pub invariant_of-self : goal.invariant_of-self
invariant_of-self g t c =
    let none_len : vec_len c.self.inside.kids ≡ 0 = eqb-true (vec_len c.self.inside.kids) 0 (sym c.is_empty.ensures ∙ c.if-is_empty.true) in
    let none : length c.self.inside.kids.items ≡ 0 = omega (arith, none_len, c.self.inside.kids.ok.0) in
    (leaf_node g.K.Ord.cmp c.args.self.now c.self.inside.entries.items c.self.inside.separators.items c.self.inside.kids.items c.self.view_is c.self.invariant.0 none c.insert_leaf.new.entries.items, c.insert_leaf.ensures.room, c.self.invariant.2)

pub returns-then-is_empty-clause-before : goal.returns-then-is_empty-clause-before
returns-then-is_empty-clause-before g t c =
    let none_len : vec_len c.self.inside.kids ≡ 0 = eqb-true (vec_len c.self.inside.kids) 0 (sym c.is_empty.ensures ∙ c.if-is_empty.true) in
    let none : length c.self.inside.kids.items ≡ 0 = omega (arith, none_len, c.self.inside.kids.ok.0) in
    subst (λ ps. IfOk c.insert_leaf.result (λ r. r.0 ≡ find g.K.Ord.cmp c.args.key ps)) (sym (leaf_row g.K.Ord.cmp c.args.self.now c.self.inside.entries.items c.self.inside.separators.items c.self.inside.kids.items c.self.view_is c.self.invariant.0 none)) c.insert_leaf.ensures.before

pub returns-then-is_empty-clause-grown : goal.returns-then-is_empty-clause-grown
returns-then-is_empty-clause-grown g t c =
    let none_len : vec_len c.self.inside.kids ≡ 0 = eqb-true (vec_len c.self.inside.kids) 0 (sym c.is_empty.ensures ∙ c.if-is_empty.true) in
    let none : length c.self.inside.kids.items ≡ 0 = omega (arith, none_len, c.self.inside.kids.ok.0) in
    let n = leaf_size g.K.Ord.cmp c.args.self.now c.self.inside.entries.items c.self.inside.separators.items c.self.inside.kids.items c.self.view_is c.self.invariant.0 none in
    if_ok_on c.insert_leaf.result (λ r s. subst (λ x. HasBecome g.K.Ord.cmp c.args.self.now.count c.args.self.now.height (put g.K.Ord.cmp c.args.key c.args.value c.args.self.now.pairs) x r.1) (sym (leaf_made g.K.Ord.cmp c.args.self.now c.self.inside.entries.items c.self.inside.separators.items c.self.inside.kids.items c.self.view_is c.self.invariant.0 none c.insert_leaf.new.entries.items))
    (become_from g.K.Ord.cmp (length c.self.inside.entries.items) c.args.self.now.count 0 c.args.self.now.height (put g.K.Ord.cmp c.args.key c.args.value c.self.inside.entries.items) (put g.K.Ord.cmp c.args.key c.args.value c.args.self.now.pairs) (branch_of c.insert_leaf.new.entries.items [] []) r.1 (omega (arith, n)) (sym (leaf_height g.K.Ord.cmp c.args.self.now c.self.inside.entries.items c.self.inside.separators.items c.self.inside.kids.items c.self.view_is c.self.invariant.0 none)) (ap (put g.K.Ord.cmp c.args.key c.args.value) (sym (leaf_row g.K.Ord.cmp c.args.self.now c.self.inside.entries.items c.self.inside.separators.items c.self.inside.kids.items c.self.view_is c.self.invariant.0 none))) s)) c.insert_leaf.ensures.grown

pub kid_near-at-requires : goal.kid_near-at-requires
kid_near-at-requires g t c =
    let some_len : vec_len c.self.inside.kids ≡ 0 → ⊥ = eqb-false (vec_len c.self.inside.kids) 0 (sym c.is_empty.ensures ∙ c.if-is_empty.false) in
    let some : length c.self.inside.kids.items ≡ 0 → ⊥ = λ e. some_len (c.self.inside.kids.ok.0 ∙ e) in
    rw c.deref.ensures.value (inner_rises g.K.Ord.cmp c.args.self.now c.self.inside.entries.items c.self.inside.separators.items c.self.inside.kids.items c.self.view_is c.self.invariant.0 some)

pub spare_rows-requires : goal.spare_rows-requires
spare_rows-requires g t c =
    let some_len : vec_len c.self.inside.kids ≡ 0 → ⊥ = eqb-false (vec_len c.self.inside.kids) 0 (sym c.is_empty.ensures ∙ c.if-is_empty.false) in
    let some : length c.self.inside.kids.items ≡ 0 → ⊥ = λ e. some_len (c.self.inside.kids.ok.0 ∙ e) in
    let at = c.kid_near-at.result in
    let in_range = rw c.deref.ensures.value at c.kid_near-at.ensures.in_range in
    let lo = rw c.deref.ensures.value at c.kid_near-at.ensures.from in
    let hi = rw c.deref.ensures.value at c.kid_near-at.ensures.under in
    let low = inner_low g.K.Ord.cmp c.args.self.now c.self.inside.entries.items c.self.inside.separators.items c.self.inside.kids.items c.self.view_is c.self.invariant.0 some at in_range in
    rw c.deref-3.ensures.value low

pub insert-requires : goal.insert-requires
insert-requires g t c κs within =
    let some_len : vec_len c.self.inside.kids ≡ 0 → ⊥ = eqb-false (vec_len c.self.inside.kids) 0 (sym c.is_empty.ensures ∙ c.if-is_empty.false) in
    let some : length c.self.inside.kids.items ≡ 0 → ⊥ = λ e. some_len (c.self.inside.kids.ok.0 ∙ e) in
    let at = c.kid_near-at.result in
    let in_range = rw c.deref.ensures.value at c.kid_near-at.ensures.in_range in
    let lo = rw c.deref.ensures.value at c.kid_near-at.ensures.from in
    let hi = rw c.deref.ensures.value at c.kid_near-at.ensures.under in
    let low = inner_low g.K.Ord.cmp c.args.self.now c.self.inside.entries.items c.self.inside.separators.items c.self.inside.kids.items c.self.view_is c.self.invariant.0 some at in_range in
    let kid = inner_kid_at g.K.Ord.cmp c.args.self.now c.self.inside.entries.items c.self.inside.separators.items c.self.inside.kids.items c.self.view_is c.self.invariant.0 some at c.index_mut.result.now low in
    let sorted : Ascends g.K.Ord.cmp c.index_mut.result.now.pairs = subst (λ b. Ascends g.K.Ord.cmp b.pairs) (sym c.index_mut.ensures.value) (kid_ascends g.K.Ord.cmp c.args.self.now c.self.inside.entries.items c.self.inside.separators.items c.self.inside.kids.items c.self.view_is c.self.invariant.0 some g.met.K.Ord.total at c.index_mut.result.now low c.requires.sorted) in
    let most : c.index_mut.result.now.count ≤ 32 = subst (λ b. b.count ≤ 32) (sym c.index_mut.ensures.value) kid.most in
    let level : suc c.index_mut.result.now.height ≡ c.args.self.now.height = ap (λ b. suc b.height) c.index_mut.ensures.value ∙ inner_level g.K.Ord.cmp c.args.self.now c.self.inside.entries.items c.self.inside.separators.items c.self.inside.kids.items c.self.view_is c.self.invariant.0 some at c.index_mut.result.now low in
    search rules

pub ease-requires-clause-node : goal.ease-requires-clause-node
ease-requires-clause-node g t c =
    let some_len : vec_len c.self.inside.kids ≡ 0 → ⊥ = eqb-false (vec_len c.self.inside.kids) 0 (sym c.is_empty.ensures ∙ c.if-is_empty.false) in
    let some : length c.self.inside.kids.items ≡ 0 → ⊥ = λ e. some_len (c.self.inside.kids.ok.0 ∙ e) in
    let at = c.kid_near-at.result in
    let in_range = rw c.deref.ensures.value at c.kid_near-at.ensures.in_range in
    let lo = rw c.deref.ensures.value at c.kid_near-at.ensures.from in
    let hi = rw c.deref.ensures.value at c.kid_near-at.ensures.under in
    let low = inner_low g.K.Ord.cmp c.args.self.now c.self.inside.entries.items c.self.inside.separators.items c.self.inside.kids.items c.self.view_is c.self.invariant.0 some at in_range in
    let grown = subst (λ (k : Branch g.row.K.Denot g.row.V.Denot). HasBecome g.K.Ord.cmp k.count k.height (put g.K.Ord.cmp c.args.key c.args.value k.pairs) c.insert.new.self c.in_ok-before.beside) c.index_mut.ensures.value c.in_ok-before.ensures.grown in
    let one = subst (λ o. HasBecome g.K.Ord.cmp (get_or c.self.inside.kids.items at c.index_mut.result.now).count (get_or c.self.inside.kids.items at c.index_mut.result.now).height (put g.K.Ord.cmp c.args.key c.args.value (get_or c.self.inside.kids.items at c.index_mut.result.now).pairs) c.insert.new.self o) c.in_default-beside.is grown in
    (beside_node g.K.Ord.cmp c.args.self.now c.self.inside.entries.items c.self.inside.separators.items c.self.inside.kids.items c.self.view_is c.self.invariant.0 some g.met.K.Ord.total c.args.key c.args.value at c.index_mut.result.now c.insert.new.self None in_range lo hi one).0

pub ease-requires-clause-sorted : goal.ease-requires-clause-sorted
ease-requires-clause-sorted g t c =
    let some_len : vec_len c.self.inside.kids ≡ 0 → ⊥ = eqb-false (vec_len c.self.inside.kids) 0 (sym c.is_empty.ensures ∙ c.if-is_empty.false) in
    let some : length c.self.inside.kids.items ≡ 0 → ⊥ = λ e. some_len (c.self.inside.kids.ok.0 ∙ e) in
    let at = c.kid_near-at.result in
    let in_range = rw c.deref.ensures.value at c.kid_near-at.ensures.in_range in
    let lo = rw c.deref.ensures.value at c.kid_near-at.ensures.from in
    let hi = rw c.deref.ensures.value at c.kid_near-at.ensures.under in
    let low = inner_low g.K.Ord.cmp c.args.self.now c.self.inside.entries.items c.self.inside.separators.items c.self.inside.kids.items c.self.view_is c.self.invariant.0 some at in_range in
    let grown = subst (λ (k : Branch g.row.K.Denot g.row.V.Denot). HasBecome g.K.Ord.cmp k.count k.height (put g.K.Ord.cmp c.args.key c.args.value k.pairs) c.insert.new.self c.in_ok-before.beside) c.index_mut.ensures.value c.in_ok-before.ensures.grown in
    let one = subst (λ o. HasBecome g.K.Ord.cmp (get_or c.self.inside.kids.items at c.index_mut.result.now).count (get_or c.self.inside.kids.items at c.index_mut.result.now).height (put g.K.Ord.cmp c.args.key c.args.value (get_or c.self.inside.kids.items at c.index_mut.result.now).pairs) c.insert.new.self o) c.in_default-beside.is grown in
    subst (Ascends g.K.Ord.cmp) (sym (beside_pairs g.K.Ord.cmp c.args.self.now c.self.inside.entries.items c.self.inside.separators.items c.self.inside.kids.items c.self.view_is c.self.invariant.0 some g.met.K.Ord.total c.args.key c.args.value at c.index_mut.result.now c.insert.new.self None in_range lo hi one)) (ascends_put g.K.Ord.cmp g.met.K.Ord.total c.args.key c.args.value c.args.self.now.pairs c.requires.sorted)

pub returns-in_default-beside-clause-before : goal.returns-in_default-beside-clause-before
returns-in_default-beside-clause-before g t c =
    let some_len : vec_len c.self.inside.kids ≡ 0 → ⊥ = eqb-false (vec_len c.self.inside.kids) 0 (sym c.is_empty.ensures ∙ c.if-is_empty.false) in
    let some : length c.self.inside.kids.items ≡ 0 → ⊥ = λ e. some_len (c.self.inside.kids.ok.0 ∙ e) in
    let at = c.kid_near-at.result in
    let in_range = rw c.deref.ensures.value at c.kid_near-at.ensures.in_range in
    let lo = rw c.deref.ensures.value at c.kid_near-at.ensures.from in
    let hi = rw c.deref.ensures.value at c.kid_near-at.ensures.under in
    let low = inner_low g.K.Ord.cmp c.args.self.now c.self.inside.entries.items c.self.inside.separators.items c.self.inside.kids.items c.self.view_is c.self.invariant.0 some at in_range in
    c.in_ok-before.ensures.before ∙ ap (λ b. find g.K.Ord.cmp c.args.key b.pairs) c.index_mut.ensures.value ∙ sym (kid_found g.K.Ord.cmp c.args.self.now c.self.inside.entries.items c.self.inside.separators.items c.self.inside.kids.items c.self.view_is c.self.invariant.0 some g.met.K.Ord.total c.args.key at c.index_mut.result.now in_range lo hi)

pub returns-in_default-beside-clause-grown : goal.returns-in_default-beside-clause-grown
returns-in_default-beside-clause-grown g t c =
    let some_len : vec_len c.self.inside.kids ≡ 0 → ⊥ = eqb-false (vec_len c.self.inside.kids) 0 (sym c.is_empty.ensures ∙ c.if-is_empty.false) in
    let some : length c.self.inside.kids.items ≡ 0 → ⊥ = λ e. some_len (c.self.inside.kids.ok.0 ∙ e) in
    let at = c.kid_near-at.result in
    let in_range = rw c.deref.ensures.value at c.kid_near-at.ensures.in_range in
    let lo = rw c.deref.ensures.value at c.kid_near-at.ensures.from in
    let hi = rw c.deref.ensures.value at c.kid_near-at.ensures.under in
    let low = inner_low g.K.Ord.cmp c.args.self.now c.self.inside.entries.items c.self.inside.separators.items c.self.inside.kids.items c.self.view_is c.self.invariant.0 some at in_range in
    let grown = subst (λ (k : Branch g.row.K.Denot g.row.V.Denot). HasBecome g.K.Ord.cmp k.count k.height (put g.K.Ord.cmp c.args.key c.args.value k.pairs) c.insert.new.self c.in_ok-before.beside) c.index_mut.ensures.value c.in_ok-before.ensures.grown in
    let one = subst (λ o. HasBecome g.K.Ord.cmp (get_or c.self.inside.kids.items at c.index_mut.result.now).count (get_or c.self.inside.kids.items at c.index_mut.result.now).height (put g.K.Ord.cmp c.args.key c.args.value (get_or c.self.inside.kids.items at c.index_mut.result.now).pairs) c.insert.new.self o) c.in_default-beside.is grown in
    same_become g.K.Ord.cmp c.args.self.now c.self.inside.entries.items c.self.inside.separators.items c.self.inside.kids.items c.self.view_is c.self.invariant.0 some (put g.K.Ord.cmp c.args.key c.args.value c.args.self.now.pairs) c.ease.new.separators.items c.ease.new.kids.items c.ease.ensures.node (c.ease.ensures.height ∙ (beside_node g.K.Ord.cmp c.args.self.now c.self.inside.entries.items c.self.inside.separators.items c.self.inside.kids.items c.self.view_is c.self.invariant.0 some g.met.K.Ord.total c.args.key c.args.value at c.index_mut.result.now c.insert.new.self None in_range lo hi one).1) c.ease.ensures.kept (c.ease.ensures.pairs ∙ beside_pairs g.K.Ord.cmp c.args.self.now c.self.inside.entries.items c.self.inside.separators.items c.self.inside.kids.items c.self.view_is c.self.invariant.0 some g.met.K.Ord.total c.args.key c.args.value at c.index_mut.result.now c.insert.new.self None in_range lo hi one) c.requires.fits

pub split_long-beside-requires-clause-node : goal.split_long-beside-requires-clause-node
split_long-beside-requires-clause-node g t c =
    let some_len : vec_len c.self.inside.kids ≡ 0 → ⊥ = eqb-false (vec_len c.self.inside.kids) 0 (sym c.is_empty.ensures ∙ c.if-is_empty.false) in
    let some : length c.self.inside.kids.items ≡ 0 → ⊥ = λ e. some_len (c.self.inside.kids.ok.0 ∙ e) in
    let at = c.kid_near-at.result in
    let in_range = rw c.deref.ensures.value at c.kid_near-at.ensures.in_range in
    let lo = rw c.deref.ensures.value at c.kid_near-at.ensures.from in
    let hi = rw c.deref.ensures.value at c.kid_near-at.ensures.under in
    let low = inner_low g.K.Ord.cmp c.args.self.now c.self.inside.entries.items c.self.inside.separators.items c.self.inside.kids.items c.self.view_is c.self.invariant.0 some at in_range in
    let grown = subst (λ (k : Branch g.row.K.Denot g.row.V.Denot). HasBecome g.K.Ord.cmp k.count k.height (put g.K.Ord.cmp c.args.key c.args.value k.pairs) c.insert.new.self c.in_ok-before.beside) c.index_mut.ensures.value c.in_ok-before.ensures.grown in
    let seps = c.put_beside.ensures.separators ∙ ap (λ o. with_separator c.self.inside.separators.items at o) (sym c.in-Some.is) in
    let kids = c.put_beside.ensures.kids ∙ ap (λ o. with_kid (slice_set c.self.inside.kids.items at c.insert.new.self) at o) (sym c.in-Some.is) in
    rw (seps, kids) (beside_node g.K.Ord.cmp c.args.self.now c.self.inside.entries.items c.self.inside.separators.items c.self.inside.kids.items c.self.view_is c.self.invariant.0 some g.met.K.Ord.total c.args.key c.args.value at c.index_mut.result.now c.insert.new.self c.in_ok-before.beside in_range lo hi grown).0

pub returns-clause-before : goal.returns-clause-before
returns-clause-before g t c =
    let some_len : vec_len c.self.inside.kids ≡ 0 → ⊥ = eqb-false (vec_len c.self.inside.kids) 0 (sym c.is_empty.ensures ∙ c.if-is_empty.false) in
    let some : length c.self.inside.kids.items ≡ 0 → ⊥ = λ e. some_len (c.self.inside.kids.ok.0 ∙ e) in
    let at = c.kid_near-at.result in
    let in_range = rw c.deref.ensures.value at c.kid_near-at.ensures.in_range in
    let lo = rw c.deref.ensures.value at c.kid_near-at.ensures.from in
    let hi = rw c.deref.ensures.value at c.kid_near-at.ensures.under in
    let low = inner_low g.K.Ord.cmp c.args.self.now c.self.inside.entries.items c.self.inside.separators.items c.self.inside.kids.items c.self.view_is c.self.invariant.0 some at in_range in
    c.in_ok-before.ensures.before ∙ ap (λ b. find g.K.Ord.cmp c.args.key b.pairs) c.index_mut.ensures.value ∙ sym (kid_found g.K.Ord.cmp c.args.self.now c.self.inside.entries.items c.self.inside.separators.items c.self.inside.kids.items c.self.view_is c.self.invariant.0 some g.met.K.Ord.total c.args.key at c.index_mut.result.now in_range lo hi)

pub returns-clause-grown : goal.returns-clause-grown
returns-clause-grown g t c =
    let some_len : vec_len c.self.inside.kids ≡ 0 → ⊥ = eqb-false (vec_len c.self.inside.kids) 0 (sym c.is_empty.ensures ∙ c.if-is_empty.false) in
    let some : length c.self.inside.kids.items ≡ 0 → ⊥ = λ e. some_len (c.self.inside.kids.ok.0 ∙ e) in
    let at = c.kid_near-at.result in
    let in_range = rw c.deref.ensures.value at c.kid_near-at.ensures.in_range in
    let lo = rw c.deref.ensures.value at c.kid_near-at.ensures.from in
    let hi = rw c.deref.ensures.value at c.kid_near-at.ensures.under in
    let low = inner_low g.K.Ord.cmp c.args.self.now c.self.inside.entries.items c.self.inside.separators.items c.self.inside.kids.items c.self.view_is c.self.invariant.0 some at in_range in
    let grown = subst (λ (k : Branch g.row.K.Denot g.row.V.Denot). HasBecome g.K.Ord.cmp k.count k.height (put g.K.Ord.cmp c.args.key c.args.value k.pairs) c.insert.new.self c.in_ok-before.beside) c.index_mut.ensures.value c.in_ok-before.ensures.grown in
    let seps = c.put_beside.ensures.separators ∙ ap (λ o. with_separator c.self.inside.separators.items at o) (sym c.in-Some.is) in
    let kids = c.put_beside.ensures.kids ∙ ap (λ o. with_kid (slice_set c.self.inside.kids.items at c.insert.new.self) at o) (sym c.in-Some.is) in
    let n = inner_size g.K.Ord.cmp c.args.self.now c.self.inside.entries.items c.self.inside.separators.items c.self.inside.kids.items c.self.view_is c.self.invariant.0 some in
    let more = longer at c.self.inside.separators.items c.in_ok-before.beside in_range in
    split_become g.K.Ord.cmp c.args.self.now c.self.inside.entries.items c.self.inside.separators.items c.self.inside.kids.items c.self.view_is c.self.invariant.0 some (put g.K.Ord.cmp c.args.key c.args.value c.args.self.now.pairs) (flat c.put_beside.new.kids.items) (length c.put_beside.new.separators.items) (height_of c.put_beside.new.kids.items) c.split_long-beside.new.separators.items c.split_long-beside.new.kids.items c.split_long-beside.result c.split_long-beside.ensures.split
    (omega (arith, n, more, ap length seps)) (ap height_of kids ∙ (beside_node g.K.Ord.cmp c.args.self.now c.self.inside.entries.items c.self.inside.separators.items c.self.inside.kids.items c.self.view_is c.self.invariant.0 some g.met.K.Ord.total c.args.key c.args.value at c.index_mut.result.now c.insert.new.self c.in_ok-before.beside in_range lo hi grown).1) (ap flat kids ∙ beside_pairs g.K.Ord.cmp c.args.self.now c.self.inside.entries.items c.self.inside.separators.items c.self.inside.kids.items c.self.view_is c.self.invariant.0 some g.met.K.Ord.total c.args.key c.args.value at c.index_mut.result.now c.insert.new.self c.in_ok-before.beside in_range lo hi grown)

pub split_long-beside-requires-clause-spare : goal.split_long-beside-requires-clause-spare
split_long-beside-requires-clause-spare g t c = λ long.
    let some_len : vec_len c.self.inside.kids ≡ 0 → ⊥ = eqb-false (vec_len c.self.inside.kids) 0 (sym c.is_empty.ensures ∙ c.if-is_empty.false) in
    let some : length c.self.inside.kids.items ≡ 0 → ⊥ = λ e. some_len (c.self.inside.kids.ok.0 ∙ e) in
    let at = c.kid_near-at.result in
    let in_range = rw c.deref.ensures.value at c.kid_near-at.ensures.in_range in
    let most = one_longer at c.self.inside.separators.items (Some c.in-Some.beside) in_range in
    let whole : 32 ≤ length c.self.inside.separators.items = omega (arith, long, ap length c.put_beside.ensures.separators, most) in
    let full : 32 ≤ c.index_mut.result.now.count = c.in_ok-before.ensures.only_full (subst IsSome (sym c.in-Some.is) refl) in
    let full_kid = full_at at c.self.inside.kids.items c.index_mut.result.now (subst (λ b. 32 ≤ b.count) c.index_mut.ensures.value full) in
    (rw (c.deref-2.ensures.value, c.deref-3.ensures.value) at c.in-Ok.ensures) whole full_kid

pub returns-clause-only_full : goal.returns-clause-only_full
returns-clause-only_full g t c = λ two.
    let some_len : vec_len c.self.inside.kids ≡ 0 → ⊥ = eqb-false (vec_len c.self.inside.kids) 0 (sym c.is_empty.ensures ∙ c.if-is_empty.false) in
    let some : length c.self.inside.kids.items ≡ 0 → ⊥ = λ e. some_len (c.self.inside.kids.ok.0 ∙ e) in
    let at = c.kid_near-at.result in
    let in_range = rw c.deref.ensures.value at c.kid_near-at.ensures.in_range in
    let most = one_longer at c.self.inside.separators.items (Some c.in-Some.beside) in_range in
    omega (arith, c.split_long-beside.ensures.only_long two, ap length c.put_beside.ensures.separators, most, inner_size g.K.Ord.cmp c.args.self.now c.self.inside.entries.items c.self.inside.separators.items c.self.inside.kids.items c.self.view_is c.self.invariant.0 some)
