use Rattle.std.proofs.Common.{◌≡◌, ◌≤◌, ◌+◌, true, false, ◌++◌, suc, length, slice_set, get_or, add-one, ap, subst, sym, ◌∙◌, arith}
use Rattle.btree.specs.Order.{Ascends, Each}
use Rattle.btree.specs.Parts.{flat, IsSure}
use Rattle.btree.specs.Rows.{height_of, IsKid, IsParting, HasBecome, with_separator, with_kid}
use Rattle.btree.proofs.Mending.{low, low_kid, kept_below, but_kid, but_enough, but_height, mended_pairs, mended_node, mended_height, mended_most, mended_least, mended_kept, two_sorted, two_each, beside_counts, get_or_any}
use Rattle.btree.proofs.mend.rejoin_leaves.Goals as goal

pub rejoin_leaf-beside-requires-clause-lower : goal.rejoin_leaf-beside-requires-clause-lower
rejoin_leaf-beside-requires-clause-lower g c =
    let upper = rw add-one at c.remove-right.ensures.value in
    let kids = rw add-one at c.remove-right.ensures.items in
    let lower = c.index_mut.ensures.value ∙ ap (λ zs. get_or zs c.saturating_sub-left.result c.index_mut.result.now) kids ∙ kept_below g.K.Ord.cmp c.args.at c.saturating_sub-left.result c.args.separators.now.items c.args.kids.now.items c.index_mut.result.now c.requires.loose c.saturating_sub-left.ensures c.requires.in_range c.requires.some in
    let q = low_kid g.K.Ord.cmp c.args.at c.saturating_sub-left.result c.args.separators.now.items c.args.kids.now.items c.requires.loose c.saturating_sub-left.ensures c.requires.in_range c.requires.some in
    let a = but_kid c.requires.loose.level c.args.at c.args.kids.now.items c.saturating_sub-left.result c.index_mut.result.now c.requires.loose.kids (omega (arith, q)) in
    let b = but_kid c.requires.loose.level c.args.at c.args.kids.now.items (suc c.saturating_sub-left.result) c.remove-right.result c.requires.loose.kids q in
    let zero : c.requires.loose.level ≡ 0 = (let h = but_height c.requires.loose.level c.args.at c.args.kids.now.items c.requires.loose.kids in omega (arith, h, c.requires.leaves)) in
    subst (λ n. IsKid 15 n c.index_mut.result.now) zero (subst (IsKid 15 c.requires.loose.level) (sym lower) a)

pub rejoin_leaf-beside-requires-clause-upper : goal.rejoin_leaf-beside-requires-clause-upper
rejoin_leaf-beside-requires-clause-upper g c =
    let upper = rw add-one at c.remove-right.ensures.value in
    let kids = rw add-one at c.remove-right.ensures.items in
    let lower = c.index_mut.ensures.value ∙ ap (λ zs. get_or zs c.saturating_sub-left.result c.index_mut.result.now) kids ∙ kept_below g.K.Ord.cmp c.args.at c.saturating_sub-left.result c.args.separators.now.items c.args.kids.now.items c.index_mut.result.now c.requires.loose c.saturating_sub-left.ensures c.requires.in_range c.requires.some in
    let q = low_kid g.K.Ord.cmp c.args.at c.saturating_sub-left.result c.args.separators.now.items c.args.kids.now.items c.requires.loose c.saturating_sub-left.ensures c.requires.in_range c.requires.some in
    let a = but_kid c.requires.loose.level c.args.at c.args.kids.now.items c.saturating_sub-left.result c.index_mut.result.now c.requires.loose.kids (omega (arith, q)) in
    let b = but_kid c.requires.loose.level c.args.at c.args.kids.now.items (suc c.saturating_sub-left.result) c.remove-right.result c.requires.loose.kids q in
    let zero : c.requires.loose.level ≡ 0 = (let h = but_height c.requires.loose.level c.args.at c.args.kids.now.items c.requires.loose.kids in omega (arith, h, c.requires.leaves)) in
    subst (λ n. IsKid 15 n c.remove-right.result) zero (subst (IsKid 15 c.requires.loose.level) (sym upper) b)

pub rejoin_leaf-beside-requires-clause-enough : goal.rejoin_leaf-beside-requires-clause-enough
rejoin_leaf-beside-requires-clause-enough g c =
    let upper = rw add-one at c.remove-right.ensures.value in
    let kids = rw add-one at c.remove-right.ensures.items in
    let lower = c.index_mut.ensures.value ∙ ap (λ zs. get_or zs c.saturating_sub-left.result c.index_mut.result.now) kids ∙ kept_below g.K.Ord.cmp c.args.at c.saturating_sub-left.result c.args.separators.now.items c.args.kids.now.items c.index_mut.result.now c.requires.loose c.saturating_sub-left.ensures c.requires.in_range c.requires.some in
    let q = low_kid g.K.Ord.cmp c.args.at c.saturating_sub-left.result c.args.separators.now.items c.args.kids.now.items c.requires.loose c.saturating_sub-left.ensures c.requires.in_range c.requires.some in
    let n = but_enough c.requires.loose.level c.args.at c.saturating_sub-left.result c.args.kids.now.items c.index_mut.result.now c.remove-right.result c.saturating_sub-left.ensures q c.requires.loose.kids in
    omega (arith, n, ap (λ b. b.count) lower, ap (λ b. b.count) upper)

pub returns-clause-pairs : goal.returns-clause-pairs
returns-clause-pairs g c =
    let upper = rw add-one at c.remove-right.ensures.value in
    let kids = rw add-one at c.remove-right.ensures.items in
    let lower = c.index_mut.ensures.value ∙ ap (λ zs. get_or zs c.saturating_sub-left.result c.index_mut.result.now) kids ∙ kept_below g.K.Ord.cmp c.args.at c.saturating_sub-left.result c.args.separators.now.items c.args.kids.now.items c.index_mut.result.now c.requires.loose c.saturating_sub-left.ensures c.requires.in_range c.requires.some in
    let q = low_kid g.K.Ord.cmp c.args.at c.saturating_sub-left.result c.args.separators.now.items c.args.kids.now.items c.requires.loose c.saturating_sub-left.ensures c.requires.in_range c.requires.some in
    let level : c.remove-right.result.height ≡ 0 = (let h = but_height c.requires.loose.level c.args.at c.args.kids.now.items c.requires.loose.kids in omega (arith, ap (λ b. b.height) upper, (but_kid c.requires.loose.level c.args.at c.args.kids.now.items (suc c.saturating_sub-left.result) c.remove-right.result c.requires.loose.kids q).level, h, c.requires.leaves)) in
    let ks = c.put_beside.ensures.kids ∙ ap (λ zs. with_kid (slice_set zs c.saturating_sub-left.result c.rejoin_leaf-beside.new.self) c.saturating_sub-left.result c.rejoin_leaf-beside.result) kids in
    ap flat ks ∙ mended_pairs g.K.Ord.cmp g.met.K.Ord.total c.args.at c.saturating_sub-left.result c.args.separators.now.items c.args.kids.now.items c.index_mut.result.now c.remove-right.result c.rejoin_leaf-beside.new.self c.rejoin_leaf-beside.result c.requires.loose c.saturating_sub-left.ensures c.requires.in_range c.requires.some lower upper (subst (λ n. HasBecome g.K.Ord.cmp 16 n (c.index_mut.result.now.pairs ++ c.remove-right.result.pairs) c.rejoin_leaf-beside.new.self c.rejoin_leaf-beside.result) (sym level) c.rejoin_leaf-beside.ensures.joined)

pub returns-clause-node : goal.returns-clause-node
returns-clause-node g c =
    let upper = rw add-one at c.remove-right.ensures.value in
    let kids = rw add-one at c.remove-right.ensures.items in
    let lower = c.index_mut.ensures.value ∙ ap (λ zs. get_or zs c.saturating_sub-left.result c.index_mut.result.now) kids ∙ kept_below g.K.Ord.cmp c.args.at c.saturating_sub-left.result c.args.separators.now.items c.args.kids.now.items c.index_mut.result.now c.requires.loose c.saturating_sub-left.ensures c.requires.in_range c.requires.some in
    let q = low_kid g.K.Ord.cmp c.args.at c.saturating_sub-left.result c.args.separators.now.items c.args.kids.now.items c.requires.loose c.saturating_sub-left.ensures c.requires.in_range c.requires.some in
    let level : c.remove-right.result.height ≡ 0 = (let h = but_height c.requires.loose.level c.args.at c.args.kids.now.items c.requires.loose.kids in omega (arith, ap (λ b. b.height) upper, (but_kid c.requires.loose.level c.args.at c.args.kids.now.items (suc c.saturating_sub-left.result) c.remove-right.result c.requires.loose.kids q).level, h, c.requires.leaves)) in
    let es = c.put_beside.ensures.separators ∙ ap (λ zs. with_separator zs c.saturating_sub-left.result c.rejoin_leaf-beside.result) c.remove.ensures.items in
    let ks = c.put_beside.ensures.kids ∙ ap (λ zs. with_kid (slice_set zs c.saturating_sub-left.result c.rejoin_leaf-beside.new.self) c.saturating_sub-left.result c.rejoin_leaf-beside.result) kids in
    rw (es, ks) (mended_node g.K.Ord.cmp g.met.K.Ord.total c.args.at c.saturating_sub-left.result c.args.separators.now.items c.args.kids.now.items c.index_mut.result.now c.remove-right.result c.rejoin_leaf-beside.new.self c.rejoin_leaf-beside.result c.requires.loose c.saturating_sub-left.ensures c.requires.in_range c.requires.some lower upper (subst (λ n. HasBecome g.K.Ord.cmp 16 n (c.index_mut.result.now.pairs ++ c.remove-right.result.pairs) c.rejoin_leaf-beside.new.self c.rejoin_leaf-beside.result) (sym level) c.rejoin_leaf-beside.ensures.joined))

pub returns-clause-height : goal.returns-clause-height
returns-clause-height g c =
    let upper = rw add-one at c.remove-right.ensures.value in
    let kids = rw add-one at c.remove-right.ensures.items in
    let lower = c.index_mut.ensures.value ∙ ap (λ zs. get_or zs c.saturating_sub-left.result c.index_mut.result.now) kids ∙ kept_below g.K.Ord.cmp c.args.at c.saturating_sub-left.result c.args.separators.now.items c.args.kids.now.items c.index_mut.result.now c.requires.loose c.saturating_sub-left.ensures c.requires.in_range c.requires.some in
    let q = low_kid g.K.Ord.cmp c.args.at c.saturating_sub-left.result c.args.separators.now.items c.args.kids.now.items c.requires.loose c.saturating_sub-left.ensures c.requires.in_range c.requires.some in
    let level : c.remove-right.result.height ≡ 0 = (let h = but_height c.requires.loose.level c.args.at c.args.kids.now.items c.requires.loose.kids in omega (arith, ap (λ b. b.height) upper, (but_kid c.requires.loose.level c.args.at c.args.kids.now.items (suc c.saturating_sub-left.result) c.remove-right.result c.requires.loose.kids q).level, h, c.requires.leaves)) in
    let ks = c.put_beside.ensures.kids ∙ ap (λ zs. with_kid (slice_set zs c.saturating_sub-left.result c.rejoin_leaf-beside.new.self) c.saturating_sub-left.result c.rejoin_leaf-beside.result) kids in
    ap height_of ks ∙ mended_height g.K.Ord.cmp g.met.K.Ord.total c.args.at c.saturating_sub-left.result c.args.separators.now.items c.args.kids.now.items c.index_mut.result.now c.remove-right.result c.rejoin_leaf-beside.new.self c.rejoin_leaf-beside.result c.requires.loose c.saturating_sub-left.ensures c.requires.in_range c.requires.some lower upper (subst (λ n. HasBecome g.K.Ord.cmp 16 n (c.index_mut.result.now.pairs ++ c.remove-right.result.pairs) c.rejoin_leaf-beside.new.self c.rejoin_leaf-beside.result) (sym level) c.rejoin_leaf-beside.ensures.joined)

pub returns-clause-most : goal.returns-clause-most
returns-clause-most g c =
    let upper = rw add-one at c.remove-right.ensures.value in
    let kids = rw add-one at c.remove-right.ensures.items in
    let lower = c.index_mut.ensures.value ∙ ap (λ zs. get_or zs c.saturating_sub-left.result c.index_mut.result.now) kids ∙ kept_below g.K.Ord.cmp c.args.at c.saturating_sub-left.result c.args.separators.now.items c.args.kids.now.items c.index_mut.result.now c.requires.loose c.saturating_sub-left.ensures c.requires.in_range c.requires.some in
    let q = low_kid g.K.Ord.cmp c.args.at c.saturating_sub-left.result c.args.separators.now.items c.args.kids.now.items c.requires.loose c.saturating_sub-left.ensures c.requires.in_range c.requires.some in
    let level : c.remove-right.result.height ≡ 0 = (let h = but_height c.requires.loose.level c.args.at c.args.kids.now.items c.requires.loose.kids in omega (arith, ap (λ b. b.height) upper, (but_kid c.requires.loose.level c.args.at c.args.kids.now.items (suc c.saturating_sub-left.result) c.remove-right.result c.requires.loose.kids q).level, h, c.requires.leaves)) in
    let es = c.put_beside.ensures.separators ∙ ap (λ zs. with_separator zs c.saturating_sub-left.result c.rejoin_leaf-beside.result) c.remove.ensures.items in
    omega (arith, ap length es, mended_most g.K.Ord.cmp g.met.K.Ord.total c.args.at c.saturating_sub-left.result c.args.separators.now.items c.args.kids.now.items c.index_mut.result.now c.remove-right.result c.rejoin_leaf-beside.new.self c.rejoin_leaf-beside.result c.requires.loose c.saturating_sub-left.ensures c.requires.in_range c.requires.some lower upper (subst (λ n. HasBecome g.K.Ord.cmp 16 n (c.index_mut.result.now.pairs ++ c.remove-right.result.pairs) c.rejoin_leaf-beside.new.self c.rejoin_leaf-beside.result) (sym level) c.rejoin_leaf-beside.ensures.joined))

pub returns-clause-least : goal.returns-clause-least
returns-clause-least g c =
    let upper = rw add-one at c.remove-right.ensures.value in
    let kids = rw add-one at c.remove-right.ensures.items in
    let lower = c.index_mut.ensures.value ∙ ap (λ zs. get_or zs c.saturating_sub-left.result c.index_mut.result.now) kids ∙ kept_below g.K.Ord.cmp c.args.at c.saturating_sub-left.result c.args.separators.now.items c.args.kids.now.items c.index_mut.result.now c.requires.loose c.saturating_sub-left.ensures c.requires.in_range c.requires.some in
    let q = low_kid g.K.Ord.cmp c.args.at c.saturating_sub-left.result c.args.separators.now.items c.args.kids.now.items c.requires.loose c.saturating_sub-left.ensures c.requires.in_range c.requires.some in
    let level : c.remove-right.result.height ≡ 0 = (let h = but_height c.requires.loose.level c.args.at c.args.kids.now.items c.requires.loose.kids in omega (arith, ap (λ b. b.height) upper, (but_kid c.requires.loose.level c.args.at c.args.kids.now.items (suc c.saturating_sub-left.result) c.remove-right.result c.requires.loose.kids q).level, h, c.requires.leaves)) in
    let es = c.put_beside.ensures.separators ∙ ap (λ zs. with_separator zs c.saturating_sub-left.result c.rejoin_leaf-beside.result) c.remove.ensures.items in
    omega (arith, ap length es, mended_least g.K.Ord.cmp g.met.K.Ord.total c.args.at c.saturating_sub-left.result c.args.separators.now.items c.args.kids.now.items c.index_mut.result.now c.remove-right.result c.rejoin_leaf-beside.new.self c.rejoin_leaf-beside.result c.requires.loose c.saturating_sub-left.ensures c.requires.in_range c.requires.some lower upper (subst (λ n. HasBecome g.K.Ord.cmp 16 n (c.index_mut.result.now.pairs ++ c.remove-right.result.pairs) c.rejoin_leaf-beside.new.self c.rejoin_leaf-beside.result) (sym level) c.rejoin_leaf-beside.ensures.joined))

pub rejoin_leaf-beside-requires-clause-parting : goal.rejoin_leaf-beside-requires-clause-parting
rejoin_leaf-beside-requires-clause-parting g c =
    let upper = rw add-one at c.remove-right.ensures.value in
    let kids = rw add-one at c.remove-right.ensures.items in
    let lower = c.index_mut.ensures.value ∙ ap (λ zs. get_or zs c.saturating_sub-left.result c.index_mut.result.now) kids ∙ kept_below g.K.Ord.cmp c.args.at c.saturating_sub-left.result c.args.separators.now.items c.args.kids.now.items c.index_mut.result.now c.requires.loose c.saturating_sub-left.ensures c.requires.in_range c.requires.some in
    let q = low_kid g.K.Ord.cmp c.args.at c.saturating_sub-left.result c.args.separators.now.items c.args.kids.now.items c.requires.loose c.saturating_sub-left.ensures c.requires.in_range c.requires.some in
    let a = c.index.ensures ∙ get_or_any c.saturating_sub-left.result c.args.kids.now.items c.index.result.now c.index_mut.result.now (omega (arith, q)) ∙ sym lower in
    let b = (rw add-one at c.index-2.ensures) ∙ get_or_any (suc c.saturating_sub-left.result) c.args.kids.now.items c.index-2.result.now c.remove-right.result q ∙ sym upper in
    subst (λ x. IsParting g.K.Ord.cmp (c.index_mut.result.now.pairs ++ x.pairs) c.in_ok-parting.parting) b (subst (λ x. IsParting g.K.Ord.cmp (x.pairs ++ c.index-2.result.now.pairs) c.in_ok-parting.parting) a c.in_ok-parting.ensures.parting)

pub returns-clause-kept : goal.returns-clause-kept
returns-clause-kept g c = λ many.
    let upper = rw add-one at c.remove-right.ensures.value in
    let kids = rw add-one at c.remove-right.ensures.items in
    let lower = c.index_mut.ensures.value ∙ ap (λ zs. get_or zs c.saturating_sub-left.result c.index_mut.result.now) kids ∙ kept_below g.K.Ord.cmp c.args.at c.saturating_sub-left.result c.args.separators.now.items c.args.kids.now.items c.index_mut.result.now c.requires.loose c.saturating_sub-left.ensures c.requires.in_range c.requires.some in
    let q = low_kid g.K.Ord.cmp c.args.at c.saturating_sub-left.result c.args.separators.now.items c.args.kids.now.items c.requires.loose c.saturating_sub-left.ensures c.requires.in_range c.requires.some in
    let a = c.index.ensures ∙ get_or_any c.saturating_sub-left.result c.args.kids.now.items c.index.result.now c.index_mut.result.now (omega (arith, q)) ∙ sym lower in
    let b = (rw add-one at c.index-2.ensures) ∙ get_or_any (suc c.saturating_sub-left.result) c.args.kids.now.items c.index-2.result.now c.remove-right.result q ∙ sym upper in
    let es = c.put_beside.ensures.separators ∙ ap (λ zs. with_separator zs c.saturating_sub-left.result c.rejoin_leaf-beside.result) c.remove.ensures.items in
    let n = beside_counts c.args.at c.saturating_sub-left.result c.args.kids.now.items c.index_mut.result.now c.remove-right.result c.saturating_sub-left.ensures q in
    let enough : 33 ≤ c.index.result.now.count + c.index-2.result.now.count = omega (arith, many, n, ap (λ b. b.count) a, ap (λ b. b.count) b, ap (λ b. b.count) lower, ap (λ b. b.count) upper) in
    let two = c.rejoin_leaf-beside.ensures.two (c.in_ok-parting.ensures.two enough) in
    ap length es ∙ mended_kept g.K.Ord.cmp c.saturating_sub-left.result c.args.separators.now.items c.rejoin_leaf-beside.result (low g.K.Ord.cmp c.args.at c.saturating_sub-left.result c.args.separators.now.items c.args.kids.now.items c.requires.loose c.saturating_sub-left.ensures c.requires.in_range c.requires.some) two

pub parting-requires-clause-lower : goal.parting-requires-clause-lower
parting-requires-clause-lower g c =
    let q = low_kid g.K.Ord.cmp c.args.at c.saturating_sub-left.result c.args.separators.now.items c.args.kids.now.items c.requires.loose c.saturating_sub-left.ensures c.requires.in_range c.requires.some in
    let a = c.index.ensures in
    let b = rw add-one at c.index-2.ensures in
    let h = but_height c.requires.loose.level c.args.at c.args.kids.now.items c.requires.loose.kids in
    let zero : c.requires.loose.level ≡ 0 = omega (arith, h, c.requires.leaves) in
    subst (λ n. IsKid 15 n c.index.result.now) zero (subst (IsKid 15 c.requires.loose.level) (sym a) (but_kid c.requires.loose.level c.args.at c.args.kids.now.items c.saturating_sub-left.result c.index.result.now c.requires.loose.kids (omega (arith, q))))

pub parting-requires-clause-upper : goal.parting-requires-clause-upper
parting-requires-clause-upper g c =
    let q = low_kid g.K.Ord.cmp c.args.at c.saturating_sub-left.result c.args.separators.now.items c.args.kids.now.items c.requires.loose c.saturating_sub-left.ensures c.requires.in_range c.requires.some in
    let a = c.index.ensures in
    let b = rw add-one at c.index-2.ensures in
    let h = but_height c.requires.loose.level c.args.at c.args.kids.now.items c.requires.loose.kids in
    let zero : c.requires.loose.level ≡ 0 = omega (arith, h, c.requires.leaves) in
    subst (λ n. IsKid 15 n c.index-2.result.now) zero (subst (IsKid 15 c.requires.loose.level) (sym b) (but_kid c.requires.loose.level c.args.at c.args.kids.now.items (suc c.saturating_sub-left.result) c.index-2.result.now c.requires.loose.kids q))

pub parting-requires-clause-sorted : goal.parting-requires-clause-sorted
parting-requires-clause-sorted g c =
    let q = low_kid g.K.Ord.cmp c.args.at c.saturating_sub-left.result c.args.separators.now.items c.args.kids.now.items c.requires.loose c.saturating_sub-left.ensures c.requires.in_range c.requires.some in
    let a = c.index.ensures in
    let b = rw add-one at c.index-2.ensures in
    let h = but_height c.requires.loose.level c.args.at c.args.kids.now.items c.requires.loose.kids in
    let zero : c.requires.loose.level ≡ 0 = omega (arith, h, c.requires.leaves) in
    subst (λ x. Ascends g.K.Ord.cmp (c.index.result.now.pairs ++ x.pairs)) (sym b) (subst (λ x. Ascends g.K.Ord.cmp (x.pairs ++ (get_or c.args.kids.now.items (suc c.saturating_sub-left.result) c.index-2.result.now).pairs)) (sym a) (two_sorted g.K.Ord.cmp c.saturating_sub-left.result c.args.kids.now.items c.index.result.now c.index-2.result.now q c.requires.sorted))

pub returns-in_err-parting-clause-sure : goal.returns-in_err-parting-clause-sure
returns-in_err-parting-clause-sure g c = λ short.
    let q = low_kid g.K.Ord.cmp c.args.at c.saturating_sub-left.result c.args.separators.now.items c.args.kids.now.items c.requires.loose c.saturating_sub-left.ensures c.requires.in_range c.requires.some in
    let a = c.index.ensures in
    let b = rw add-one at c.index-2.ensures in
    let both = two_each (λ e. IsSure g.K.Ord.cmp g.K.Clone.is_clone g.K.Clone.is_infallible e.0) c.saturating_sub-left.result c.args.kids.now.items c.index.result.now c.index-2.result.now q short in
    let clash : false ≡ true = c.in_err-parting.ensures.sure
    (subst (λ x. Each (λ e. IsSure g.K.Ord.cmp g.K.Clone.is_clone g.K.Clone.is_infallible e.0) (c.index.result.now.pairs ++ x.pairs)) (sym b)
    (subst (λ x. Each (λ e. IsSure g.K.Ord.cmp g.K.Clone.is_clone g.K.Clone.is_infallible e.0) (x.pairs ++ (get_or c.args.kids.now.items (suc c.saturating_sub-left.result) c.index-2.result.now).pairs)) (sym a) both)) in
    absurd (cc)
