use Rattle.std.proofs.Common.{suc, length, slice_set, get_or, add-one, ap, subst, sym, ◌∙◌, arith}
use Rattle.btree.specs.Parts.{flat, Parts}
use Rattle.btree.specs.Rows.{height_of, IsKid, with_separator, with_kid}
use Rattle.btree.proofs.Parting.{parts_at}
use Rattle.btree.proofs.Mending.{low, low_kid, kept_below, but_kid, but_enough, but_height, mended_pairs, mended_node, mended_height, mended_most, mended_least, mended_kept, both_enough}
use Rattle.btree.proofs.mend.rejoin_inner.Goals as goal

pub rejoin_inner-beside-requires-clause-lower : goal.rejoin_inner-beside-requires-clause-lower
rejoin_inner-beside-requires-clause-lower g c =
    let upper = rw add-one at c.remove-right.ensures.value in
    let kids = rw add-one at c.remove-right.ensures.items in
    let lower = c.index_mut.ensures.value ∙ ap (λ zs. get_or zs c.saturating_sub-left.result c.index_mut.result.now) kids ∙ kept_below g.K.Ord.cmp c.args.at c.saturating_sub-left.result c.args.separators.now.items c.args.kids.now.items c.index_mut.result.now c.requires.loose c.saturating_sub-left.ensures c.requires.in_range c.requires.some in
    let q = low_kid g.K.Ord.cmp c.args.at c.saturating_sub-left.result c.args.separators.now.items c.args.kids.now.items c.requires.loose c.saturating_sub-left.ensures c.requires.in_range c.requires.some in
    let a = but_kid c.requires.loose.level c.args.at c.args.kids.now.items c.saturating_sub-left.result c.index_mut.result.now c.requires.loose.kids (omega (arith, q)) in
    let b = but_kid c.requires.loose.level c.args.at c.args.kids.now.items (suc c.saturating_sub-left.result) c.remove-right.result c.requires.loose.kids q in
    subst (λ n. IsKid 15 n c.index_mut.result.now) (sym (ap (λ b. b.height) upper ∙ b.level)) (subst (IsKid 15 c.requires.loose.level) (sym lower) a)

pub rejoin_inner-beside-requires-clause-upper : goal.rejoin_inner-beside-requires-clause-upper
rejoin_inner-beside-requires-clause-upper g c =
    let upper = rw add-one at c.remove-right.ensures.value in
    let kids = rw add-one at c.remove-right.ensures.items in
    let lower = c.index_mut.ensures.value ∙ ap (λ zs. get_or zs c.saturating_sub-left.result c.index_mut.result.now) kids ∙ kept_below g.K.Ord.cmp c.args.at c.saturating_sub-left.result c.args.separators.now.items c.args.kids.now.items c.index_mut.result.now c.requires.loose c.saturating_sub-left.ensures c.requires.in_range c.requires.some in
    let q = low_kid g.K.Ord.cmp c.args.at c.saturating_sub-left.result c.args.separators.now.items c.args.kids.now.items c.requires.loose c.saturating_sub-left.ensures c.requires.in_range c.requires.some in
    let a = but_kid c.requires.loose.level c.args.at c.args.kids.now.items c.saturating_sub-left.result c.index_mut.result.now c.requires.loose.kids (omega (arith, q)) in
    let b = but_kid c.requires.loose.level c.args.at c.args.kids.now.items (suc c.saturating_sub-left.result) c.remove-right.result c.requires.loose.kids q in
    subst (λ n. IsKid 15 n c.remove-right.result) (sym (ap (λ b. b.height) upper ∙ b.level)) (subst (IsKid 15 c.requires.loose.level) (sym upper) b)

pub rejoin_inner-beside-requires-clause-inner : goal.rejoin_inner-beside-requires-clause-inner
rejoin_inner-beside-requires-clause-inner g c =
    let upper = rw add-one at c.remove-right.ensures.value in
    let kids = rw add-one at c.remove-right.ensures.items in
    let lower = c.index_mut.ensures.value ∙ ap (λ zs. get_or zs c.saturating_sub-left.result c.index_mut.result.now) kids ∙ kept_below g.K.Ord.cmp c.args.at c.saturating_sub-left.result c.args.separators.now.items c.args.kids.now.items c.index_mut.result.now c.requires.loose c.saturating_sub-left.ensures c.requires.in_range c.requires.some in
    let q = low_kid g.K.Ord.cmp c.args.at c.saturating_sub-left.result c.args.separators.now.items c.args.kids.now.items c.requires.loose c.saturating_sub-left.ensures c.requires.in_range c.requires.some in
    let a = but_kid c.requires.loose.level c.args.at c.args.kids.now.items c.saturating_sub-left.result c.index_mut.result.now c.requires.loose.kids (omega (arith, q)) in
    let b = but_kid c.requires.loose.level c.args.at c.args.kids.now.items (suc c.saturating_sub-left.result) c.remove-right.result c.requires.loose.kids q in
    omega (arith, ap (λ b. b.height) upper, b.level, but_height c.requires.loose.level c.args.at c.args.kids.now.items c.requires.loose.kids, c.requires.inner)

pub rejoin_inner-beside-requires-clause-enough : goal.rejoin_inner-beside-requires-clause-enough
rejoin_inner-beside-requires-clause-enough g c =
    let upper = rw add-one at c.remove-right.ensures.value in
    let kids = rw add-one at c.remove-right.ensures.items in
    let lower = c.index_mut.ensures.value ∙ ap (λ zs. get_or zs c.saturating_sub-left.result c.index_mut.result.now) kids ∙ kept_below g.K.Ord.cmp c.args.at c.saturating_sub-left.result c.args.separators.now.items c.args.kids.now.items c.index_mut.result.now c.requires.loose c.saturating_sub-left.ensures c.requires.in_range c.requires.some in
    let q = low_kid g.K.Ord.cmp c.args.at c.saturating_sub-left.result c.args.separators.now.items c.args.kids.now.items c.requires.loose c.saturating_sub-left.ensures c.requires.in_range c.requires.some in
    let n = but_enough c.requires.loose.level c.args.at c.saturating_sub-left.result c.args.kids.now.items c.index_mut.result.now c.remove-right.result c.saturating_sub-left.ensures q c.requires.loose.kids in
    omega (arith, n, ap (λ b. b.count) lower, ap (λ b. b.count) upper)

pub rejoin_inner-beside-requires-clause-parts : goal.rejoin_inner-beside-requires-clause-parts
rejoin_inner-beside-requires-clause-parts g c =
    let upper = rw add-one at c.remove-right.ensures.value in
    let kids = rw add-one at c.remove-right.ensures.items in
    let lower = c.index_mut.ensures.value ∙ ap (λ zs. get_or zs c.saturating_sub-left.result c.index_mut.result.now) kids ∙ kept_below g.K.Ord.cmp c.args.at c.saturating_sub-left.result c.args.separators.now.items c.args.kids.now.items c.index_mut.result.now c.requires.loose c.saturating_sub-left.ensures c.requires.in_range c.requires.some in
    let q = low_kid g.K.Ord.cmp c.args.at c.saturating_sub-left.result c.args.separators.now.items c.args.kids.now.items c.requires.loose c.saturating_sub-left.ensures c.requires.in_range c.requires.some in
    let p = low g.K.Ord.cmp c.args.at c.saturating_sub-left.result c.args.separators.now.items c.args.kids.now.items c.requires.loose c.saturating_sub-left.ensures c.requires.in_range c.requires.some in
    let parts = parts_at g.K.Ord.cmp g.met.K.Ord.total c.saturating_sub-left.result c.args.separators.now.items c.args.kids.now.items c.remove-separator.result c.index_mut.result.now c.remove-right.result p q c.requires.loose.parted in
    subst (λ s. Parts g.K.Ord.cmp s c.index_mut.result.now.pairs c.remove-right.result.pairs) (sym c.remove-separator.ensures.value) (subst (λ x. Parts g.K.Ord.cmp (get_or c.args.separators.now.items c.saturating_sub-left.result c.remove-separator.result) x.pairs c.remove-right.result.pairs) (sym lower) (subst (λ x. Parts g.K.Ord.cmp (get_or c.args.separators.now.items c.saturating_sub-left.result c.remove-separator.result) (get_or c.args.kids.now.items c.saturating_sub-left.result c.index_mut.result.now).pairs x.pairs) (sym upper) parts))

pub returns-clause-pairs : goal.returns-clause-pairs
returns-clause-pairs g c =
    let upper = rw add-one at c.remove-right.ensures.value in
    let kids = rw add-one at c.remove-right.ensures.items in
    let lower = c.index_mut.ensures.value ∙ ap (λ zs. get_or zs c.saturating_sub-left.result c.index_mut.result.now) kids ∙ kept_below g.K.Ord.cmp c.args.at c.saturating_sub-left.result c.args.separators.now.items c.args.kids.now.items c.index_mut.result.now c.requires.loose c.saturating_sub-left.ensures c.requires.in_range c.requires.some in
    let q = low_kid g.K.Ord.cmp c.args.at c.saturating_sub-left.result c.args.separators.now.items c.args.kids.now.items c.requires.loose c.saturating_sub-left.ensures c.requires.in_range c.requires.some in
    let ks = c.put_beside.ensures.kids ∙ ap (λ zs. with_kid (slice_set zs c.saturating_sub-left.result c.rejoin_inner-beside.new.self) c.saturating_sub-left.result c.rejoin_inner-beside.result) kids in
    ap flat ks ∙ mended_pairs g.K.Ord.cmp g.met.K.Ord.total c.args.at c.saturating_sub-left.result c.args.separators.now.items c.args.kids.now.items c.index_mut.result.now c.remove-right.result c.rejoin_inner-beside.new.self c.rejoin_inner-beside.result c.requires.loose c.saturating_sub-left.ensures c.requires.in_range c.requires.some lower upper c.rejoin_inner-beside.ensures.joined

pub returns-clause-node : goal.returns-clause-node
returns-clause-node g c =
    let upper = rw add-one at c.remove-right.ensures.value in
    let kids = rw add-one at c.remove-right.ensures.items in
    let lower = c.index_mut.ensures.value ∙ ap (λ zs. get_or zs c.saturating_sub-left.result c.index_mut.result.now) kids ∙ kept_below g.K.Ord.cmp c.args.at c.saturating_sub-left.result c.args.separators.now.items c.args.kids.now.items c.index_mut.result.now c.requires.loose c.saturating_sub-left.ensures c.requires.in_range c.requires.some in
    let q = low_kid g.K.Ord.cmp c.args.at c.saturating_sub-left.result c.args.separators.now.items c.args.kids.now.items c.requires.loose c.saturating_sub-left.ensures c.requires.in_range c.requires.some in
    let es = c.put_beside.ensures.separators ∙ ap (λ zs. with_separator zs c.saturating_sub-left.result c.rejoin_inner-beside.result) c.remove-separator.ensures.items in
    let ks = c.put_beside.ensures.kids ∙ ap (λ zs. with_kid (slice_set zs c.saturating_sub-left.result c.rejoin_inner-beside.new.self) c.saturating_sub-left.result c.rejoin_inner-beside.result) kids in
    rw (es, ks) (mended_node g.K.Ord.cmp g.met.K.Ord.total c.args.at c.saturating_sub-left.result c.args.separators.now.items c.args.kids.now.items c.index_mut.result.now c.remove-right.result c.rejoin_inner-beside.new.self c.rejoin_inner-beside.result c.requires.loose c.saturating_sub-left.ensures c.requires.in_range c.requires.some lower upper c.rejoin_inner-beside.ensures.joined)

pub returns-clause-height : goal.returns-clause-height
returns-clause-height g c =
    let upper = rw add-one at c.remove-right.ensures.value in
    let kids = rw add-one at c.remove-right.ensures.items in
    let lower = c.index_mut.ensures.value ∙ ap (λ zs. get_or zs c.saturating_sub-left.result c.index_mut.result.now) kids ∙ kept_below g.K.Ord.cmp c.args.at c.saturating_sub-left.result c.args.separators.now.items c.args.kids.now.items c.index_mut.result.now c.requires.loose c.saturating_sub-left.ensures c.requires.in_range c.requires.some in
    let q = low_kid g.K.Ord.cmp c.args.at c.saturating_sub-left.result c.args.separators.now.items c.args.kids.now.items c.requires.loose c.saturating_sub-left.ensures c.requires.in_range c.requires.some in
    let ks = c.put_beside.ensures.kids ∙ ap (λ zs. with_kid (slice_set zs c.saturating_sub-left.result c.rejoin_inner-beside.new.self) c.saturating_sub-left.result c.rejoin_inner-beside.result) kids in
    ap height_of ks ∙ mended_height g.K.Ord.cmp g.met.K.Ord.total c.args.at c.saturating_sub-left.result c.args.separators.now.items c.args.kids.now.items c.index_mut.result.now c.remove-right.result c.rejoin_inner-beside.new.self c.rejoin_inner-beside.result c.requires.loose c.saturating_sub-left.ensures c.requires.in_range c.requires.some lower upper c.rejoin_inner-beside.ensures.joined

pub returns-clause-most : goal.returns-clause-most
returns-clause-most g c =
    let upper = rw add-one at c.remove-right.ensures.value in
    let kids = rw add-one at c.remove-right.ensures.items in
    let lower = c.index_mut.ensures.value ∙ ap (λ zs. get_or zs c.saturating_sub-left.result c.index_mut.result.now) kids ∙ kept_below g.K.Ord.cmp c.args.at c.saturating_sub-left.result c.args.separators.now.items c.args.kids.now.items c.index_mut.result.now c.requires.loose c.saturating_sub-left.ensures c.requires.in_range c.requires.some in
    let q = low_kid g.K.Ord.cmp c.args.at c.saturating_sub-left.result c.args.separators.now.items c.args.kids.now.items c.requires.loose c.saturating_sub-left.ensures c.requires.in_range c.requires.some in
    let es = c.put_beside.ensures.separators ∙ ap (λ zs. with_separator zs c.saturating_sub-left.result c.rejoin_inner-beside.result) c.remove-separator.ensures.items in
    omega (arith, ap length es, mended_most g.K.Ord.cmp g.met.K.Ord.total c.args.at c.saturating_sub-left.result c.args.separators.now.items c.args.kids.now.items c.index_mut.result.now c.remove-right.result c.rejoin_inner-beside.new.self c.rejoin_inner-beside.result c.requires.loose c.saturating_sub-left.ensures c.requires.in_range c.requires.some lower upper c.rejoin_inner-beside.ensures.joined)

pub returns-clause-least : goal.returns-clause-least
returns-clause-least g c =
    let upper = rw add-one at c.remove-right.ensures.value in
    let kids = rw add-one at c.remove-right.ensures.items in
    let lower = c.index_mut.ensures.value ∙ ap (λ zs. get_or zs c.saturating_sub-left.result c.index_mut.result.now) kids ∙ kept_below g.K.Ord.cmp c.args.at c.saturating_sub-left.result c.args.separators.now.items c.args.kids.now.items c.index_mut.result.now c.requires.loose c.saturating_sub-left.ensures c.requires.in_range c.requires.some in
    let q = low_kid g.K.Ord.cmp c.args.at c.saturating_sub-left.result c.args.separators.now.items c.args.kids.now.items c.requires.loose c.saturating_sub-left.ensures c.requires.in_range c.requires.some in
    let es = c.put_beside.ensures.separators ∙ ap (λ zs. with_separator zs c.saturating_sub-left.result c.rejoin_inner-beside.result) c.remove-separator.ensures.items in
    omega (arith, ap length es, mended_least g.K.Ord.cmp g.met.K.Ord.total c.args.at c.saturating_sub-left.result c.args.separators.now.items c.args.kids.now.items c.index_mut.result.now c.remove-right.result c.rejoin_inner-beside.new.self c.rejoin_inner-beside.result c.requires.loose c.saturating_sub-left.ensures c.requires.in_range c.requires.some lower upper c.rejoin_inner-beside.ensures.joined)

pub returns-clause-kept : goal.returns-clause-kept
returns-clause-kept g c node =
    let upper = rw add-one at c.remove-right.ensures.value in
    let kids = rw add-one at c.remove-right.ensures.items in
    let lower = c.index_mut.ensures.value ∙ ap (λ zs. get_or zs c.saturating_sub-left.result c.index_mut.result.now) kids ∙ kept_below g.K.Ord.cmp c.args.at c.saturating_sub-left.result c.args.separators.now.items c.args.kids.now.items c.index_mut.result.now c.requires.loose c.saturating_sub-left.ensures c.requires.in_range c.requires.some in
    let q = low_kid g.K.Ord.cmp c.args.at c.saturating_sub-left.result c.args.separators.now.items c.args.kids.now.items c.requires.loose c.saturating_sub-left.ensures c.requires.in_range c.requires.some in
    let es = c.put_beside.ensures.separators ∙ ap (λ zs. with_separator zs c.saturating_sub-left.result c.rejoin_inner-beside.result) c.remove-separator.ensures.items in
    let n = both_enough g.K.Ord.cmp c.saturating_sub-left.result c.args.separators.now.items c.args.kids.now.items c.index_mut.result.now c.remove-right.result node q in
    let two = c.rejoin_inner-beside.ensures.two (omega (arith, n, ap (λ b. b.count) lower, ap (λ b. b.count) upper)) in
    ap length es ∙ mended_kept g.K.Ord.cmp c.saturating_sub-left.result c.args.separators.now.items c.rejoin_inner-beside.result (low g.K.Ord.cmp c.args.at c.saturating_sub-left.result c.args.separators.now.items c.args.kids.now.items c.requires.loose c.saturating_sub-left.ensures c.requires.in_range c.requires.some) two
