use Rattle.std.proofs.Common.{◌∙◌, ap, sym, subst, arith, slice_set}
use Rattle.std.specs.FinMap.Entries.{find}
use Rattle.btree.specs.Order.{Ascends, Each, without}
use Rattle.btree.specs.Branch.{Branch}
use Rattle.btree.specs.Parts.{flat, IsSure}
use Rattle.btree.specs.Rows.{HasShrunk, IsInner}
use Rattle.btree.proofs.Shapes.{kid_at, below_kids}
use Rattle.btree.proofs.Places.{kid_sorted, found_below}
use Rattle.btree.proofs.Removal.{loose_of, loose_height, without_set, each_without, ascends_without, restored}
use Rattle.btree.proofs.mend.remove_below.Goals as goal

pub take-requires : goal.take-requires
take-requires g c =
    let low = below_kids g.K.Ord.cmp c.args.at c.args.separators.now.items c.args.kids.now.items c.requires.node c.requires.in_range in
    let d = c.index_mut.result.now in
    let value = c.index_mut.ensures.value in
    let kid = kid_at g.K.Ord.cmp c.args.at c.args.separators.now.items c.args.kids.now.items d c.requires.node low in
    let sorted = kid_sorted g.K.Ord.cmp g.met.K.Ord.total c.args.separators.now.items c.args.kids.now.items c.requires.node c.args.at d low c.requires.sorted in
    record { leaf = omega (arith, kid.0, ap (λ b. b.height) value, c.requires.leaves); sorted = subst (λ b. Ascends g.K.Ord.cmp b.pairs) (sym value) sorted; most = omega (arith, kid.1.most, ap (λ b. b.count) value) }

pub mend_leaf-requires-clause-leaves : goal.mend_leaf-requires-clause-leaves
mend_leaf-requires-clause-leaves g c =
    let low = below_kids g.K.Ord.cmp c.args.at c.args.separators.now.items c.args.kids.now.items c.requires.node c.requires.in_range in
    let d = c.index_mut.result.now in
    let value = c.index_mut.ensures.value in
    let shrunk = subst (λ (k : Branch g.row.K.Denot g.row.V.Denot). HasShrunk k c.take.new.self) value c.take.ensures.shrunk in
    let gone = c.take.ensures.pairs ∙ ap (λ b. without g.K.Ord.cmp c.args.key.now b.pairs) value in
    loose_height g.K.Ord.cmp g.met.K.Ord.total c.args.separators.now.items c.args.kids.now.items c.requires.node c.args.key.now c.args.at d c.take.new.self c.requires.in_range low c.requires.from c.requires.under shrunk gone ∙ c.requires.leaves

pub mend_leaf-requires-clause-loose : goal.mend_leaf-requires-clause-loose
mend_leaf-requires-clause-loose g c =
    let low = below_kids g.K.Ord.cmp c.args.at c.args.separators.now.items c.args.kids.now.items c.requires.node c.requires.in_range in
    let d = c.index_mut.result.now in
    let value = c.index_mut.ensures.value in
    let shrunk = subst (λ (k : Branch g.row.K.Denot g.row.V.Denot). HasShrunk k c.take.new.self) value c.take.ensures.shrunk in
    let gone = c.take.ensures.pairs ∙ ap (λ b. without g.K.Ord.cmp c.args.key.now b.pairs) value in
    loose_of g.K.Ord.cmp g.met.K.Ord.total c.args.separators.now.items c.args.kids.now.items c.requires.node c.args.key.now c.args.at d c.take.new.self c.requires.in_range low c.requires.from c.requires.under shrunk gone

pub mend_leaf-requires-clause-sorted : goal.mend_leaf-requires-clause-sorted
mend_leaf-requires-clause-sorted g c =
    let low = below_kids g.K.Ord.cmp c.args.at c.args.separators.now.items c.args.kids.now.items c.requires.node c.requires.in_range in
    let d = c.index_mut.result.now in
    let value = c.index_mut.ensures.value in
    let shrunk = subst (λ (k : Branch g.row.K.Denot g.row.V.Denot). HasShrunk k c.take.new.self) value c.take.ensures.shrunk in
    let gone = c.take.ensures.pairs ∙ ap (λ b. without g.K.Ord.cmp c.args.key.now b.pairs) value in
    subst (Ascends g.K.Ord.cmp) (sym (without_set g.K.Ord.cmp g.met.K.Ord.total c.args.separators.now.items c.args.kids.now.items c.requires.node c.args.key.now c.args.at d c.take.new.self c.requires.in_range low c.requires.from c.requires.under shrunk gone)) (ascends_without g.K.Ord.cmp c.args.key.now (flat c.args.kids.now.items) c.requires.sorted)

pub returns-in-Ok-clause-value : goal.returns-in-Ok-clause-value
returns-in-Ok-clause-value g c =
    let low = below_kids g.K.Ord.cmp c.args.at c.args.separators.now.items c.args.kids.now.items c.requires.node c.requires.in_range in
    let d = c.index_mut.result.now in
    let value = c.index_mut.ensures.value in
    sym c.in-Some.ensures.found ∙ ap (λ b. find g.K.Ord.cmp c.args.key.now b.pairs) value ∙ sym (found_below g.K.Ord.cmp g.met.K.Ord.total c.args.separators.now.items c.args.kids.now.items c.requires.node c.args.key.now c.args.at d c.requires.in_range low c.requires.from c.requires.under)

pub returns-in-Ok-clause-pairs : goal.returns-in-Ok-clause-pairs
returns-in-Ok-clause-pairs g c =
    let low = below_kids g.K.Ord.cmp c.args.at c.args.separators.now.items c.args.kids.now.items c.requires.node c.requires.in_range in
    let d = c.index_mut.result.now in
    let value = c.index_mut.ensures.value in
    let shrunk = subst (λ (k : Branch g.row.K.Denot g.row.V.Denot). HasShrunk k c.take.new.self) value c.take.ensures.shrunk in
    let gone = c.take.ensures.pairs ∙ ap (λ b. without g.K.Ord.cmp c.args.key.now b.pairs) value in
    c.in-Ok.ensures.pairs ∙ without_set g.K.Ord.cmp g.met.K.Ord.total c.args.separators.now.items c.args.kids.now.items c.requires.node c.args.key.now c.args.at d c.take.new.self c.requires.in_range low c.requires.from c.requires.under shrunk gone

pub returns-in-Ok-clause-height : goal.returns-in-Ok-clause-height
returns-in-Ok-clause-height g c =
    let low = below_kids g.K.Ord.cmp c.args.at c.args.separators.now.items c.args.kids.now.items c.requires.node c.requires.in_range in
    let d = c.index_mut.result.now in
    let value = c.index_mut.ensures.value in
    let shrunk = subst (λ (k : Branch g.row.K.Denot g.row.V.Denot). HasShrunk k c.take.new.self) value c.take.ensures.shrunk in
    let gone = c.take.ensures.pairs ∙ ap (λ b. without g.K.Ord.cmp c.args.key.now b.pairs) value in
    c.in-Ok.ensures.height ∙ loose_height g.K.Ord.cmp g.met.K.Ord.total c.args.separators.now.items c.args.kids.now.items c.requires.node c.args.key.now c.args.at d c.take.new.self c.requires.in_range low c.requires.from c.requires.under shrunk gone

pub returns-in_default-clause-value : goal.returns-in_default-clause-value
returns-in_default-clause-value g c =
    let low = below_kids g.K.Ord.cmp c.args.at c.args.separators.now.items c.args.kids.now.items c.requires.node c.requires.in_range in
    let d = c.index_mut.result.now in
    let value = c.index_mut.ensures.value in
    sym (found_below g.K.Ord.cmp g.met.K.Ord.total c.args.separators.now.items c.args.kids.now.items c.requires.node c.args.key.now c.args.at d c.requires.in_range low c.requires.from c.requires.under
    ∙ ap (λ b. find g.K.Ord.cmp c.args.key.now b.pairs) (sym value) ∙ c.in_default.ensures.missed)

pub returns-in_default-clause-pairs : goal.returns-in_default-clause-pairs
returns-in_default-clause-pairs g c =
    let low = below_kids g.K.Ord.cmp c.args.at c.args.separators.now.items c.args.kids.now.items c.requires.node c.requires.in_range in
    let d = c.index_mut.result.now in
    let value = c.index_mut.ensures.value in
    let shrunk = subst (λ (k : Branch g.row.K.Denot g.row.V.Denot). HasShrunk k c.take.new.self) value c.take.ensures.shrunk in
    let gone = c.take.ensures.pairs ∙ ap (λ b. without g.K.Ord.cmp c.args.key.now b.pairs) value in
    without_set g.K.Ord.cmp g.met.K.Ord.total c.args.separators.now.items c.args.kids.now.items c.requires.node c.args.key.now c.args.at d c.take.new.self c.requires.in_range low c.requires.from c.requires.under shrunk gone

pub returns-in-Err-clause-node : goal.returns-in-Err-clause-node
returns-in-Err-clause-node g c =
    let low = below_kids g.K.Ord.cmp c.args.at c.args.separators.now.items c.args.kids.now.items c.requires.node c.requires.in_range in
    let d = c.index_mut.result.now in
    let value = c.index_mut.ensures.value in
    let kids = restored c.args.kids.now.items c.mend_leaf.new.kids.items c.args.at d c.take.new.self c.index_mut-in-Err.result.now c.put_back.new.self c.in-Some.place c.in-Some.pair low value (ap (λ v. v.items) c.in-Err.ensures.refused.1) c.index_mut-in-Err.ensures.value c.put_back.ensures c.in-Some.ensures.back.1 in
    let separators = ap (λ v. v.items) c.in-Err.ensures.refused.0 in
    subst (λ zs. IsInner g.K.Ord.cmp zs (slice_set c.mend_leaf.new.kids.items c.args.at c.put_back.new.self)) (sym separators) (subst (IsInner g.K.Ord.cmp c.args.separators.now.items) (sym kids) c.requires.node)

pub returns-in-Err-clause-refused : goal.returns-in-Err-clause-refused
returns-in-Err-clause-refused g c =
    let low = below_kids g.K.Ord.cmp c.args.at c.args.separators.now.items c.args.kids.now.items c.requires.node c.requires.in_range in
    let d = c.index_mut.result.now in
    let value = c.index_mut.ensures.value in
    let kids = restored c.args.kids.now.items c.mend_leaf.new.kids.items c.args.at d c.take.new.self c.index_mut-in-Err.result.now c.put_back.new.self c.in-Some.place c.in-Some.pair low value (ap (λ v. v.items) c.in-Err.ensures.refused.1) c.index_mut-in-Err.ensures.value c.put_back.ensures c.in-Some.ensures.back.1 in
    let separators = ap (λ v. v.items) c.in-Err.ensures.refused.0 in
    (separators, kids)

pub returns-in-Err-clause-sure : goal.returns-in-Err-clause-sure
returns-in-Err-clause-sure g c = λ short.
    let low = below_kids g.K.Ord.cmp c.args.at c.args.separators.now.items c.args.kids.now.items c.requires.node c.requires.in_range in
    let d = c.index_mut.result.now in
    let value = c.index_mut.ensures.value in
    let shrunk = subst (λ (k : Branch g.row.K.Denot g.row.V.Denot). HasShrunk k c.take.new.self) value c.take.ensures.shrunk in
    let gone = c.take.ensures.pairs ∙ ap (λ b. without g.K.Ord.cmp c.args.key.now b.pairs) value in
    c.in-Err.ensures.sure (subst (Each (λ e. IsSure g.K.Ord.cmp g.K.Clone.is_clone g.K.Clone.is_infallible e.0)) (sym (without_set g.K.Ord.cmp g.met.K.Ord.total c.args.separators.now.items c.args.kids.now.items c.requires.node c.args.key.now c.args.at d c.take.new.self c.requires.in_range low c.requires.from c.requires.under shrunk gone)) (each_without g.K.Ord.cmp c.args.key.now (λ e. IsSure g.K.Ord.cmp g.K.Clone.is_clone g.K.Clone.is_infallible e.0) (flat c.args.kids.now.items) short))
