use Rattle.std.proofs.Common.{◌≡◌, ◌<◌, true, false, ◌++◌, suc, length, slice_set, get_or, add-one, ap, subst, sym, ◌∙◌, arith}
use Rattle.std.proofs.lemmas.List.Edits.{get_or-remove_below}
use Rattle.btree.specs.Branch.{Branch}
use Rattle.btree.specs.Order.{Ascends, Each}
use Rattle.btree.specs.Parts.{flat, IsSure}
use Rattle.btree.specs.Rows.{HasBecome, with_separator, with_kid}
use Rattle.btree.specs.Stretch.{lessened}
use Rattle.btree.proofs.Shapes.{inner_height}
use Rattle.btree.proofs.Mending.{two_sorted, two_each, get_or_any}
use Rattle.btree.proofs.Ranges.{each_less}
use Rattle.btree.proofs.Stretches.{ascends_lessened, each_lessened, lost_pairs, lost_mended}
use Rattle.btree.proofs.stretch.rejoin_lessened.Goals as goal

pub parting_kept-requires-clause-sorted : goal.parting_kept-requires-clause-sorted
parting_kept-requires-clause-sorted g c =
    let R = g.K.Ord.cmp in
    let ss = c.args.separators.now.items in
    let ks = c.args.kids.now.items in
    let left = c.args.left in
    let s = c.requires.node in
    let q : suc left < length ks = (let f = s.fits in omega (arith, f, c.requires.in_range)) in
    let zero : s.level ≡ 0 = (let h = inner_height R ss ks s in omega (arith, h, c.requires.leaves)) in
    let a = c.index.ensures in
    let b = rw add-one at c.index-2.ensures in
    let two = two_sorted R left ks c.index.result.now c.index-2.result.now q c.requires.sorted in
    let sorted = subst (λ (x : Branch g.row.K.Denot g.row.V.Denot). Ascends R (c.index.result.now.pairs ++ x.pairs)) (sym b) (subst (λ (x : Branch g.row.K.Denot g.row.V.Denot). Ascends R (x.pairs ++ (get_or ks (suc left) c.index-2.result.now).pairs)) (sym a) two) in
    ascends_lessened R c.index.result.now.pairs c.index-2.result.now.pairs c.args.lower.first c.args.lower.end c.args.upper.first c.args.upper.end (c.requires.lower_places c.index.result.now).0 (c.requires.upper_places c.index-2.result.now).0 sorted

pub returns-in_err-parting-clause-sure : goal.returns-in_err-parting-clause-sure
returns-in_err-parting-clause-sure g c = λ short.
    let R = g.K.Ord.cmp in
    let ss = c.args.separators.now.items in
    let ks = c.args.kids.now.items in
    let left = c.args.left in
    let s = c.requires.node in
    let q : suc left < length ks = (let f = s.fits in omega (arith, f, c.requires.in_range)) in
    let zero : s.level ≡ 0 = (let h = inner_height R ss ks s in omega (arith, h, c.requires.leaves)) in
    let a = c.index.ensures in
    let b = rw add-one at c.index-2.ensures in
    let sure = λ (e : g.row.K.Denot × g.row.V.Denot). IsSure g.K.Ord.cmp g.K.Clone.is_clone g.K.Clone.is_infallible e.0 in
    let two = two_each sure left ks c.index.result.now c.index-2.result.now q short in
    let both = subst (λ (x : Branch g.row.K.Denot g.row.V.Denot). Each sure (c.index.result.now.pairs ++ x.pairs)) (sym b) (subst (λ (x : Branch g.row.K.Denot g.row.V.Denot). Each sure (x.pairs ++ (get_or ks (suc left) c.index-2.result.now).pairs)) (sym a) two) in
    let clash : false ≡ true = c.in_err-parting.ensures.sure (each_lessened sure c.index.result.now.pairs c.index-2.result.now.pairs c.args.lower.first c.args.lower.end c.args.upper.first c.args.upper.end both) in
    absurd (cc)

pub returns-clause-pairs : goal.returns-clause-pairs
returns-clause-pairs g c = λ d e.
    let R = g.K.Ord.cmp in
    let ss = c.args.separators.now.items in
    let ks = c.args.kids.now.items in
    let left = c.args.left in
    let s = c.requires.node in
    let q : suc left < length ks = (let f = s.fits in omega (arith, f, c.requires.in_range)) in
    let zero : s.level ≡ 0 = (let h = inner_height R ss ks s in omega (arith, h, c.requires.leaves)) in
    let upper = rw add-one at c.remove-right.ensures.value in
    let kids = rw add-one at c.remove-right.ensures.items in
    let lower = c.index_mut.ensures.value ∙ ap (λ zs. get_or zs left c.index_mut.result.now) kids ∙ get_or-remove_below ks (suc left) c.index_mut.result.now left (omega arith) q in
    let es = c.put_beside.ensures.separators ∙ ap (λ zs. with_separator zs left c.rejoin_lessened-beside.result) c.remove.ensures.items in
    let js = c.put_beside.ensures.kids ∙ ap (λ zs. with_kid (slice_set zs left c.rejoin_lessened-beside.new.self) left c.rejoin_lessened-beside.result) kids in
    let left_is = lower ∙ get_or_any left ks c.index_mut.result.now d (omega (arith, q)) in
    let right_is = upper ∙ get_or_any (suc left) ks c.remove-right.result e q in
    let become = subst (λ n. HasBecome R 16 n ((lessened (get_or ks left d) c.args.lower.first c.args.lower.end).pairs ++ (lessened (get_or ks (suc left) e) c.args.upper.first c.args.upper.end).pairs) c.rejoin_lessened-beside.new.self c.rejoin_lessened-beside.result) (sym zero)
    (subst (λ (b : Branch g.row.K.Denot g.row.V.Denot). HasBecome R 16 0 ((lessened (get_or ks left d) c.args.lower.first c.args.lower.end).pairs ++ (lessened b c.args.upper.first c.args.upper.end).pairs) c.rejoin_lessened-beside.new.self c.rejoin_lessened-beside.result) right_is
    (subst (λ (b : Branch g.row.K.Denot g.row.V.Denot). HasBecome R 16 0 ((lessened b c.args.lower.first c.args.lower.end).pairs ++ (lessened c.remove-right.result c.args.upper.first c.args.upper.end).pairs) c.rejoin_lessened-beside.new.self c.rejoin_lessened-beside.result) left_is c.rejoin_lessened-beside.ensures.joined)) in
    ap flat js ∙ lost_pairs R g.met.K.Ord.total ss ks s left c.requires.in_range (lessened (get_or ks left d) c.args.lower.first c.args.lower.end) (lessened (get_or ks (suc left) e) c.args.upper.first c.args.upper.end) d e c.rejoin_lessened-beside.new.self c.rejoin_lessened-beside.result
    (λ P h. each_less P (get_or ks left d).pairs c.args.lower.first c.args.lower.end h) (λ P h. each_less P (get_or ks (suc left) e).pairs c.args.upper.first c.args.upper.end h) become

pub returns-clause-mended : goal.returns-clause-mended
returns-clause-mended g c =
    let R = g.K.Ord.cmp in
    let ss = c.args.separators.now.items in
    let ks = c.args.kids.now.items in
    let left = c.args.left in
    let s = c.requires.node in
    let q : suc left < length ks = (let f = s.fits in omega (arith, f, c.requires.in_range)) in
    let zero : s.level ≡ 0 = (let h = inner_height R ss ks s in omega (arith, h, c.requires.leaves)) in
    let upper = rw add-one at c.remove-right.ensures.value in
    let kids = rw add-one at c.remove-right.ensures.items in
    let lower = c.index_mut.ensures.value ∙ ap (λ zs. get_or zs left c.index_mut.result.now) kids ∙ get_or-remove_below ks (suc left) c.index_mut.result.now left (omega arith) q in
    let es = c.put_beside.ensures.separators ∙ ap (λ zs. with_separator zs left c.rejoin_lessened-beside.result) c.remove.ensures.items in
    let js = c.put_beside.ensures.kids ∙ ap (λ zs. with_kid (slice_set zs left c.rejoin_lessened-beside.new.self) left c.rejoin_lessened-beside.result) kids in
    let d = c.index_mut.result.now in
    let e = c.remove-right.result in
    let left_is = lower ∙ get_or_any left ks c.index_mut.result.now d (omega (arith, q)) in
    let right_is = upper ∙ get_or_any (suc left) ks c.remove-right.result e q in
    let become = subst (λ n. HasBecome R 16 n ((lessened (get_or ks left d) c.args.lower.first c.args.lower.end).pairs ++ (lessened (get_or ks (suc left) e) c.args.upper.first c.args.upper.end).pairs) c.rejoin_lessened-beside.new.self c.rejoin_lessened-beside.result) (sym zero)
    (subst (λ (b : Branch g.row.K.Denot g.row.V.Denot). HasBecome R 16 0 ((lessened (get_or ks left d) c.args.lower.first c.args.lower.end).pairs ++ (lessened b c.args.upper.first c.args.upper.end).pairs) c.rejoin_lessened-beside.new.self c.rejoin_lessened-beside.result) right_is
    (subst (λ (b : Branch g.row.K.Denot g.row.V.Denot). HasBecome R 16 0 ((lessened b c.args.lower.first c.args.lower.end).pairs ++ (lessened c.remove-right.result c.args.upper.first c.args.upper.end).pairs) c.rejoin_lessened-beside.new.self c.rejoin_lessened-beside.result) left_is c.rejoin_lessened-beside.ensures.joined)) in
    rw (es, js) (lost_mended R g.met.K.Ord.total ss ks s left c.requires.in_range (lessened (get_or ks left d) c.args.lower.first c.args.lower.end) (lessened (get_or ks (suc left) e) c.args.upper.first c.args.upper.end) d e c.rejoin_lessened-beside.new.self c.rejoin_lessened-beside.result
    (λ P h. each_less P (get_or ks left d).pairs c.args.lower.first c.args.lower.end h) (λ P h. each_less P (get_or ks (suc left) e).pairs c.args.upper.first c.args.upper.end h) become)
