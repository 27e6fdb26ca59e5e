use Rattle.std.proofs.Common.{◌≡◌, ◌<◌, ◌≤◌, ◌+◌, ◌-◌, OnOk, suc, length, slice_set, get_or, ap, subst, sym, ◌∙◌, arith}
use Rattle.btree.specs.Branch.{Branch}
use Rattle.btree.specs.Parts.{flat}
use Rattle.btree.specs.Rows.{IsKid}
use Rattle.btree.specs.Stretch.{IsMended, lessened}
use Rattle.btree.proofs.Order.{each_at}
use Rattle.btree.proofs.Shapes.{inner_height}
use Rattle.btree.proofs.Walks.{positive}
use Rattle.btree.proofs.Mending.{get_or_any}
use Rattle.btree.proofs.Ranges.{each_less}
use Rattle.btree.proofs.Stretches.{kept_mended, on_ok_on, one_before, one_after}
use Rattle.btree.proofs.stretch.take_places.Goals as goal

pub returns-then-count-places-clause-mended : goal.returns-then-count-places-clause-mended
returns-then-count-places-clause-mended g c =
    let R = g.K.Ord.cmp in
    let ss = c.args.separators.now.items in
    let ks = c.args.kids.now.items in
    let s = c.requires.node in
    let at = c.args.at in
    let d = c.index_mut.result.now in
    let b = get_or ks at d in
    let i = c.args.places.first in
    let j = c.args.places.end in
    let zero : s.level ≡ 0 = (let h = inner_height R ss ks s in omega (arith, h, c.requires.leaves)) in
    let kid = each_at (IsKid 16 s.level) ks at d c.requires.in_range s.kids in
    let is : c.take_places.new.self ≡ lessened b i j = c.take_places.ensures.rest ∙ ap (λ x. lessened x i j) c.index_mut.ensures.value in
    let same = c.index.ensures ∙ get_or_any at ks c.index.result.now d c.requires.in_range in
    let left : (lessened b i j).count + (j - i) ≡ b.count = omega (arith, c.take_places.ensures.count, ap (λ x. x.count) is, ap (λ x. x.count) c.index_mut.ensures.value) in
    let enough : 16 + (j - i) ≤ b.count = omega (arith, c.if-count-places.true, c.count.ensures, ap (λ x. x.count) same) in
    let made : IsKid 16 s.level (lessened b i j) = record { level = sym zero; least = omega (arith, left, enough); most = omega (arith, left, kid.most); full = (omega arith, tt) } in
    subst (λ (k : Branch g.row.K.Denot g.row.V.Denot). IsMended R ss ks ss (slice_set ks at k)) (sym is) (kept_mended R ss ks s at c.requires.in_range d (lessened b i j) made (λ P h. each_less P b.pairs i j h))

pub returns-then-at-eq0-clause-pairs : goal.returns-then-at-eq0-clause-pairs
returns-then-at-eq0-clause-pairs g c =
    let ks = c.args.kids.now.items in
    let i = c.args.places.first in
    let j = c.args.places.end in
    let q : 1 < length ks = (let f = c.requires.node.fits in omega (arith, f, c.requires.some)) in
    subst (λ n. OnOk c.rejoin_lessened.result ((d : Branch g.row.K.Denot g.row.V.Denot) → flat c.rejoin_lessened.new.kids.items ≡ flat (slice_set ks n (lessened (get_or ks n d) i j)))) (sym c.if-at-eq0.true)
    (on_ok_on c.rejoin_lessened.result (λ h d. h d d ∙ one_before ks i j 0 d q) c.rejoin_lessened.ensures.pairs)

pub returns-clause-pairs : goal.returns-clause-pairs
returns-clause-pairs g c =
    let ks = c.args.kids.now.items in
    let i = c.args.places.first in
    let j = c.args.places.end in
    let p = positive c.args.at c.if-at-eq0.false in
    let back : suc (c.args.at - 1) ≡ c.args.at = omega (arith, p) in
    let q : suc (c.args.at - 1) < length ks = omega (arith, back, c.requires.in_range) in
    subst (λ n. OnOk c.rejoin_lessened-2.result ((d : Branch g.row.K.Denot g.row.V.Denot) → flat c.rejoin_lessened-2.new.kids.items ≡ flat (slice_set ks n (lessened (get_or ks n d) i j)))) back
    (on_ok_on c.rejoin_lessened-2.result (λ h d. h d d ∙ one_after ks i j (c.args.at - 1) d q) c.rejoin_lessened-2.ensures.pairs)
