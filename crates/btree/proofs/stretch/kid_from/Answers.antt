use Rattle.std.proofs.Common.{◌≡◌, true, false, [], IfSome, suc, add-one, subst, arith}
use Rattle.btree.specs.Branch.{Branch}
use Rattle.btree.specs.Order.{last_of}
use Rattle.btree.proofs.Parting.{rises_of}
use Rattle.btree.proofs.Shapes.{below_kids}
use Rattle.btree.proofs.Places.{kid_sorted}
use Rattle.btree.proofs.Walks.{front_before, back_after}
use Rattle.btree.proofs.Stretches.{before_last, ahead_more, last_later}
use Rattle.btree.proofs.stretch.kid_from.Goals as goal

pub kid_at_point-at-requires : goal.kid_at_point-at-requires
kid_at_point-at-requires g c = let f = c.requires.node.fits in rises_of g.K.Ord.cmp c.args.separators.now c.args.kids.now (omega (arith, f)) c.requires.node.parted

pub returns-then-ends_before-clause-ahead : goal.returns-then-ends_before-clause-ahead
returns-then-ends_before-clause-ahead g c =
    let R = g.K.Ord.cmp in
    let ss = c.args.separators.now in
    let ks = c.args.kids.now in
    let before = g.P.Point.before c.args.from.now in
    let s = c.requires.node in
    let at = c.kid_at_point-at.result in
    let low = below_kids R at ss ks s c.kid_at_point-at.ensures.in_range in
    let d : Branch g.row.K.Denot g.row.V.Denot = record { pairs = []; height = 0; count = 0; sizes = [] } in
    let front = front_before R g.met.K.Ord.total before (g.met.P.Point.downward c.args.from.now) (g.met.P.Point.tied c.args.from.now) ss ks s at d c.kid_at_point-at.ensures.in_range low c.kid_at_point-at.ensures.before c.kid_at_point-at.ensures.after in
    let kid = c.index-kids-at.result in
    let sorted = kid_sorted R g.met.K.Ord.total ss ks s at kid low c.requires.sorted in
    let last = subst (λ (b : Branch g.row.K.Denot g.row.V.Denot). IfSome (last_of b.pairs) (λ e. before e.0 ≡ true)) c.index-kids-at.is (subst (λ t. IfSome (last_of kid.pairs) (λ e. before e.0 ≡ t)) c.if-ends_before.true c.ends_before.ensures.last) in
    let all = before_last R (λ e. before e.0 ≡ true) (λ x y. g.met.P.Point.downward c.args.from.now x.0 y.0) _ sorted last in
    rw add-one (ahead_more (λ e. before e.0 ≡ true) at ks kid low front all)

pub returns-then-ends_before-clause-reaches : goal.returns-then-ends_before-clause-reaches
returns-then-ends_before-clause-reaches g c = λ more d.
    let R = g.K.Ord.cmp in
    let ss = c.args.separators.now in
    let ks = c.args.kids.now in
    let before = g.P.Point.before c.args.from.now in
    let s = c.requires.node in
    let at = c.kid_at_point-at.result in
    let low = below_kids R at ss ks s c.kid_at_point-at.ensures.in_range in
    let back = back_after R g.met.K.Ord.total before (g.met.P.Point.downward c.args.from.now) (g.met.P.Point.tied c.args.from.now) ss ks s at d c.kid_at_point-at.ensures.in_range low c.kid_at_point-at.ensures.before c.kid_at_point-at.ensures.after in
    rw add-one (last_later (λ e. before e.0 ≡ false) (suc at) ks d (omega (arith, more)) back)

pub returns-else-at-separators-clause-ahead : goal.returns-else-at-separators-clause-ahead
returns-else-at-separators-clause-ahead g c =
    let R = g.K.Ord.cmp in
    let ss = c.args.separators.now in
    let ks = c.args.kids.now in
    let before = g.P.Point.before c.args.from.now in
    let s = c.requires.node in
    let at = c.kid_at_point-at.result in
    let low = below_kids R at ss ks s c.kid_at_point-at.ensures.in_range in
    let d : Branch g.row.K.Denot g.row.V.Denot = record { pairs = []; height = 0; count = 0; sizes = [] } in
    let front = front_before R g.met.K.Ord.total before (g.met.P.Point.downward c.args.from.now) (g.met.P.Point.tied c.args.from.now) ss ks s at d c.kid_at_point-at.ensures.in_range low c.kid_at_point-at.ensures.before c.kid_at_point-at.ensures.after in
    front
