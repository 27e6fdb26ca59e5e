use Rattle.std.proofs.Common.{◌≡◌, ◌<◌, ◌+◌, ◌∙◌, ◌++◌, suc, not, ap, sym, subst, arith, rules, length, drop, append_assoc}
use borrow.Author.Tests.{eqb-true, eqb-false}
use Rattle.std.specs.List.{filter}
use Rattle.std.proofs.lemmas.List.{take_rest}
use Rattle.btree.specs.Order.{Ascends}
use Rattle.btree.specs.Parts.{flat}
use Rattle.btree.specs.Walk.{left_of, HaveRoomBelow}
use Rattle.btree.proofs.Nodes.{leaf_row, leaf_sorted, inner, inner_pairs, inner_rises, inner_low, inner_level, kid_ascends}
use Rattle.btree.proofs.Walks.{room_in, room_dropped, kept_from, leaf_from}
use Rattle.btree.proofs.forward.+enter_from.Goals as goal

pub count_before-at-requires : goal.count_before-at-requires
count_before-at-requires g t c =
    let none : length c.rows.result.2.now ≡ 0 = eqb-true (length c.rows.result.2.now) 0 (sym c.is_empty.ensures ∙ c.if-is_empty.true) in
    leaf_sorted g.K.Ord.cmp c.args.node.now c.rows.result.0.now c.rows.result.1.now c.rows.result.2.now c.rows.ensures.same_view c.rows.ensures.sound none c.requires.sorted

pub returns-then-is_empty-clause-left : goal.returns-then-is_empty-clause-left
returns-then-is_empty-clause-left g t c =
    let none : length c.rows.result.2.now ≡ 0 = eqb-true (length c.rows.result.2.now) 0 (sym c.is_empty.ensures ∙ c.if-is_empty.true) in
    let here = leaf_from (g.P.Point.before c.args.point.now) c.count_before-at.result c.rows.result.0.now c.count_before-at.ensures.before c.count_before-at.ensures.after in
    ap (λ zs. zs ++ left_of c.args.path.now.items) (take_rest c.rows.result.0.now c.count_before-at.result ∙ sym here ∙ ap (filter (λ e. not (g.P.Point.before c.args.point.now e.0))) (sym (leaf_row g.K.Ord.cmp c.args.node.now c.rows.result.0.now c.rows.result.1.now c.rows.result.2.now c.rows.ensures.same_view c.rows.ensures.sound none)))

pub kid_at_point-at-requires : goal.kid_at_point-at-requires
kid_at_point-at-requires g t c =
    let some : length c.rows.result.2.now ≡ 0 → ⊥ = eqb-false (length c.rows.result.2.now) 0 (sym c.is_empty.ensures ∙ c.if-is_empty.false) in
    inner_rises g.K.Ord.cmp c.args.node.now c.rows.result.0.now c.rows.result.1.now c.rows.result.2.now c.rows.ensures.same_view c.rows.ensures.sound some

pub push_left-requires : goal.push_left-requires
push_left-requires g t c =
    let some : length c.rows.result.2.now ≡ 0 → ⊥ = eqb-false (length c.rows.result.2.now) 0 (sym c.is_empty.ensures ∙ c.if-is_empty.false) in
    let all = room_in g.K.Ord.cmp (length c.args.path.now.items) c.rows.result.0.now c.rows.result.1.now c.rows.result.2.now c.args.node.now c.rows.ensures.same_view c.rows.ensures.sound c.requires.room in
    let below = subst (HaveRoomBelow (length c.args.path.now.items)) (sym (take_rest c.rows.result.2.now (c.kid_at_point-at.result + 1))) (room_dropped (length c.args.path.now.items) (c.kid_at_point-at.result + 1) c.rows.result.2.now all) in
    (omega arith, (omega (arith, inner_level g.K.Ord.cmp c.args.node.now c.rows.result.0.now c.rows.result.1.now c.rows.result.2.now c.rows.ensures.same_view c.rows.ensures.sound some c.kid_at_point-at.result c.args.node.now (inner_low g.K.Ord.cmp c.args.node.now c.rows.result.0.now c.rows.result.1.now c.rows.result.2.now c.rows.ensures.same_view c.rows.ensures.sound some c.kid_at_point-at.result c.kid_at_point-at.ensures.in_range), c.requires.room), (c.requires.path, below)))

pub enter_from-requires : goal.enter_from-requires
enter_from-requires g t c κs within =
    let some : length c.rows.result.2.now ≡ 0 → ⊥ = eqb-false (length c.rows.result.2.now) 0 (sym c.is_empty.ensures ∙ c.if-is_empty.false) in
    let low = inner_low g.K.Ord.cmp c.args.node.now c.rows.result.0.now c.rows.result.1.now c.rows.result.2.now c.rows.ensures.same_view c.rows.ensures.sound some c.kid_at_point-at.result c.kid_at_point-at.ensures.in_range in
    let height = inner_level g.K.Ord.cmp c.args.node.now c.rows.result.0.now c.rows.result.1.now c.rows.result.2.now c.rows.ensures.same_view c.rows.ensures.sound some c.kid_at_point-at.result c.index-kids-at.result low in
    let level : c.index-kids-at.result.height + 1 ≡ c.args.node.now.height = omega (arith, height, ap (λ b. b.height) c.index-kids-at.is) in
    let sorted : Ascends g.K.Ord.cmp c.index-kids-at.result.pairs = subst (λ b. Ascends g.K.Ord.cmp b.pairs) (sym c.index-kids-at.is) (kid_ascends g.K.Ord.cmp c.args.node.now c.rows.result.0.now c.rows.result.1.now c.rows.result.2.now c.rows.ensures.same_view c.rows.ensures.sound some g.met.K.Ord.total c.kid_at_point-at.result c.index-kids-at.result low c.requires.sorted) in
    let path = c.push_left.ensures.path in
    let room : length c.push_left.new.path.items + c.index-kids-at.result.height < 16 = omega (arith, level, c.push_left.ensures.length, c.requires.room) in
    search rules

pub returns-clause-left : goal.returns-clause-left
returns-clause-left g t c =
    let some : length c.rows.result.2.now ≡ 0 → ⊥ = eqb-false (length c.rows.result.2.now) 0 (sym c.is_empty.ensures ∙ c.if-is_empty.false) in
    let at = c.kid_at_point-at.result in
    let low = inner_low g.K.Ord.cmp c.args.node.now c.rows.result.0.now c.rows.result.1.now c.rows.result.2.now c.rows.ensures.same_view c.rows.ensures.sound some at c.kid_at_point-at.ensures.in_range in
    let whole = kept_from g.K.Ord.cmp g.met.K.Ord.total (g.P.Point.before c.args.point.now) (g.met.P.Point.downward c.args.point.now) (g.met.P.Point.tied c.args.point.now) c.rows.result.1.now c.rows.result.2.now (inner g.K.Ord.cmp c.args.node.now c.rows.result.0.now c.rows.result.1.now c.rows.result.2.now c.rows.ensures.same_view c.rows.ensures.sound some) at c.index-kids-at.result c.kid_at_point-at.ensures.in_range low c.kid_at_point-at.ensures.before c.kid_at_point-at.ensures.after in
    let more : suc at ≡ at + 1 = omega arith in
    let kept = filter (λ e. not (g.P.Point.before c.args.point.now e.0)) c.index-kids-at.result.pairs in
    let all = ap (filter (λ e. not (g.P.Point.before c.args.point.now e.0))) (inner_pairs g.K.Ord.cmp c.args.node.now c.rows.result.0.now c.rows.result.1.now c.rows.result.2.now c.rows.ensures.same_view c.rows.ensures.sound some) ∙ whole ∙ ap (λ b. filter (λ e. not (g.P.Point.before c.args.point.now e.0)) b.pairs ++ flat (drop (suc at) c.rows.result.2.now)) (sym c.index-kids-at.is) ∙ ap (λ n. kept ++ flat (drop n c.rows.result.2.now)) more in
    c.enter_from.ensures.left ∙ ap (λ zs. kept ++ zs) (c.push_left.ensures.items ∙ ap (λ zs. flat zs ++ left_of c.args.path.now.items) (take_rest c.rows.result.2.now (at + 1)))
    ∙ sym (append_assoc kept (flat (drop (at + 1) c.rows.result.2.now)) (left_of c.args.path.now.items)) ∙ ap (λ zs. zs ++ left_of c.args.path.now.items) (sym all)
