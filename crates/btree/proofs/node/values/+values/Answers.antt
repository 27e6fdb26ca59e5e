use Rattle.std.proofs.lemmas.List.{take_at, length-map}
use Rattle.std.proofs.Common.{rules, arith, ◌≡◌, ◌^◌, ◌<◌, ◌+◌, ◌*◌, ◌++◌, suc, map, IfSome, length, take, drop, get_or, slice_set, ap, sym, subst, ◌∙◌, add-one}
use Rattle.btree.specs.Branch.{Branch}
use Rattle.btree.specs.Order.{Ascends, Each, last_of}
use Rattle.btree.specs.Rows.{height_of, branch_of}
use Rattle.btree.specs.Values.{emptied, without_values}
use Rattle.btree.proofs.Values.{mapped_at, mapped_more, before_kept, after_kept, branch_emptied, node_emptied, all_ascend, all_level}
use Rattle.btree.proofs.node.values.+values.Goals as goal

pub empty_kids-loop-kid-preserved : goal.empty_kids-loop-kid-preserved
empty_kids-loop-kid-preserved g t c =
    let f = without_values g.V.Vacant.none (g.P.Point.before c.args.from.now) (g.Q.Point.before c.args.to.now) in
    let xs = c.args.kids.now in
    let i = c.loop-kid.kid-index in
    let y = c.empty_node.new.node in
    let d = c.kid-item.result in
    let low = c.loop-kid-test.true in
    let now = c.loop-kid.invariant in
    let is = c.empty_node.ensures ∙ ap (λ zs. f (get_or zs i d)) now ∙ ap f (mapped_at f xs i d low) in
    rw add-one (ap (λ zs. slice_set zs i y) now ∙ mapped_more f xs i y d low is)

pub empty_node-returns-then-ends_before : goal.empty_node-returns-then-ends_before
empty_node-returns-then-ends_before g t c =
    let from = g.P.Point.before c.args.from.now in
    let last = subst (λ r. IfSome (last_of c.args.node.now.pairs) (λ e. from e.0 ≡ r)) c.if-ends_before.true c.ends_before.ensures.last in
    before_kept g.K.Ord.cmp g.V.Vacant.none from (g.Q.Point.before c.args.to.now) (g.met.P.Point.downward c.args.from.now) c.args.node.now c.requires.sorted last

pub empty_node-returns-then-begins_after : goal.empty_node-returns-then-begins_after
empty_node-returns-then-begins_after g t c =
    after_kept g.K.Ord.cmp g.V.Vacant.none (g.P.Point.before c.args.from.now) (g.Q.Point.before c.args.to.now) (g.met.Q.Point.downward c.args.to.now) c.args.node.now c.requires.sorted (c.begins_after.ensures.first c.if-begins_after.true)

pub empty_node-empty_kids-requires : goal.empty_node-empty_kids-requires
empty_node-empty_kids-requires g t c κs within =
    let R = g.K.Ord.cmp in
    let es = c.node.inside.entries.items in
    let ss = c.node.inside.separators.items in
    let ks = c.node.inside.kids.items in
    let zs = c.deref_mut-2.result.now in
    let same = c.deref_mut-2.ensures.value in
    let sorted = subst (Each (λ (k : Branch g.row.K.Denot g.row.V.Denot). Ascends R k.pairs)) (sym same) (all_ascend R c.args.node.now es ss ks c.node.view_is c.requires.sorted) in
    let level = subst (λ xs. Each (λ (k : Branch g.row.K.Denot g.row.V.Denot). suc k.height ≡ height_of xs) xs) (sym same) (all_level R es ss ks c.node.invariant.0) in
    let high : height_of zs ≡ c.args.node.now.height = ap height_of same ∙ ap (λ (x : Branch g.row.K.Denot g.row.V.Denot). x.height) c.node.view_is in
    let low : height_of zs < 2 ^ 63 = omega (arith, high, c.requires.low) in
    let less : 2 * height_of zs < 2 * c.args.node.now.height + 1 = omega (arith, high) in
    search rules

pub empty_node-invariant_of-node : goal.empty_node-invariant_of-node
empty_node-invariant_of-node g t c =
    let none = g.V.Vacant.none in
    let from = g.P.Point.before c.args.from.now in
    let to = g.Q.Point.before c.args.to.now in
    let es = c.node.inside.entries.items in
    let ss = c.node.inside.separators.items in
    let ks = c.node.inside.kids.items in
    let row = c.empty_row.ensures ∙ ap (map (emptied none from to)) c.deref_mut.ensures.value in
    let kids = c.empty_kids.ensures ∙ ap (map (without_values none from to)) c.deref_mut-2.ensures.value in
    let whole = take_at c.empty_row.new.row (drop (length c.empty_row.new.row) es) c.node.inside.entries.len (ap length row ∙ length-map es (emptied none from to) ∙ sym c.node.inside.entries.ok.0) ∙ row in
    let all = take_at c.empty_kids.new.kids (drop (length c.empty_kids.new.kids) ks) c.node.inside.kids.len (ap length kids ∙ length-map ks (without_values none from to) ∙ sym c.node.inside.kids.ok.0) ∙ kids in
    rw (whole, all) (node_emptied none from to g.K.Ord.cmp es ss ks c.node.invariant.0, (λ p. c.node.invariant.1 (omega (arith, p, length-map es (emptied none from to)))), (λ p. c.node.invariant.2 (omega (arith, p, length-map ks (without_values none from to)))))

pub empty_node-returns : goal.empty_node-returns
empty_node-returns g t c =
    let none = g.V.Vacant.none in
    let from = g.P.Point.before c.args.from.now in
    let to = g.Q.Point.before c.args.to.now in
    let es = c.node.inside.entries.items in
    let ss = c.node.inside.separators.items in
    let ks = c.node.inside.kids.items in
    let row = c.empty_row.ensures ∙ ap (map (emptied none from to)) c.deref_mut.ensures.value in
    let kids = c.empty_kids.ensures ∙ ap (map (without_values none from to)) c.deref_mut-2.ensures.value in
    let whole = take_at c.empty_row.new.row (drop (length c.empty_row.new.row) es) c.node.inside.entries.len (ap length row ∙ length-map es (emptied none from to) ∙ sym c.node.inside.entries.ok.0) ∙ row in
    let all = take_at c.empty_kids.new.kids (drop (length c.empty_kids.new.kids) ks) c.node.inside.kids.len (ap length kids ∙ length-map ks (without_values none from to) ∙ sym c.node.inside.kids.ok.0) ∙ kids in
    ap (λ zs. branch_of zs ss (take c.node.inside.kids.len (c.empty_kids.new.kids ++ drop (length c.empty_kids.new.kids) ks))) whole
    ∙ ap (λ zs. branch_of (map (emptied none from to) es) ss zs) all ∙ branch_emptied none from to es ss ks ∙ ap (without_values none from to) c.node.view_is
