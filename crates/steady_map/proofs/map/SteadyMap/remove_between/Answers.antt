use Rattle.std.proofs.Common.{◌≡◌, ◌∙◌, Bool, true, not, length, ap, sym, subst, arith}
use Rattle.std.specs.List.{filter}
use Rattle.std.specs.FinMap.Entries.{is_sorted}
use Rattle.btree.specs.Parts.{IsSure}
use Rattle.steady_map.specs.Shown.{shown, hidden_keys, is_between, Seen, HaveAll}
use Rattle.steady_map.proofs.Shows.{sorted_shown, sorted_kept, shown_most}
use Rattle.steady_map.proofs.HiddenKeys.{have_all, hidden_filter}
use Rattle.steady_map.proofs.RunsTaken.{split_count, few_before}
use Rattle.steady_map.proofs.map.SteadyMap.remove_between.Goals as goal

pub count_before-gone-requires : goal.count_before-gone-requires
count_before-gone-requires g c =
    let R = g.K.Ord.cmp in
    let es = c.self.inside.tree.pairs in
    let pairs = ap (λ (m : Seen g.row.K.Denot g.row.V.Denot). m.pairs) c.self.view_is in
    let sorted = subst (λ fs. is_sorted R fs ≡ true) pairs (sorted_shown R es c.len-count.ensures.sorted) in
    let few = few_before (λ k. not (g.P.Point.before c.args.from.now k)) c.args.self.now.pairs in
    let size = ap length pairs in
    let rises = subst (λ fs. is_sorted R fs ≡ true) (sym c.from.ensures) (sorted_kept R (λ e. not (g.P.Point.before c.args.from.now e.0)) c.args.self.now.pairs sorted) in
    (omega arith, (rises, omega (arith, ap length c.from.ensures, few, size, shown_most es, c.len-count.ensures.len, c.len-count.type_inv)))

pub overflow_sub-self : goal.overflow_sub-self
overflow_sub-self g c =
    let from = g.P.Point.before c.args.from.now in
    let to = g.Q.Point.before c.args.to.now in
    let es = c.self.inside.tree.pairs in
    let seen = ap (λ (m : Seen g.row.K.Denot g.row.V.Denot). m.pairs) c.self.view_is in
    let walk = c.count_before-gone.ensures ∙ ap (λ fs. length (filter (λ e. to e.0) fs)) (c.from.ensures ∙ ap (filter (λ e. not (from e.0))) (sym seen)) in
    omega (arith, walk, split_count from to (shown es), c.self.invariant)

pub invariant_of-self : goal.invariant_of-self
invariant_of-self g c =
    let from = g.P.Point.before c.args.from.now in
    let to = g.Q.Point.before c.args.to.now in
    let es = c.self.inside.tree.pairs in
    let seen = ap (λ (m : Seen g.row.K.Denot g.row.V.Denot). m.pairs) c.self.view_is in
    let walk = c.count_before-gone.ensures ∙ ap (λ fs. length (filter (λ e. to e.0) fs)) (c.from.ensures ∙ ap (filter (λ e. not (from e.0))) (sym seen)) in
    let left = ap length c.take_or_hide_between.ensures.pairs in
    omega (arith, walk, left, split_count from to (shown es), c.self.invariant)

pub returns-clause-sure : goal.returns-clause-sure
returns-clause-sure g c = λ sure.
    let S = IsSure g.K.Ord.cmp g.K.Clone.is_clone g.K.Clone.is_infallible in
    let q : g.row.K.Denot → Bool = λ k. not (is_between (g.P.Point.before c.args.from.now) (g.Q.Point.before c.args.to.now) k) in
    let seen = subst (HaveAll S) (sym c.self.view_is) sure in
    let all = have_all S c.self.inside.tree.pairs seen.0 seen.1 in
    ap hidden_keys (c.take_or_hide_between.ensures.sure all) ∙ hidden_filter q c.self.inside.tree.pairs ∙ ap (filter q) (ap (λ (m : Seen g.row.K.Denot g.row.V.Denot). m.hidden) c.self.view_is)

pub returns-clause-pairs : goal.returns-clause-pairs
returns-clause-pairs g c =
    c.take_or_hide_between.ensures.pairs ∙ ap (filter (λ e. not (is_between (g.P.Point.before c.args.from.now) (g.Q.Point.before c.args.to.now) e.0))) (ap (λ (m : Seen g.row.K.Denot g.row.V.Denot). m.pairs) c.self.view_is)

pub returns-clause-others : goal.returns-clause-others
returns-clause-others g c =
    let q : g.row.K.Denot → Bool = λ k. not (is_between (g.P.Point.before c.args.from.now) (g.Q.Point.before c.args.to.now) k) in
    c.take_or_hide_between.ensures.others ∙ ap (filter q) (ap (λ (m : Seen g.row.K.Denot g.row.V.Denot). m.hidden) c.self.view_is)
