use Rattle.std.proofs.Common.{◌≡◌, Option, Bool, true, false, not, ap, sym, ◌∙◌, arith}
use Rattle.std.specs.List.{filter}
use Rattle.btree.specs.Tree.{Content}
use Rattle.steady_map.specs.Shown.{shown, hidden_keys, is_between}
use Rattle.steady_map.proofs.Shows.{shown_filter}
use Rattle.steady_map.proofs.RunsTaken.{stretch_kept, stretch_end, stretch_each, stretch_fewer, shown_emptied, hidden_emptied}
use Rattle.steady_map.proofs.HiddenKeys.{hidden_alike}
use Rattle.steady_map.proofs.map.take_or_hide_between.Goals as goal

pub run-preserved : goal.run-preserved
run-preserved g c =
    let from = g.P.Point.before c.args.from.now in
    let to = g.Q.Point.before c.args.to.now in
    record {
      kept = stretch_kept from to c.run.tree.pairs c.in-Ok.count c.take_stretch.new.self.pairs c.in-Ok.ensures.stretch ∙ c.run.invariant.kept;
      sure = λ all. stretch_each from to c.run.tree.pairs c.in-Ok.count c.take_stretch.new.self.pairs c.in-Ok.ensures.stretch _ (c.run.invariant.sure all);
    }

pub run-smaller : goal.run-smaller
run-smaller g c =
    let from = g.P.Point.before c.args.from.now in
    let to = g.Q.Point.before c.args.to.now in
    omega (arith, stretch_fewer from to c.run.tree.pairs c.in-Ok.count c.take_stretch.new.self.pairs c.in-Ok.ensures.stretch, c.if-count-eq0.false)

pub returns-then-count-eq0-clause-pairs : goal.returns-then-count-eq0-clause-pairs
returns-then-count-eq0-clause-pairs g c =
    let from = g.P.Point.before c.args.from.now in
    let to = g.Q.Point.before c.args.to.now in
    ap shown (stretch_end from to c.run.tree.pairs c.in-Ok.count c.take_stretch.new.self.pairs c.in-Ok.ensures.stretch c.if-count-eq0.true ∙ c.run.invariant.kept) ∙ shown_filter (λ k. not (is_between from to k)) c.args.tree.now.pairs

pub returns-then-count-eq0-clause-sure : goal.returns-then-count-eq0-clause-sure
returns-then-count-eq0-clause-sure g c = λ all.
    let from = g.P.Point.before c.args.from.now in
    let to = g.Q.Point.before c.args.to.now in
    stretch_end from to c.run.tree.pairs c.in-Ok.count c.take_stretch.new.self.pairs c.in-Ok.ensures.stretch c.if-count-eq0.true ∙ c.run.invariant.kept

pub returns-in-Err-clause-pairs : goal.returns-in-Err-clause-pairs
returns-in-Err-clause-pairs g c =
    let from = g.P.Point.before c.args.from.now in
    let to = g.Q.Point.before c.args.to.now in
    let q : g.row.K.Denot → Bool = λ k. not (is_between from to k) in
    ap shown c.empty_between.ensures.pairs ∙ shown_emptied from to c.take_stretch.new.self.pairs
    ∙ ap (λ (t : Content g.row.K.Denot (Option g.row.V.Denot)). filter (λ e. q e.0) (shown t.pairs)) c.in-Err.ensures.refused
    ∙ sym (shown_filter q c.run.tree.pairs) ∙ ap shown c.run.invariant.kept ∙ shown_filter q c.args.tree.now.pairs

pub returns-in-Err-clause-sure : goal.returns-in-Err-clause-sure
returns-in-Err-clause-sure g c = λ all. let clash : false ≡ true = c.in-Err.ensures.sure (c.run.invariant.sure all) in absurd (cc)

pub returns-then-count-eq0-clause-others : goal.returns-then-count-eq0-clause-others
returns-then-count-eq0-clause-others g c =
    let from = g.P.Point.before c.args.from.now in
    let to = g.Q.Point.before c.args.to.now in
    hidden_alike (λ k. not (is_between from to k)) c.take_stretch.new.self.pairs c.args.tree.now.pairs (stretch_kept from to c.run.tree.pairs c.in-Ok.count c.take_stretch.new.self.pairs c.in-Ok.ensures.stretch ∙ c.run.invariant.kept)

pub returns-in-Err-clause-others : goal.returns-in-Err-clause-others
returns-in-Err-clause-others g c =
    let from = g.P.Point.before c.args.from.now in
    let to = g.Q.Point.before c.args.to.now in
    let q : g.row.K.Denot → Bool = λ k. not (is_between from to k) in
    ap (λ es. filter q (hidden_keys es)) c.empty_between.ensures.pairs ∙ hidden_emptied from to c.take_stretch.new.self.pairs
    ∙ ap (λ (t : Content g.row.K.Denot (Option g.row.V.Denot)). filter q (hidden_keys t.pairs)) c.in-Err.ensures.refused ∙ hidden_alike q c.run.tree.pairs c.args.tree.now.pairs c.run.invariant.kept
