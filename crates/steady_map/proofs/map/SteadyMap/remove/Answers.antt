use Rattle.std.proofs.Common.{◌≡◌, ◌∙◌, cond, is_some, length, ap, sym, subst, arith}
use Rattle.std.specs.Bool.{passes}
use Rattle.std.specs.FinMap.Entries as entries
use Rattle.steady_map.specs.Shown.{shown, hidden_keys, others, Seen, HaveAll}
use Rattle.steady_map.proofs.Shows.{sorted_shown}
use Rattle.btree.specs.Parts.{IsSure}
use Rattle.steady_map.proofs.HiddenKeys.{have_all, hidden_without}
use Rattle.steady_map.proofs.map.SteadyMap.remove.Goals as goal

pub invariant_of-self : goal.invariant_of-self
invariant_of-self g c =
    let count : c.count.result ≡ cond (is_some (entries.find g.K.Ord.cmp c.args.key.now (shown c.self.inside.tree.pairs))) 1 0 = c.count.ensures ∙ ap (λ o. cond (is_some o) 1 0) c.take_or_hide-value.ensures.value in
    let size = entries.length_without g.K.Ord.cmp g.met.K.Ord.total c.args.key.now (shown c.self.inside.tree.pairs) (passes _ (sorted_shown g.K.Ord.cmp c.self.inside.tree.pairs c.len-count.ensures.sorted)) in
    omega (arith, c.self.invariant, count, size, ap length c.take_or_hide-value.ensures.pairs)

pub returns-clause-sure : goal.returns-clause-sure
returns-clause-sure g c = λ sure.
    let S = IsSure g.K.Ord.cmp g.K.Clone.is_clone g.K.Clone.is_infallible in
    let seen = subst (HaveAll S) (sym c.self.view_is) sure in
    let all = have_all S c.self.inside.tree.pairs seen.0 seen.1 in
    ap hidden_keys (c.take_or_hide-value.ensures.sure all) ∙ hidden_without g.K.Ord.cmp c.args.key.now c.self.inside.tree.pairs ∙ ap (others g.K.Ord.cmp c.args.key.now) (ap (λ (m : Seen g.row.K.Denot g.row.V.Denot). m.hidden) c.self.view_is)

pub returns-clause-others : goal.returns-clause-others
returns-clause-others g c = c.take_or_hide-value.ensures.others ∙ ap (others g.K.Ord.cmp c.args.key.now) (ap (λ (m : Seen g.row.K.Denot g.row.V.Denot). m.hidden) c.self.view_is)
