use Rattle.std.proofs.Common.{◌≡◌, ◌∙◌, cond, is_some, length, ap, sym, arith}
use Rattle.std.specs.FinMap.Entries as entries
use Rattle.std.specs.FinMap.Entries.{put}
use Rattle.steady_map.specs.Shown.{shown, joined, Seen, hidden_keys, others}
use Rattle.steady_map.proofs.Shows.{find_shown, shown_more, shown_most, shown_put}
use Rattle.steady_map.proofs.HiddenKeys.{hidden_put}
use Rattle.steady_map.proofs.map.SteadyMap.insert_by.Goals as goal

pub overflow_add-self : goal.overflow_add-self
overflow_add-self g c =
    let count : c.count.result ≡ cond (is_some (joined (entries.find g.K.Ord.cmp c.args.key c.self.inside.tree.pairs))) 1 0 = c.count.ensures ∙ ap (λ o. cond (is_some o) 1 0) (c.joined-before.ensures ∙ ap joined c.in-Ok.ensures.before) in
    let size = ap (λ es. length (shown es)) c.in-Ok.ensures.put ∙ shown_more g.K.Ord.cmp g.met.K.Ord.total c.args.key c.args.value c.self.inside.tree.pairs c.len-count.ensures.sorted in
    omega (arith, c.self.invariant, count, size, shown_most c.insert_by.new.self.pairs, c.len-most.ensures.len, c.len-most.type_inv)

pub invariant_of-self : goal.invariant_of-self
invariant_of-self g c =
    let count : c.count.result ≡ cond (is_some (joined (entries.find g.K.Ord.cmp c.args.key c.self.inside.tree.pairs))) 1 0 = c.count.ensures ∙ ap (λ o. cond (is_some o) 1 0) (c.joined-before.ensures ∙ ap joined c.in-Ok.ensures.before) in
    let size = ap (λ es. length (shown es)) c.in-Ok.ensures.put ∙ shown_more g.K.Ord.cmp g.met.K.Ord.total c.args.key c.args.value c.self.inside.tree.pairs c.len-count.ensures.sorted in
    omega (arith, c.self.invariant, count, size)

pub returns-in-Ok-clause-before : goal.returns-in-Ok-clause-before
returns-in-Ok-clause-before g c = c.joined-before.ensures ∙ ap joined c.in-Ok.ensures.before ∙ sym (ap (entries.find g.K.Ord.cmp c.args.key) (sym (ap (λ (m : Seen g.row.K.Denot g.row.V.Denot). m.pairs) c.self.view_is)) ∙ find_shown g.K.Ord.cmp g.met.K.Ord.total c.args.key c.self.inside.tree.pairs c.len-count.ensures.sorted)

pub returns-in-Ok-clause-put : goal.returns-in-Ok-clause-put
returns-in-Ok-clause-put g c = λ exact. ap shown c.in-Ok.ensures.put ∙ shown_put g.K.Ord.cmp g.met.K.Ord.total exact c.args.key c.args.value c.self.inside.tree.pairs c.len-count.ensures.sorted ∙ ap (put g.K.Ord.cmp c.args.key c.args.value) (ap (λ (m : Seen g.row.K.Denot g.row.V.Denot). m.pairs) c.self.view_is)

pub returns-in-Ok-clause-hidden : goal.returns-in-Ok-clause-hidden
returns-in-Ok-clause-hidden g c =
    ap hidden_keys c.in-Ok.ensures.put ∙ hidden_put g.K.Ord.cmp g.met.K.Ord.total c.args.key c.args.value c.self.inside.tree.pairs c.len-count.ensures.sorted ∙ ap (others g.K.Ord.cmp c.args.key) (ap (λ (m : Seen g.row.K.Denot g.row.V.Denot). m.hidden) c.self.view_is)
