use Rattle.std.proofs.Common.{◌≡◌, ℕ, ◌∙◌, cond, is_some, length, Some, ap, sym, arith}
use Rattle.std.specs.FinMap.Entries as entries
use Rattle.std.specs.FinMap.Entries.{put}
use Rattle.steady_map.specs.Shown.{shown, joined, Seen, hidden_keys}
use Rattle.steady_map.proofs.Shows.{find_shown, shown_set, shown_more, some_mapped}
use Rattle.steady_map.proofs.HiddenKeys.{hidden_set}
use Rattle.steady_map.proofs.map.SteadyMap.replace.Goals as goal

pub unreachable-requires : goal.unreachable-requires
unreachable-requires g c =
    let seen = c.look_up.ensures.found ∙ (ap (entries.find g.K.Ord.cmp c.args.key.now) (sym (ap (λ (m : Seen g.row.K.Denot g.row.V.Denot). m.pairs) c.self.view_is)) ∙ find_shown g.K.Ord.cmp g.met.K.Ord.total c.args.key.now c.self.inside.tree.pairs c.len-count.ensures.sorted) in
    some_mapped (λ v. v.now) c.look_up.result.0 (seen ∙ ap joined (c.in-Ok-None.ensures.before ∙ ap Some c.in-Ok-None.field-0-is)) c.if-is_none.ensures

pub unreachable-requires-in-Err : goal.unreachable-requires-in-Err
unreachable-requires-in-Err g c =
    let seen = c.look_up.ensures.found ∙ (ap (entries.find g.K.Ord.cmp c.args.key.now) (sym (ap (λ (m : Seen g.row.K.Denot g.row.V.Denot). m.pairs) c.self.view_is)) ∙ find_shown g.K.Ord.cmp g.met.K.Ord.total c.args.key.now c.self.inside.tree.pairs c.len-count.ensures.sorted) in
    some_mapped (λ v. v.now) c.look_up.result.0 (seen ∙ ap joined c.in-Err.ensures.missed) c.if-is_none.ensures

pub invariant_of-self : goal.invariant_of-self
invariant_of-self g c =
    let found = c.in-Ok-Some.ensures.before ∙ ap Some c.in-Ok-Some.field-0-is in
    let size = ap (λ es. length (shown es)) c.in-Ok-Some.ensures.put ∙ shown_more g.K.Ord.cmp g.met.K.Ord.total c.args.key.now c.args.value c.self.inside.tree.pairs c.len-count.ensures.sorted in
    let one : ◌≡◌ {A = ℕ} (cond (is_some (joined (entries.find g.K.Ord.cmp c.args.key.now c.self.inside.tree.pairs))) 1 0) 1 = ap (λ o. cond (is_some (joined o)) 1 0) found in
    omega (arith, c.self.invariant, size, one)

pub returns-clause-before : goal.returns-clause-before
returns-clause-before g c =
    let found = c.in-Ok-Some.ensures.before ∙ ap Some c.in-Ok-Some.field-0-is in
    (ap (entries.find g.K.Ord.cmp c.args.key.now) (sym (ap (λ (m : Seen g.row.K.Denot g.row.V.Denot). m.pairs) c.self.view_is)) ∙ find_shown g.K.Ord.cmp g.met.K.Ord.total c.args.key.now c.self.inside.tree.pairs c.len-count.ensures.sorted) ∙ ap joined found

pub returns-clause-put : goal.returns-clause-put
returns-clause-put g c =
    let found = c.in-Ok-Some.ensures.before ∙ ap Some c.in-Ok-Some.field-0-is in
    ap shown c.in-Ok-Some.ensures.put ∙ shown_set g.K.Ord.cmp g.met.K.Ord.total c.args.key.now c.args.value c.in-Ok-Some.before c.self.inside.tree.pairs c.len-count.ensures.sorted found ∙ ap (put g.K.Ord.cmp c.args.key.now c.args.value) (ap (λ (m : Seen g.row.K.Denot g.row.V.Denot). m.pairs) c.self.view_is)

pub returns-clause-hidden : goal.returns-clause-hidden
returns-clause-hidden g c =
    let found = c.in-Ok-Some.ensures.before ∙ ap Some c.in-Ok-Some.field-0-is in
    ap hidden_keys c.in-Ok-Some.ensures.put ∙ hidden_set g.K.Ord.cmp g.met.K.Ord.total c.args.key.now c.args.value c.in-Ok-Some.before c.self.inside.tree.pairs c.len-count.ensures.sorted found ∙ ap (λ (m : Seen g.row.K.Denot g.row.V.Denot). m.hidden) c.self.view_is
