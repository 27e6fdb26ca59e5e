use Rattle.std.proofs.Common.{◌≡◌, ◌∙◌, true, false, Option, None, ap, sym}
use Rattle.std.specs.FinMap.Entries as entries
use Rattle.std.specs.FinMap.Entries.{put}
use Rattle.btree.specs.Tree.{Content}
use Rattle.steady_map.specs.Shown.{shown, hidden_keys, joined, others}
use Rattle.steady_map.proofs.Shows.{find_shown, shown_without, shown_hidden, without_none}
use Rattle.steady_map.proofs.HiddenKeys.{others_without, others_put}
use Rattle.steady_map.proofs.map.take_or_hide.Goals as goal

pub returns-in-Ok-clause-value : goal.returns-in-Ok-clause-value
returns-in-Ok-clause-value g c = c.joined.ensures ∙ ap joined c.in-Ok.ensures.value ∙ sym (find_shown g.K.Ord.cmp g.met.K.Ord.total c.args.key.now c.args.tree.now.pairs c.requires.sorted)

pub returns-in-Ok-clause-pairs : goal.returns-in-Ok-clause-pairs
returns-in-Ok-clause-pairs g c = ap shown c.in-Ok.ensures.pairs ∙ shown_without g.K.Ord.cmp g.met.K.Ord.total c.args.key.now c.args.tree.now.pairs

pub returns-in-Ok-replace-clause-value : goal.returns-in-Ok-replace-clause-value
returns-in-Ok-replace-clause-value g c =
    let found = ap (λ (t : Content g.row.K.Denot (Option g.row.V.Denot)). entries.find g.K.Ord.cmp c.args.key.now t.pairs) (sym c.in-Err.ensures.refused) ∙ c.in-Ok-replace.ensures.before in
    sym (find_shown g.K.Ord.cmp g.met.K.Ord.total c.args.key.now c.args.tree.now.pairs c.requires.sorted ∙ ap joined found)

pub returns-in-Ok-replace-clause-pairs : goal.returns-in-Ok-replace-clause-pairs
returns-in-Ok-replace-clause-pairs g c =
    let found = ap (λ (t : Content g.row.K.Denot (Option g.row.V.Denot)). entries.find g.K.Ord.cmp c.args.key.now t.pairs) (sym c.in-Err.ensures.refused) ∙ c.in-Ok-replace.ensures.before in
    ap shown c.in-Ok-replace.ensures.put ∙ ap (λ (t : Content g.row.K.Denot (Option g.row.V.Denot)). shown (put g.K.Ord.cmp c.args.key.now None t.pairs)) c.in-Err.ensures.refused ∙ shown_hidden g.K.Ord.cmp g.met.K.Ord.total c.args.key.now c.in-Ok-replace.value c.args.tree.now.pairs c.requires.sorted found

pub returns-clause-value : goal.returns-clause-value
returns-clause-value g c =
    let missed = ap (λ (t : Content g.row.K.Denot (Option g.row.V.Denot)). entries.find g.K.Ord.cmp c.args.key.now t.pairs) (sym c.in-Err.ensures.refused) ∙ c.in-Err-replace.ensures.missed in
    sym (find_shown g.K.Ord.cmp g.met.K.Ord.total c.args.key.now c.args.tree.now.pairs c.requires.sorted ∙ ap joined missed)

pub returns-clause-pairs : goal.returns-clause-pairs
returns-clause-pairs g c =
    let missed = ap (λ (t : Content g.row.K.Denot (Option g.row.V.Denot)). entries.find g.K.Ord.cmp c.args.key.now t.pairs) (sym c.in-Err.ensures.refused) ∙ c.in-Err-replace.ensures.missed in
    ap (λ (t : Content g.row.K.Denot (Option g.row.V.Denot)). shown t.pairs) (c.in-Err-replace.ensures.kept ∙ c.in-Err.ensures.refused) ∙ sym (sym (shown_without g.K.Ord.cmp g.met.K.Ord.total c.args.key.now c.args.tree.now.pairs) ∙ ap shown (without_none g.K.Ord.cmp c.args.key.now c.args.tree.now.pairs missed))

pub returns-in-Ok-replace-clause-sure : goal.returns-in-Ok-replace-clause-sure
returns-in-Ok-replace-clause-sure g c = λ sure. let clash : false ≡ true = c.in-Err.ensures.sure sure in absurd (cc)

pub returns-clause-sure : goal.returns-clause-sure
returns-clause-sure g c = λ sure. let clash : false ≡ true = c.in-Err.ensures.sure sure in absurd (cc)

pub returns-in-Ok-clause-sure : goal.returns-in-Ok-clause-sure
returns-in-Ok-clause-sure g c = λ sure. c.in-Ok.ensures.pairs

pub returns-in-Ok-clause-others : goal.returns-in-Ok-clause-others
returns-in-Ok-clause-others g c = ap (λ es. others g.K.Ord.cmp c.args.key.now (hidden_keys es)) c.in-Ok.ensures.pairs ∙ others_without g.K.Ord.cmp c.args.key.now c.args.tree.now.pairs

pub returns-in-Ok-replace-clause-others : goal.returns-in-Ok-replace-clause-others
returns-in-Ok-replace-clause-others g c =
    let R = g.K.Ord.cmp in
    ap (λ es. others R c.args.key.now (hidden_keys es)) c.in-Ok-replace.ensures.put
    ∙ ap (λ (t : Content g.row.K.Denot (Option g.row.V.Denot)). others R c.args.key.now (hidden_keys (put R c.args.key.now None t.pairs))) c.in-Err.ensures.refused ∙ others_put R g.met.K.Ord.total c.args.key.now c.args.tree.now.pairs

pub returns-clause-others : goal.returns-clause-others
returns-clause-others g c =
    ap (λ (t : Content g.row.K.Denot (Option g.row.V.Denot)). others g.K.Ord.cmp c.args.key.now (hidden_keys t.pairs)) (c.in-Err-replace.ensures.kept ∙ c.in-Err.ensures.refused)
