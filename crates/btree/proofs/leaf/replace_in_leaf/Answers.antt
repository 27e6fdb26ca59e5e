use Rattle.std.proofs.Common.{◌∙◌, sym, ap, length, Some}
use Rattle.std.proofs.lemmas.List.{length-set}
use Rattle.btree.proofs.Leaves.{find_at, put_set, find_gap}
use Rattle.btree.proofs.leaf.replace_in_leaf.Goals as goal

pub returns-in-Ok-clause-before : goal.returns-in-Ok-clause-before
returns-in-Ok-clause-before g c =
    let found = rw c.deref.ensures.value at c.in-Ok.ensures.found in
    find_at g.K.Ord.cmp g.met.K.Ord.total c.args.key.now c.in-Ok.at c.args.entries.now.items (c.args.key.now, c.args.value) c.requires.sorted found.0 (found.1 (c.args.key.now, c.args.value))
    ∙ ap Some (sym (c.replace_value.ensures.old (c.args.key.now, c.args.value)))

pub returns-in-Ok-clause-put : goal.returns-in-Ok-clause-put
returns-in-Ok-clause-put g c =
    let found = rw c.deref.ensures.value at c.in-Ok.ensures.found in
    c.replace_value.ensures.new (c.args.key.now, c.args.value)
    ∙ put_set g.K.Ord.cmp g.met.K.Ord.total c.args.key.now c.args.value c.in-Ok.at c.args.entries.now.items (c.args.key.now, c.args.value) c.requires.sorted found.0 (found.1 (c.args.key.now, c.args.value))

pub returns-in-Ok-clause-length : goal.returns-in-Ok-clause-length
returns-in-Ok-clause-length g c = ap length (c.replace_value.ensures.new (c.args.key.now, c.args.value)) ∙ length-set c.args.entries.now.items c.in-Ok.at _

pub returns-in-Err-clause-missed : goal.returns-in-Err-clause-missed
returns-in-Err-clause-missed g c =
    let gap = rw c.deref.ensures.value at c.in-Err.ensures.gap in
    find_gap g.K.Ord.cmp g.met.K.Ord.total c.args.key.now c.in-Err.field-0 c.args.entries.now.items gap.0 gap.1 gap.2
