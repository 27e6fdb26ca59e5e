use Rattle.std.proofs.Common.{◌∙◌, ◌-◌, ap, length, arith}
use Rattle.std.proofs.lemmas.List.Edits.{length-insert}
use Rattle.std.specs.List.{insert}
use Rattle.btree.proofs.Leaves.{leaf_split}
use Rattle.btree.proofs.leaf.insert_full.Goals as goal

pub returns-clause-grown : goal.returns-clause-grown
returns-clause-grown g c =
    let size = length-insert c.args.entries.now.items c.args.at c.args.pair (omega (arith, c.requires.full, c.requires.in_range)) in
    rw c.leaf.ensures (leaf_split g.K.Ord.cmp g.met.K.Ord.total (insert c.args.entries.now.items c.args.at c.args.pair) c.move_from-upper.new.row.items c.move_from-upper.result.items c.args.pair c.in-Ok-middle_key.separator
    (c.move_from-upper.ensures.joined ∙ c.insert_reserved.ensures.items) (omega (arith, size, c.requires.full)) c.move_from-upper.ensures.lower (c.move_from-upper.ensures.upper ∙ ap (λ zs. length zs - 17) c.insert_reserved.ensures.items) c.requires.sorted
    ((rw c.deref.ensures.value at c.in-Ok-middle_key.ensures) c.args.pair))
