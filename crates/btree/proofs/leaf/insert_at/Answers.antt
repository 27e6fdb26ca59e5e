use Rattle.std.proofs.Common.{◌∙◌, ap, length, arith, append-nil}
use Rattle.std.proofs.lemmas.List.Edits.{length-insert}
use Rattle.std.specs.List.{insert}
use Rattle.btree.proofs.Shapes.{leaf_kid}
use Rattle.btree.proofs.leaf.insert_at.Goals as goal

pub returns-then-len-lt32-clause-grown : goal.returns-then-len-lt32-clause-grown
returns-then-len-lt32-clause-grown g c =
    let e = c.insert_reserved.ensures.items ∙ ap (λ zs. insert zs c.args.at c.args.pair) c.make_room.ensures.items in
    let size = length-insert c.args.entries.now.items c.args.at c.args.pair c.requires.in_range in
    (leaf_kid (length c.args.entries.now.items) c.insert_reserved.new.row.items (omega (arith, ap length e, size)) (omega (arith, ap length e, size)), append-nil c.insert_reserved.new.row.items ∙ e)
