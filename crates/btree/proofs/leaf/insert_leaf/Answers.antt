use Rattle.std.proofs.Common.{◌∙◌, sym, ap, subst, length, arith, append-nil, Some, []}
use Rattle.std.proofs.lemmas.List.{length-set}
use Rattle.btree.specs.Order.{Ascends}
use Rattle.btree.specs.Rows.{HasBecome, branch_of}
use Rattle.btree.proofs.Order.{ascends_put}
use Rattle.btree.proofs.Shapes.{leaf_kid}
use Rattle.btree.proofs.Leaves.{find_at, put_set, find_gap, put_gap}
use Rattle.btree.proofs.leaf.insert_leaf.Goals as goal

pub returns-in-Ok-clause-before : goal.returns-in-Ok-clause-before
returns-in-Ok-clause-before g c =
    let found = rw c.deref.ensures.value at c.in-Ok.ensures.found in
    ap Some (c.replace_value.ensures.old (c.args.key, c.args.value))
    ∙ sym (find_at g.K.Ord.cmp g.met.K.Ord.total c.args.key c.in-Ok.at c.args.entries.now.items (c.args.key, c.args.value) c.requires.sorted found.0 (found.1 (c.args.key, c.args.value)))

pub returns-in-Ok-clause-grown : goal.returns-in-Ok-clause-grown
returns-in-Ok-clause-grown g c =
    let found = rw c.deref.ensures.value at c.in-Ok.ensures.found in
    let size = ap length (c.replace_value.ensures.new (c.args.key, c.args.value)) ∙ length-set c.args.entries.now.items c.in-Ok.at _ in (
      leaf_kid (length c.args.entries.now.items) c.replace_value.new.row.items (omega (arith, size)) (omega (arith, size, c.requires.fits)),
      append-nil c.replace_value.new.row.items ∙ c.replace_value.ensures.new (c.args.key, c.args.value)
          ∙ put_set g.K.Ord.cmp g.met.K.Ord.total c.args.key c.args.value c.in-Ok.at c.args.entries.now.items (c.args.key, c.args.value) c.requires.sorted found.0 (found.1 (c.args.key, c.args.value)),
    )

pub insert_at-requires-clause-sorted : goal.insert_at-requires-clause-sorted
insert_at-requires-clause-sorted g c =
    let gap = rw c.deref.ensures.value at c.in-Err.ensures.gap in
    subst (Ascends g.K.Ord.cmp) (sym (put_gap g.K.Ord.cmp g.met.K.Ord.total c.args.key c.in-Err.at c.args.entries.now.items gap.0 gap.1 gap.2 c.args.value)) (ascends_put g.K.Ord.cmp g.met.K.Ord.total c.args.key c.args.value c.args.entries.now.items c.requires.sorted)

pub returns-in-Ok-clause-room : goal.returns-in-Ok-clause-room
returns-in-Ok-clause-room g c = λ p.
    let size = ap length (c.replace_value.ensures.new (c.args.key, c.args.value)) ∙ length-set c.args.entries.now.items c.in-Ok.at _ in
    let room = c.requires.room (omega (arith, size, p)) in
    omega (arith, room, c.replace_value.ensures.capacity)

pub returns-in_ok-beside-in-Err-clause-before : goal.returns-in_ok-beside-in-Err-clause-before
returns-in_ok-beside-in-Err-clause-before g c =
    let gap = rw c.deref.ensures.value at c.in-Err.ensures.gap in
    sym (find_gap g.K.Ord.cmp g.met.K.Ord.total c.args.key c.in-Err.at c.args.entries.now.items gap.0 gap.1 gap.2)

pub returns-in_ok-beside-in-Err-clause-grown : goal.returns-in_ok-beside-in-Err-clause-grown
returns-in_ok-beside-in-Err-clause-grown g c =
    let gap = rw c.deref.ensures.value at c.in-Err.ensures.gap in
    subst (λ ps. HasBecome g.K.Ord.cmp (length c.args.entries.now.items) 0 ps (branch_of c.insert_at.new.entries.items [] []) c.in_ok-beside-in-Err.beside)
    (put_gap g.K.Ord.cmp g.met.K.Ord.total c.args.key c.in-Err.at c.args.entries.now.items gap.0 gap.1 gap.2 c.args.value) c.in_ok-beside-in-Err.ensures.grown
