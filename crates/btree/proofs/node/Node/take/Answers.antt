use Rattle.std.proofs.Common.{◌∙◌, Some, append-nil, ap, sym}
use Rattle.std.specs.FinMap.Entries.{find}
use Rattle.btree.specs.Order.{without}
use Rattle.btree.proofs.Leaves.{find_gap, find_at, without_at, without_gap}
use Rattle.btree.proofs.Nodes.{leaf_none, leaf_row, leaf_sorted, leaf_made, leaf_taken}
use Rattle.btree.proofs.node.Node.take.Goals as goal

pub returns-in-Err-clause-missed : goal.returns-in-Err-clause-missed
returns-in-Err-clause-missed g c =
    let R = g.K.Ord.cmp in
    let es = c.self.inside.entries.items in
    let none = leaf_none c.args.self.now es c.self.inside.separators.items c.self.inside.kids.items c.self.view_is c.requires.leaf in
    let gap = rw c.deref.ensures.value at c.in-Err.ensures.gap in
    ap (find R c.args.key.now) (leaf_row R c.args.self.now es c.self.inside.separators.items c.self.inside.kids.items c.self.view_is c.self.invariant.0 none) ∙ find_gap R g.met.K.Ord.total c.args.key.now c.in-Err.field-0 es gap.0 gap.1 gap.2

pub returns-in-Ok-clause-found : goal.returns-in-Ok-clause-found
returns-in-Ok-clause-found g c =
    let R = g.K.Ord.cmp in
    let es = c.self.inside.entries.items in
    let none = leaf_none c.args.self.now es c.self.inside.separators.items c.self.inside.kids.items c.self.view_is c.requires.leaf in
    let found = rw c.deref.ensures.value at c.in-Ok.ensures.found in
    let sorted = leaf_sorted R c.args.self.now es c.self.inside.separators.items c.self.inside.kids.items c.self.view_is c.self.invariant.0 none c.requires.sorted in
    ap (find R c.args.key.now) (leaf_row R c.args.self.now es c.self.inside.separators.items c.self.inside.kids.items c.self.view_is c.self.invariant.0 none)
    ∙ find_at R g.met.K.Ord.total c.args.key.now c.in-Ok.at es c.remove.result sorted found.0 (found.1 c.remove.result) ∙ ap (λ e. Some e.1) (sym c.remove.ensures.value)

pub returns-in-Ok-clause-pairs : goal.returns-in-Ok-clause-pairs
returns-in-Ok-clause-pairs g c =
    let R = g.K.Ord.cmp in
    let es = c.self.inside.entries.items in
    let none = leaf_none c.args.self.now es c.self.inside.separators.items c.self.inside.kids.items c.self.view_is c.requires.leaf in
    let found = rw c.deref.ensures.value at c.in-Ok.ensures.found in
    let row = leaf_row R c.args.self.now es c.self.inside.separators.items c.self.inside.kids.items c.self.view_is c.self.invariant.0 none in
    let sorted = leaf_sorted R c.args.self.now es c.self.inside.separators.items c.self.inside.kids.items c.self.view_is c.self.invariant.0 none c.requires.sorted in
    ap (λ b. b.pairs) (leaf_made R c.args.self.now es c.self.inside.separators.items c.self.inside.kids.items c.self.view_is c.self.invariant.0 none c.remove.new.self.items) ∙ append-nil c.remove.new.self.items
    ∙ c.remove.ensures.items ∙ without_at R g.met.K.Ord.total c.args.key.now c.in-Ok.at es c.remove.result sorted found.0 (found.1 c.remove.result) ∙ ap (without R c.args.key.now) (sym row)

pub returns-in-Ok-clause-back : goal.returns-in-Ok-clause-back
returns-in-Ok-clause-back g c =
    let es = c.self.inside.entries.items in
    let none = leaf_none c.args.self.now es c.self.inside.separators.items c.self.inside.kids.items c.self.view_is c.requires.leaf in
    let found = rw c.deref.ensures.value at c.in-Ok.ensures.found in
    leaf_taken g.K.Ord.cmp c.args.self.now es c.self.inside.separators.items c.self.inside.kids.items c.self.view_is c.self.invariant.0 none c.in-Ok.at c.remove.result c.remove.new.self.items found.0 c.remove.ensures.value c.remove.ensures.items

pub returns-in-Err-clause-pairs : goal.returns-in-Err-clause-pairs
returns-in-Err-clause-pairs g c =
    let R = g.K.Ord.cmp in
    let es = c.self.inside.entries.items in
    let none = leaf_none c.args.self.now es c.self.inside.separators.items c.self.inside.kids.items c.self.view_is c.requires.leaf in
    let gap = rw c.deref.ensures.value at c.in-Err.ensures.gap in
    let row = leaf_row R c.args.self.now es c.self.inside.separators.items c.self.inside.kids.items c.self.view_is c.self.invariant.0 none in
    row ∙ without_gap R g.met.K.Ord.total c.args.key.now c.in-Err.field-0 es gap.0 gap.1 gap.2 ∙ ap (without R c.args.key.now) (sym row)
