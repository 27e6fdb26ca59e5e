use Rattle.std.proofs.Common.{◌≡◌, ◌∙◌, ◌++◌, [], Some, ap, sym, subst}
use Rattle.btree.specs.Rows.{branch_of, IsParting, HasBecome}
use Rattle.btree.proofs.Leaves.{leaf_two}
use Rattle.btree.proofs.Nodes.{leaf_none, leaf_row, leaf_made}
use Rattle.btree.proofs.node.Node.rejoin_leaf.Goals as goal

pub returns-in-Some-clause-joined : goal.returns-in-Some-clause-joined
returns-in-Some-clause-joined g c =
    let R = g.K.Ord.cmp in
    let es = c.self.inside.entries.items in
    let fs = c.right.inside.entries.items in
    let none = leaf_none c.args.self.now es c.self.inside.separators.items c.self.inside.kids.items c.self.view_is c.requires.lower.level in
    let none_right = leaf_none c.args.right fs c.right.inside.separators.items c.right.inside.kids.items c.right.view_is c.requires.upper.level in
    let a = leaf_row R c.args.self.now es c.self.inside.separators.items c.self.inside.kids.items c.self.view_is c.self.invariant.0 none in
    let b = leaf_row R c.args.right fs c.right.inside.separators.items c.right.inside.kids.items c.right.view_is c.right.invariant.0 none_right in
    let whole : c.args.self.now.pairs ++ c.args.right.pairs ≡ es ++ fs = ap (λ zs. zs ++ c.args.right.pairs) a ∙ ap (λ zs. es ++ zs) b in
    let parting = subst (λ ps. IsParting R ps (Some (c.in-Some.separator, c.in-Some.first))) whole (subst (IsParting R (c.args.self.now.pairs ++ c.args.right.pairs)) c.in-Some.is c.requires.parting) in
    let lower = leaf_made R c.args.self.now es c.self.inside.separators.items c.self.inside.kids.items c.self.view_is c.self.invariant.0 none c.cut_anew.new.lower.items in
    let upper = leaf_made R c.args.right fs c.right.inside.separators.items c.right.inside.kids.items c.right.view_is c.right.invariant.0 none_right c.cut_anew.new.upper.items in
    let two = leaf_two R g.met.K.Ord.total (es ++ fs) c.cut_anew.new.lower.items c.cut_anew.new.upper.items c.in-Some.first c.in-Some.separator c.cut_anew.ensures.items c.cut_anew.ensures.length parting.4 parting.0 parting.1 parting.2 parting.3 in
    subst (λ ps. HasBecome R 16 0 ps (branch_of c.cut_anew.new.lower.items c.self.inside.separators.items c.self.inside.kids.items) (Some (c.in-Some.separator, branch_of c.cut_anew.new.upper.items c.right.inside.separators.items c.right.inside.kids.items))) (sym whole)
    (subst (λ x. HasBecome R 16 0 (es ++ fs) x (Some (c.in-Some.separator, branch_of c.cut_anew.new.upper.items c.right.inside.separators.items c.right.inside.kids.items))) (sym lower)
    (subst (λ x. HasBecome R 16 0 (es ++ fs) (branch_of c.cut_anew.new.lower.items [] []) (Some (c.in-Some.separator, x))) (sym upper) two))
