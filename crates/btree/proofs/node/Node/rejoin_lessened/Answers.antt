use Rattle.std.proofs.Common.{◌≡◌, ◌∙◌, ◌++◌, ◌≤◌, [], Some, None, ap, sym, subst, arith, length, vec_capacity, append-nil, length-append}
use Rattle.std.specs.List.{remove_range}
use Rattle.btree.specs.Rows.{branch_of, IsParting, HasBecome}
use Rattle.btree.proofs.Shapes.{leaf_kid}
use Rattle.btree.proofs.Leaves.{leaf_two}
use Rattle.btree.proofs.Nodes.{leaf_none, leaf_row, leaf_made, leaf_size}
use Rattle.btree.proofs.node.Node.rejoin_lessened.Goals as goal

pub cut_anew-requires-clause-in_range : goal.cut_anew-requires-clause-in_range
cut_anew-requires-clause-in_range g c =
    let R = g.K.Ord.cmp in
    let es = c.self.inside.entries.items in
    let fs = c.right.inside.entries.items in
    let none = leaf_none c.args.self.now es c.self.inside.separators.items c.self.inside.kids.items c.self.view_is c.requires.leaf.level in
    let none_right = leaf_none c.args.right fs c.right.inside.separators.items c.right.inside.kids.items c.right.view_is c.requires.right_leaf.level in
    let a = leaf_row R c.args.self.now es c.self.inside.separators.items c.self.inside.kids.items c.self.view_is c.self.invariant.0 none in
    let b = leaf_row R c.args.right fs c.right.inside.separators.items c.right.inside.kids.items c.right.view_is c.right.invariant.0 none_right in
    let xs = remove_range c.args.self.now.pairs c.args.lower.first c.args.lower.end in
    let ys = remove_range c.args.right.pairs c.args.upper.first c.args.upper.end in
    let x : c.remove_between.new.row.items ≡ xs = c.remove_between.ensures.rest ∙ ap (λ zs. remove_range zs c.args.lower.first c.args.lower.end) (sym a) in
    let y : c.remove_between-2.new.row.items ≡ ys = c.remove_between-2.ensures.rest ∙ ap (λ zs. remove_range zs c.args.upper.first c.args.upper.end) (sym b) in
    let both : c.remove_between.new.row.items ++ c.remove_between-2.new.row.items ≡ xs ++ ys = ap (λ zs. zs ++ c.remove_between-2.new.row.items) x ∙ ap (λ zs. xs ++ zs) y in
    let parting = subst (IsParting R (xs ++ ys)) c.in-Some.is c.requires.parting in
    omega (arith, parting.2, ap length both, length-append c.remove_between.new.row.items c.remove_between-2.new.row.items)

pub cut_anew-requires-clause-upper_room : goal.cut_anew-requires-clause-upper_room
cut_anew-requires-clause-upper_room g c =
    let R = g.K.Ord.cmp in
    let es = c.self.inside.entries.items in
    let fs = c.right.inside.entries.items in
    let none = leaf_none c.args.self.now es c.self.inside.separators.items c.self.inside.kids.items c.self.view_is c.requires.leaf.level in
    let none_right = leaf_none c.args.right fs c.right.inside.separators.items c.right.inside.kids.items c.right.view_is c.requires.right_leaf.level in
    let a = leaf_row R c.args.self.now es c.self.inside.separators.items c.self.inside.kids.items c.self.view_is c.self.invariant.0 none in
    let b = leaf_row R c.args.right fs c.right.inside.separators.items c.right.inside.kids.items c.right.view_is c.right.invariant.0 none_right in
    let xs = remove_range c.args.self.now.pairs c.args.lower.first c.args.lower.end in
    let ys = remove_range c.args.right.pairs c.args.upper.first c.args.upper.end in
    let x : c.remove_between.new.row.items ≡ xs = c.remove_between.ensures.rest ∙ ap (λ zs. remove_range zs c.args.lower.first c.args.lower.end) (sym a) in
    let y : c.remove_between-2.new.row.items ≡ ys = c.remove_between-2.ensures.rest ∙ ap (λ zs. remove_range zs c.args.upper.first c.args.upper.end) (sym b) in
    let both : c.remove_between.new.row.items ++ c.remove_between-2.new.row.items ≡ xs ++ ys = ap (λ zs. zs ++ c.remove_between-2.new.row.items) x ∙ ap (λ zs. xs ++ zs) y in
    let parting = subst (IsParting R (xs ++ ys)) c.in-Some.is c.requires.parting in
    let count = leaf_size R c.args.right fs c.right.inside.separators.items c.right.inside.kids.items c.right.view_is c.right.invariant.0 none_right in
    let room : 33 ≤ vec_capacity c.right.inside.entries = c.right.invariant.1 (omega (arith, count, c.requires.right_leaf.least)) in
    omega (arith, parting.3, room, c.remove_between-2.ensures.capacity, ap length both, length-append c.remove_between.new.row.items c.remove_between-2.new.row.items)

pub returns-in-None : goal.returns-in-None
returns-in-None g c =
    let R = g.K.Ord.cmp in
    let es = c.self.inside.entries.items in
    let fs = c.right.inside.entries.items in
    let none = leaf_none c.args.self.now es c.self.inside.separators.items c.self.inside.kids.items c.self.view_is c.requires.leaf.level in
    let none_right = leaf_none c.args.right fs c.right.inside.separators.items c.right.inside.kids.items c.right.view_is c.requires.right_leaf.level in
    let a = leaf_row R c.args.self.now es c.self.inside.separators.items c.self.inside.kids.items c.self.view_is c.self.invariant.0 none in
    let b = leaf_row R c.args.right fs c.right.inside.separators.items c.right.inside.kids.items c.right.view_is c.right.invariant.0 none_right in
    let xs = remove_range c.args.self.now.pairs c.args.lower.first c.args.lower.end in
    let ys = remove_range c.args.right.pairs c.args.upper.first c.args.upper.end in
    let x : c.remove_between.new.row.items ≡ xs = c.remove_between.ensures.rest ∙ ap (λ zs. remove_range zs c.args.lower.first c.args.lower.end) (sym a) in
    let y : c.remove_between-2.new.row.items ≡ ys = c.remove_between-2.ensures.rest ∙ ap (λ zs. remove_range zs c.args.upper.first c.args.upper.end) (sym b) in
    let both : c.remove_between.new.row.items ++ c.remove_between-2.new.row.items ≡ xs ++ ys = ap (λ zs. zs ++ c.remove_between-2.new.row.items) x ∙ ap (λ zs. xs ++ zs) y in
    let parting = subst (IsParting R (xs ++ ys)) c.in-None.is c.requires.parting in
    let e = c.append_reserved.ensures.items ∙ both in
    let made = leaf_made R c.args.self.now es c.self.inside.separators.items c.self.inside.kids.items c.self.view_is c.self.invariant.0 none c.append_reserved.new.row.items in
    record { joined = subst (λ k. HasBecome R 16 0 (xs ++ ys) k None) (sym made) (leaf_kid 16 c.append_reserved.new.row.items (omega (arith, ap length e, c.requires.enough)) (omega (arith, ap length e, parting)), append-nil c.append_reserved.new.row.items ∙ e) }

pub returns-in-Some : goal.returns-in-Some
returns-in-Some g c =
    let R = g.K.Ord.cmp in
    let es = c.self.inside.entries.items in
    let fs = c.right.inside.entries.items in
    let none = leaf_none c.args.self.now es c.self.inside.separators.items c.self.inside.kids.items c.self.view_is c.requires.leaf.level in
    let none_right = leaf_none c.args.right fs c.right.inside.separators.items c.right.inside.kids.items c.right.view_is c.requires.right_leaf.level in
    let a = leaf_row R c.args.self.now es c.self.inside.separators.items c.self.inside.kids.items c.self.view_is c.self.invariant.0 none in
    let b = leaf_row R c.args.right fs c.right.inside.separators.items c.right.inside.kids.items c.right.view_is c.right.invariant.0 none_right in
    let xs = remove_range c.args.self.now.pairs c.args.lower.first c.args.lower.end in
    let ys = remove_range c.args.right.pairs c.args.upper.first c.args.upper.end in
    let x : c.remove_between.new.row.items ≡ xs = c.remove_between.ensures.rest ∙ ap (λ zs. remove_range zs c.args.lower.first c.args.lower.end) (sym a) in
    let y : c.remove_between-2.new.row.items ≡ ys = c.remove_between-2.ensures.rest ∙ ap (λ zs. remove_range zs c.args.upper.first c.args.upper.end) (sym b) in
    let both : c.remove_between.new.row.items ++ c.remove_between-2.new.row.items ≡ xs ++ ys = ap (λ zs. zs ++ c.remove_between-2.new.row.items) x ∙ ap (λ zs. xs ++ zs) y in
    let parting = subst (IsParting R (xs ++ ys)) c.in-Some.is c.requires.parting in
    let lower = leaf_made R c.args.self.now es c.self.inside.separators.items c.self.inside.kids.items c.self.view_is c.self.invariant.0 none c.cut_anew.new.lower.items in
    let upper = leaf_made R c.args.right fs c.right.inside.separators.items c.right.inside.kids.items c.right.view_is c.right.invariant.0 none_right c.cut_anew.new.upper.items in
    let two = leaf_two R g.met.K.Ord.total (xs ++ ys) c.cut_anew.new.lower.items c.cut_anew.new.upper.items c.in-Some.first c.in-Some.separator (c.cut_anew.ensures.items ∙ both) c.cut_anew.ensures.length parting.4 parting.0 parting.1 parting.2 parting.3 in
    record {
      joined = subst (λ k. HasBecome R 16 0 (xs ++ ys) k (Some (c.in-Some.separator, branch_of c.cut_anew.new.upper.items c.right.inside.separators.items c.right.inside.kids.items))) (sym lower)
          (subst (λ k. HasBecome R 16 0 (xs ++ ys) (branch_of c.cut_anew.new.lower.items [] []) (Some (c.in-Some.separator, k))) (sym upper) two);
    }
