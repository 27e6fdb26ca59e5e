use Rattle.std.proofs.Common.{◌≡◌, ◌∙◌, ◌++◌, ◌-◌, ap, sym, subst, arith, length, get_or}
use Rattle.btree.specs.Parts.{IsSure}
use Rattle.std.specs.declared.cmp.Ordering.TheVariants.{Equal}
use Rattle.btree.proofs.Order.{each_at}
use Rattle.btree.proofs.Leaves.{if_ok_on, parts_cut, get_front, get_back}
use Rattle.btree.proofs.Nodes.{leaf_none, leaf_row}
use Rattle.btree.proofs.node.Node.separator_at.Goals as goal

pub returns-then-first-count-clause-parts : goal.returns-then-first-count-clause-parts
returns-then-first-count-clause-parts g c =
    let R = g.K.Ord.cmp in
    let es = c.self.inside.entries.items in
    let fs = c.right.inside.entries.items in
    let a = leaf_row R c.args.self.now es c.self.inside.separators.items c.self.inside.kids.items c.self.view_is c.self.invariant.0 (leaf_none c.args.self.now es c.self.inside.separators.items c.self.inside.kids.items c.self.view_is c.requires.leaf) in
    let b = leaf_row R c.args.right.now fs c.right.inside.separators.items c.right.inside.kids.items c.right.view_is c.right.invariant.0 (leaf_none c.args.right.now fs c.right.inside.separators.items c.right.inside.kids.items c.right.view_is c.requires.right_leaf) in
    let key = ap (λ e. e.0) (c.index.ensures ∙ sym (ap (λ xs. get_or xs c.args.first c.index.result.now) a) ∙ sym (get_front c.args.first c.args.self.now.pairs c.args.right.now.pairs c.index.result.now (omega (arith, ap length a)))) in
    if_ok_on c.copy_of.result (λ s e. parts_cut R g.met.K.Ord.total c.args.first (c.args.self.now.pairs ++ c.args.right.now.pairs) c.index.result.now s c.requires.in_range c.requires.sorted (subst (λ k. R s k ≡ Equal) key e)) c.copy_of.ensures.tied

pub returns-then-first-count-clause-sure : goal.returns-then-first-count-clause-sure
returns-then-first-count-clause-sure g c =
    let R = g.K.Ord.cmp in
    let es = c.self.inside.entries.items in
    let fs = c.right.inside.entries.items in
    let a = leaf_row R c.args.self.now es c.self.inside.separators.items c.self.inside.kids.items c.self.view_is c.self.invariant.0 (leaf_none c.args.self.now es c.self.inside.separators.items c.self.inside.kids.items c.self.view_is c.requires.leaf) in
    let b = leaf_row R c.args.right.now fs c.right.inside.separators.items c.right.inside.kids.items c.right.view_is c.right.invariant.0 (leaf_none c.args.right.now fs c.right.inside.separators.items c.right.inside.kids.items c.right.view_is c.requires.right_leaf) in
    let key = ap (λ e. e.0) (c.index.ensures ∙ sym (ap (λ xs. get_or xs c.args.first c.index.result.now) a) ∙ sym (get_front c.args.first c.args.self.now.pairs c.args.right.now.pairs c.index.result.now (omega (arith, ap length a)))) in
    λ all. c.copy_of.ensures.sure (subst (λ k. IsSure g.K.Ord.cmp g.K.Clone.is_clone g.K.Clone.is_infallible k) (sym key) (each_at (λ e. IsSure g.K.Ord.cmp g.K.Clone.is_clone g.K.Clone.is_infallible e.0) (c.args.self.now.pairs ++ c.args.right.now.pairs) c.args.first c.index.result.now c.requires.in_range all))

pub returns-else-first-count-clause-parts : goal.returns-else-first-count-clause-parts
returns-else-first-count-clause-parts g c =
    let R = g.K.Ord.cmp in
    let es = c.self.inside.entries.items in
    let fs = c.right.inside.entries.items in
    let a = leaf_row R c.args.self.now es c.self.inside.separators.items c.self.inside.kids.items c.self.view_is c.self.invariant.0 (leaf_none c.args.self.now es c.self.inside.separators.items c.self.inside.kids.items c.self.view_is c.requires.leaf) in
    let b = leaf_row R c.args.right.now fs c.right.inside.separators.items c.right.inside.kids.items c.right.view_is c.right.invariant.0 (leaf_none c.args.right.now fs c.right.inside.separators.items c.right.inside.kids.items c.right.view_is c.requires.right_leaf) in
    let less : c.args.first - c.len-count.result ≡ c.args.first - length c.args.self.now.pairs = omega (arith, ap length a) in
    let key = ap (λ e. e.0) (c.index-else-first-count.ensures ∙ ap (λ n. get_or fs n c.index-else-first-count.result.now) less ∙ sym (ap (λ xs. get_or xs (c.args.first - length c.args.self.now.pairs) c.index-else-first-count.result.now) b)
    ∙ sym (get_back c.args.first c.args.self.now.pairs c.args.right.now.pairs c.index-else-first-count.result.now (omega (arith, ap length a)))) in
    if_ok_on c.copy_of-else-first-count.result (λ s e. parts_cut R g.met.K.Ord.total c.args.first (c.args.self.now.pairs ++ c.args.right.now.pairs) c.index-else-first-count.result.now s c.requires.in_range c.requires.sorted (subst (λ k. R s k ≡ Equal) key e)) c.copy_of-else-first-count.ensures.tied

pub returns-else-first-count-clause-sure : goal.returns-else-first-count-clause-sure
returns-else-first-count-clause-sure g c =
    let R = g.K.Ord.cmp in
    let es = c.self.inside.entries.items in
    let fs = c.right.inside.entries.items in
    let a = leaf_row R c.args.self.now es c.self.inside.separators.items c.self.inside.kids.items c.self.view_is c.self.invariant.0 (leaf_none c.args.self.now es c.self.inside.separators.items c.self.inside.kids.items c.self.view_is c.requires.leaf) in
    let b = leaf_row R c.args.right.now fs c.right.inside.separators.items c.right.inside.kids.items c.right.view_is c.right.invariant.0 (leaf_none c.args.right.now fs c.right.inside.separators.items c.right.inside.kids.items c.right.view_is c.requires.right_leaf) in
    let less : c.args.first - c.len-count.result ≡ c.args.first - length c.args.self.now.pairs = omega (arith, ap length a) in
    let key = ap (λ e. e.0) (c.index-else-first-count.ensures ∙ ap (λ n. get_or fs n c.index-else-first-count.result.now) less ∙ sym (ap (λ xs. get_or xs (c.args.first - length c.args.self.now.pairs) c.index-else-first-count.result.now) b)
    ∙ sym (get_back c.args.first c.args.self.now.pairs c.args.right.now.pairs c.index-else-first-count.result.now (omega (arith, ap length a)))) in
    λ all. c.copy_of-else-first-count.ensures.sure (subst (λ k. IsSure g.K.Ord.cmp g.K.Clone.is_clone g.K.Clone.is_infallible k) (sym key) (each_at (λ e. IsSure g.K.Ord.cmp g.K.Clone.is_clone g.K.Clone.is_infallible e.0) (c.args.self.now.pairs ++ c.args.right.now.pairs) c.args.first c.index-else-first-count.result.now c.requires.in_range all))
