use Rattle.std.proofs.Common.{◌≡◌, ◌∙◌, ◌++◌, ◌-◌, ◌<◌, ◌≤◌, ap, sym, subst, arith, length, get_or}
use Rattle.std.specs.List.{remove_range}
use Rattle.btree.specs.Parts.{IsSure}
use Rattle.std.specs.declared.cmp.Ordering.TheVariants.{Equal}
use Rattle.btree.proofs.Order.{each_at}
use Rattle.btree.proofs.Leaves.{if_ok_on, parts_cut, get_front, get_back}
use Rattle.btree.proofs.Nodes.{leaf_none, leaf_row, leaf_size}
use Rattle.btree.proofs.Ranges.{length_less}
use Rattle.btree.proofs.node.Node.separator_kept.Goals as goal

pub returns-then-first-count-clause-parts : goal.returns-then-first-count-clause-parts
returns-then-first-count-clause-parts g c =
    let R = g.K.Ord.cmp in
    let es = c.self.inside.entries.items in
    let fs = c.right.inside.entries.items in
    let d = c.kept_at.result.now in
    let none = leaf_none c.args.self.now es c.self.inside.separators.items c.self.inside.kids.items c.self.view_is c.requires.leaf in
    let none_right = leaf_none c.args.right.now fs c.right.inside.separators.items c.right.inside.kids.items c.right.view_is c.requires.right_leaf in
    let a = leaf_row R c.args.self.now es c.self.inside.separators.items c.self.inside.kids.items c.self.view_is c.self.invariant.0 none in
    let b = leaf_row R c.args.right.now fs c.right.inside.separators.items c.right.inside.kids.items c.right.view_is c.right.invariant.0 none_right in
    let count = leaf_size R c.args.self.now es c.self.inside.separators.items c.self.inside.kids.items c.self.view_is c.self.invariant.0 none in
    let xs = remove_range c.args.self.now.pairs c.args.lower.first c.args.lower.end in
    let ys = remove_range c.args.right.now.pairs c.args.upper.first c.args.upper.end in
    let size = length_less c.args.self.now.pairs c.args.lower.first c.args.lower.end c.requires.lower_places.0 (omega (arith, c.requires.lower_places.1, count, ap length a)) in
    let here : c.args.first < length xs = omega (arith, size, c.if-first-count.true, c.len.ensures, c.self.inside.entries.ok.0, ap length a) in
    let key = ap (λ e. e.0) ((rw c.deref.ensures.value at c.kept_at.ensures) d ∙ ap (λ zs. get_or (remove_range zs c.args.lower.first c.args.lower.end) c.args.first d) (sym a) ∙ sym (get_front c.args.first xs ys d here)) in
    if_ok_on c.copy_of.result (λ s e. parts_cut R g.met.K.Ord.total c.args.first (xs ++ ys) d s c.requires.in_range c.requires.sorted (subst (λ k. R s k ≡ Equal) key e)) c.copy_of.ensures.tied

pub returns-then-first-count-clause-sure : goal.returns-then-first-count-clause-sure
returns-then-first-count-clause-sure g c =
    let R = g.K.Ord.cmp in
    let es = c.self.inside.entries.items in
    let fs = c.right.inside.entries.items in
    let d = c.kept_at.result.now in
    let none = leaf_none c.args.self.now es c.self.inside.separators.items c.self.inside.kids.items c.self.view_is c.requires.leaf in
    let none_right = leaf_none c.args.right.now fs c.right.inside.separators.items c.right.inside.kids.items c.right.view_is c.requires.right_leaf in
    let a = leaf_row R c.args.self.now es c.self.inside.separators.items c.self.inside.kids.items c.self.view_is c.self.invariant.0 none in
    let b = leaf_row R c.args.right.now fs c.right.inside.separators.items c.right.inside.kids.items c.right.view_is c.right.invariant.0 none_right in
    let count = leaf_size R c.args.self.now es c.self.inside.separators.items c.self.inside.kids.items c.self.view_is c.self.invariant.0 none in
    let xs = remove_range c.args.self.now.pairs c.args.lower.first c.args.lower.end in
    let ys = remove_range c.args.right.now.pairs c.args.upper.first c.args.upper.end in
    let size = length_less c.args.self.now.pairs c.args.lower.first c.args.lower.end c.requires.lower_places.0 (omega (arith, c.requires.lower_places.1, count, ap length a)) in
    let here : c.args.first < length xs = omega (arith, size, c.if-first-count.true, c.len.ensures, c.self.inside.entries.ok.0, ap length a) in
    let key = ap (λ e. e.0) ((rw c.deref.ensures.value at c.kept_at.ensures) d ∙ ap (λ zs. get_or (remove_range zs c.args.lower.first c.args.lower.end) c.args.first d) (sym a) ∙ sym (get_front c.args.first xs ys d here)) in
    λ all. c.copy_of.ensures.sure (subst (λ k. IsSure g.K.Ord.cmp g.K.Clone.is_clone g.K.Clone.is_infallible k) (sym key) (each_at (λ e. IsSure g.K.Ord.cmp g.K.Clone.is_clone g.K.Clone.is_infallible e.0) (xs ++ ys) c.args.first d c.requires.in_range all))

pub returns-else-first-count-clause-parts : goal.returns-else-first-count-clause-parts
returns-else-first-count-clause-parts g c =
    let R = g.K.Ord.cmp in
    let es = c.self.inside.entries.items in
    let fs = c.right.inside.entries.items in
    let d = c.kept_at-else-first-count.result.now in
    let none = leaf_none c.args.self.now es c.self.inside.separators.items c.self.inside.kids.items c.self.view_is c.requires.leaf in
    let none_right = leaf_none c.args.right.now fs c.right.inside.separators.items c.right.inside.kids.items c.right.view_is c.requires.right_leaf in
    let a = leaf_row R c.args.self.now es c.self.inside.separators.items c.self.inside.kids.items c.self.view_is c.self.invariant.0 none in
    let b = leaf_row R c.args.right.now fs c.right.inside.separators.items c.right.inside.kids.items c.right.view_is c.right.invariant.0 none_right in
    let count = leaf_size R c.args.self.now es c.self.inside.separators.items c.self.inside.kids.items c.self.view_is c.self.invariant.0 none in
    let xs = remove_range c.args.self.now.pairs c.args.lower.first c.args.lower.end in
    let ys = remove_range c.args.right.now.pairs c.args.upper.first c.args.upper.end in
    let size = length_less c.args.self.now.pairs c.args.lower.first c.args.lower.end c.requires.lower_places.0 (omega (arith, c.requires.lower_places.1, count, ap length a)) in
    let there : length xs ≤ c.args.first = omega (arith, size, c.if-first-count.false, c.len.ensures, c.self.inside.entries.ok.0, ap length a) in
    let less : c.args.first - (c.len.result - (c.args.lower.end - c.args.lower.first)) ≡ c.args.first - length xs = omega (arith, size, c.len.ensures, c.self.inside.entries.ok.0, ap length a) in
    let key = ap (λ e. e.0) ((rw c.deref-else-first-count.ensures.value at c.kept_at-else-first-count.ensures) d ∙ ap (λ n. get_or (remove_range fs c.args.upper.first c.args.upper.end) n d) less ∙ ap (λ zs. get_or (remove_range zs c.args.upper.first c.args.upper.end) (c.args.first - length xs) d) (sym b) ∙ sym (get_back c.args.first xs ys d there)) in
    if_ok_on c.copy_of-else-first-count.result (λ s e. parts_cut R g.met.K.Ord.total c.args.first (xs ++ ys) d s c.requires.in_range c.requires.sorted (subst (λ k. R s k ≡ Equal) key e)) c.copy_of-else-first-count.ensures.tied

pub returns-else-first-count-clause-sure : goal.returns-else-first-count-clause-sure
returns-else-first-count-clause-sure g c =
    let R = g.K.Ord.cmp in
    let es = c.self.inside.entries.items in
    let fs = c.right.inside.entries.items in
    let d = c.kept_at-else-first-count.result.now in
    let none = leaf_none c.args.self.now es c.self.inside.separators.items c.self.inside.kids.items c.self.view_is c.requires.leaf in
    let none_right = leaf_none c.args.right.now fs c.right.inside.separators.items c.right.inside.kids.items c.right.view_is c.requires.right_leaf in
    let a = leaf_row R c.args.self.now es c.self.inside.separators.items c.self.inside.kids.items c.self.view_is c.self.invariant.0 none in
    let b = leaf_row R c.args.right.now fs c.right.inside.separators.items c.right.inside.kids.items c.right.view_is c.right.invariant.0 none_right in
    let count = leaf_size R c.args.self.now es c.self.inside.separators.items c.self.inside.kids.items c.self.view_is c.self.invariant.0 none in
    let xs = remove_range c.args.self.now.pairs c.args.lower.first c.args.lower.end in
    let ys = remove_range c.args.right.now.pairs c.args.upper.first c.args.upper.end in
    let size = length_less c.args.self.now.pairs c.args.lower.first c.args.lower.end c.requires.lower_places.0 (omega (arith, c.requires.lower_places.1, count, ap length a)) in
    let there : length xs ≤ c.args.first = omega (arith, size, c.if-first-count.false, c.len.ensures, c.self.inside.entries.ok.0, ap length a) in
    let less : c.args.first - (c.len.result - (c.args.lower.end - c.args.lower.first)) ≡ c.args.first - length xs = omega (arith, size, c.len.ensures, c.self.inside.entries.ok.0, ap length a) in
    let key = ap (λ e. e.0) ((rw c.deref-else-first-count.ensures.value at c.kept_at-else-first-count.ensures) d ∙ ap (λ n. get_or (remove_range fs c.args.upper.first c.args.upper.end) n d) less ∙ ap (λ zs. get_or (remove_range zs c.args.upper.first c.args.upper.end) (c.args.first - length xs) d) (sym b) ∙ sym (get_back c.args.first xs ys d there)) in
    λ all. c.copy_of-else-first-count.ensures.sure (subst (λ k. IsSure g.K.Ord.cmp g.K.Clone.is_clone g.K.Clone.is_infallible k) (sym key) (each_at (λ e. IsSure g.K.Ord.cmp g.K.Clone.is_clone g.K.Clone.is_infallible e.0) (xs ++ ys) c.args.first d c.requires.in_range all))
