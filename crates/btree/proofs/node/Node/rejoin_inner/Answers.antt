use Rattle.std.proofs.Common.{◌≡◌, ◌∙◌, ◌++◌, ◌∷◌, ◌+◌, [], suc, ap, sym, arith, length, append_assoc, length-append}
use Rattle.btree.proofs.Nodes.{inner_size}
use Rattle.btree.proofs.Joins.{high_some, one_node, one_become, lower_node, upper_node, two_become, fits_both}
use Rattle.btree.proofs.node.Node.rejoin_inner.Goals as goal

pub invariant_of-self : goal.invariant_of-self
invariant_of-self g c =
    let e = c.append_reserved.ensures.items ∙ ap (λ zs. zs ++ c.right.inside.separators.items) c.push_reserved.ensures.items in
    let f = c.append_reserved-then-count-lt32.ensures.items in
    let fits = fits_both g.K.Ord.cmp g.met.K.Ord.total c.args.self.now c.args.right c.self.inside.entries.items c.self.inside.separators.items c.self.inside.kids.items c.right.inside.entries.items c.right.inside.separators.items c.right.inside.kids.items c.self.view_is c.right.view_is c.self.invariant.0 c.right.invariant.0 c.requires.inner c.requires.lower.level c.args.separator c.requires.parts in
    let n = inner_size g.K.Ord.cmp c.args.self.now c.self.inside.entries.items c.self.inside.separators.items c.self.inside.kids.items c.self.view_is c.self.invariant.0 (high_some c.args.self.now c.self.inside.entries.items c.self.inside.separators.items c.self.inside.kids.items c.self.view_is (omega (arith, c.requires.inner, c.requires.lower.level))) in
    let m = inner_size g.K.Ord.cmp c.args.right c.right.inside.entries.items c.right.inside.separators.items c.right.inside.kids.items c.right.view_is c.right.invariant.0 (high_some c.args.right c.right.inside.entries.items c.right.inside.separators.items c.right.inside.kids.items c.right.view_is c.requires.inner) in
    let room = c.self.invariant.2 fits.2 in
    (one_node g.K.Ord.cmp g.met.K.Ord.total c.args.self.now c.args.right c.self.inside.entries.items c.self.inside.separators.items c.self.inside.kids.items c.right.inside.entries.items c.right.inside.separators.items c.right.inside.kids.items c.self.view_is c.right.view_is c.self.invariant.0 c.right.invariant.0 c.requires.inner c.requires.lower.level c.args.separator c.requires.parts c.append_reserved.new.row.items c.append_reserved-then-count-lt32.new.row.items e f, c.self.invariant.1, λ p. (omega (arith, room.0, c.push_reserved.ensures.capacity, c.append_reserved.ensures.capacity), omega (arith, room.1, c.append_reserved-then-count-lt32.ensures.capacity)))

pub returns-then-count-lt32-clause-joined : goal.returns-then-count-lt32-clause-joined
returns-then-count-lt32-clause-joined g c =
    let e = c.append_reserved.ensures.items ∙ ap (λ zs. zs ++ c.right.inside.separators.items) c.push_reserved.ensures.items in
    let f = c.append_reserved-then-count-lt32.ensures.items in
    let fits = fits_both g.K.Ord.cmp g.met.K.Ord.total c.args.self.now c.args.right c.self.inside.entries.items c.self.inside.separators.items c.self.inside.kids.items c.right.inside.entries.items c.right.inside.separators.items c.right.inside.kids.items c.self.view_is c.right.view_is c.self.invariant.0 c.right.invariant.0 c.requires.inner c.requires.lower.level c.args.separator c.requires.parts in
    let n = inner_size g.K.Ord.cmp c.args.self.now c.self.inside.entries.items c.self.inside.separators.items c.self.inside.kids.items c.self.view_is c.self.invariant.0 (high_some c.args.self.now c.self.inside.entries.items c.self.inside.separators.items c.self.inside.kids.items c.self.view_is (omega (arith, c.requires.inner, c.requires.lower.level))) in
    let m = inner_size g.K.Ord.cmp c.args.right c.right.inside.entries.items c.right.inside.separators.items c.right.inside.kids.items c.right.view_is c.right.invariant.0 (high_some c.args.right c.right.inside.entries.items c.right.inside.separators.items c.right.inside.kids.items c.right.view_is c.requires.inner) in
    let size : length c.append_reserved.new.row.items ≡ length c.self.inside.separators.items + 1 + length c.right.inside.separators.items = omega (arith, ap length e, length-append (c.self.inside.separators.items ++ c.args.separator ∷ []) c.right.inside.separators.items, length-append c.self.inside.separators.items (c.args.separator ∷ [])) in
    one_become g.K.Ord.cmp g.met.K.Ord.total c.args.self.now c.args.right c.self.inside.entries.items c.self.inside.separators.items c.self.inside.kids.items c.right.inside.entries.items c.right.inside.separators.items c.right.inside.kids.items c.self.view_is c.right.view_is c.self.invariant.0 c.right.invariant.0 c.requires.inner c.requires.lower.level c.args.separator c.requires.parts c.append_reserved.new.row.items c.append_reserved-then-count-lt32.new.row.items e f (omega (arith, size, n, m, c.requires.enough)) (omega (arith, size))

pub invariant_of-upper : goal.invariant_of-upper
invariant_of-upper g c =
    let e = sym (append_assoc c.take_last-separator.new.self.items (c.take_last-separator.result ∷ []) c.cut_anew.new.upper.items) ∙ ap (λ zs. zs ++ c.cut_anew.new.upper.items) (sym c.take_last-separator.ensures.items) ∙ c.cut_anew.ensures.items
    ∙ ap (λ zs. zs ++ c.right.inside.separators.items) c.push_reserved.ensures.items ∙ append_assoc c.self.inside.separators.items (c.args.separator ∷ []) c.right.inside.separators.items in
    let f = c.cut_anew-2.ensures.items in
    let lower : length c.take_last-separator.new.self.items ≡ c.first-first.result = omega (arith, ap length c.take_last-separator.ensures.items, length-append c.take_last-separator.new.self.items (c.take_last-separator.result ∷ []), c.cut_anew.ensures.length) in
    let upper : length c.take_last-separator.new.self.items + length c.cut_anew.new.upper.items ≡ length c.self.inside.separators.items + length c.right.inside.separators.items = omega (arith, ap length e, length-append c.take_last-separator.new.self.items (c.take_last-separator.result ∷ c.cut_anew.new.upper.items), length-append c.self.inside.separators.items (c.args.separator ∷ c.right.inside.separators.items)) in
    let more : length c.cut_anew-2.new.lower.items ≡ suc (length c.take_last-separator.new.self.items) = omega (arith, lower, c.cut_anew-2.ensures.length) in
    let fits = fits_both g.K.Ord.cmp g.met.K.Ord.total c.args.self.now c.args.right c.self.inside.entries.items c.self.inside.separators.items c.self.inside.kids.items c.right.inside.entries.items c.right.inside.separators.items c.right.inside.kids.items c.self.view_is c.right.view_is c.self.invariant.0 c.right.invariant.0 c.requires.inner c.requires.lower.level c.args.separator c.requires.parts in
    let n = inner_size g.K.Ord.cmp c.args.self.now c.self.inside.entries.items c.self.inside.separators.items c.self.inside.kids.items c.self.view_is c.self.invariant.0 (high_some c.args.self.now c.self.inside.entries.items c.self.inside.separators.items c.self.inside.kids.items c.self.view_is (omega (arith, c.requires.inner, c.requires.lower.level))) in
    let m = inner_size g.K.Ord.cmp c.args.right c.right.inside.entries.items c.right.inside.separators.items c.right.inside.kids.items c.right.view_is c.right.invariant.0 (high_some c.args.right c.right.inside.entries.items c.right.inside.separators.items c.right.inside.kids.items c.right.view_is c.requires.inner) in
    let room = c.right.invariant.2 (omega (arith, fits.1)) in
    (upper_node g.K.Ord.cmp g.met.K.Ord.total c.args.self.now c.args.right c.self.inside.entries.items c.self.inside.separators.items c.self.inside.kids.items c.right.inside.entries.items c.right.inside.separators.items c.right.inside.kids.items c.self.view_is c.right.view_is c.self.invariant.0 c.right.invariant.0 c.requires.inner c.requires.lower.level c.args.separator c.requires.parts c.take_last-separator.new.self.items c.take_last-separator.result c.cut_anew.new.upper.items c.cut_anew-2.new.lower.items c.cut_anew-2.new.upper.items e f more, c.right.invariant.1, λ p. (omega (arith, room.0, c.cut_anew.ensures.capacity.1), omega (arith, room.1, c.cut_anew-2.ensures.capacity.1)))

pub invariant_of-self-2 : goal.invariant_of-self-2
invariant_of-self-2 g c =
    let e = sym (append_assoc c.take_last-separator.new.self.items (c.take_last-separator.result ∷ []) c.cut_anew.new.upper.items) ∙ ap (λ zs. zs ++ c.cut_anew.new.upper.items) (sym c.take_last-separator.ensures.items) ∙ c.cut_anew.ensures.items
    ∙ ap (λ zs. zs ++ c.right.inside.separators.items) c.push_reserved.ensures.items ∙ append_assoc c.self.inside.separators.items (c.args.separator ∷ []) c.right.inside.separators.items in
    let f = c.cut_anew-2.ensures.items in
    let lower : length c.take_last-separator.new.self.items ≡ c.first-first.result = omega (arith, ap length c.take_last-separator.ensures.items, length-append c.take_last-separator.new.self.items (c.take_last-separator.result ∷ []), c.cut_anew.ensures.length) in
    let upper : length c.take_last-separator.new.self.items + length c.cut_anew.new.upper.items ≡ length c.self.inside.separators.items + length c.right.inside.separators.items = omega (arith, ap length e, length-append c.take_last-separator.new.self.items (c.take_last-separator.result ∷ c.cut_anew.new.upper.items), length-append c.self.inside.separators.items (c.args.separator ∷ c.right.inside.separators.items)) in
    let more : length c.cut_anew-2.new.lower.items ≡ suc (length c.take_last-separator.new.self.items) = omega (arith, lower, c.cut_anew-2.ensures.length) in
    let fits = fits_both g.K.Ord.cmp g.met.K.Ord.total c.args.self.now c.args.right c.self.inside.entries.items c.self.inside.separators.items c.self.inside.kids.items c.right.inside.entries.items c.right.inside.separators.items c.right.inside.kids.items c.self.view_is c.right.view_is c.self.invariant.0 c.right.invariant.0 c.requires.inner c.requires.lower.level c.args.separator c.requires.parts in
    let n = inner_size g.K.Ord.cmp c.args.self.now c.self.inside.entries.items c.self.inside.separators.items c.self.inside.kids.items c.self.view_is c.self.invariant.0 (high_some c.args.self.now c.self.inside.entries.items c.self.inside.separators.items c.self.inside.kids.items c.self.view_is (omega (arith, c.requires.inner, c.requires.lower.level))) in
    let m = inner_size g.K.Ord.cmp c.args.right c.right.inside.entries.items c.right.inside.separators.items c.right.inside.kids.items c.right.view_is c.right.invariant.0 (high_some c.args.right c.right.inside.entries.items c.right.inside.separators.items c.right.inside.kids.items c.right.view_is c.requires.inner) in
    let room = c.self.invariant.2 fits.2 in
    (lower_node g.K.Ord.cmp g.met.K.Ord.total c.args.self.now c.args.right c.self.inside.entries.items c.self.inside.separators.items c.self.inside.kids.items c.right.inside.entries.items c.right.inside.separators.items c.right.inside.kids.items c.self.view_is c.right.view_is c.self.invariant.0 c.right.invariant.0 c.requires.inner c.requires.lower.level c.args.separator c.requires.parts c.take_last-separator.new.self.items c.take_last-separator.result c.cut_anew.new.upper.items c.cut_anew-2.new.lower.items c.cut_anew-2.new.upper.items e f more, c.self.invariant.1, λ p. (omega (arith, room.0, c.push_reserved.ensures.capacity, c.cut_anew.ensures.capacity.0, c.take_last-separator.ensures.capacity), omega (arith, room.1, c.cut_anew-2.ensures.capacity.0)))

pub returns-clause-joined : goal.returns-clause-joined
returns-clause-joined g c =
    let e = sym (append_assoc c.take_last-separator.new.self.items (c.take_last-separator.result ∷ []) c.cut_anew.new.upper.items) ∙ ap (λ zs. zs ++ c.cut_anew.new.upper.items) (sym c.take_last-separator.ensures.items) ∙ c.cut_anew.ensures.items
    ∙ ap (λ zs. zs ++ c.right.inside.separators.items) c.push_reserved.ensures.items ∙ append_assoc c.self.inside.separators.items (c.args.separator ∷ []) c.right.inside.separators.items in
    let f = c.cut_anew-2.ensures.items in
    let lower : length c.take_last-separator.new.self.items ≡ c.first-first.result = omega (arith, ap length c.take_last-separator.ensures.items, length-append c.take_last-separator.new.self.items (c.take_last-separator.result ∷ []), c.cut_anew.ensures.length) in
    let upper : length c.take_last-separator.new.self.items + length c.cut_anew.new.upper.items ≡ length c.self.inside.separators.items + length c.right.inside.separators.items = omega (arith, ap length e, length-append c.take_last-separator.new.self.items (c.take_last-separator.result ∷ c.cut_anew.new.upper.items), length-append c.self.inside.separators.items (c.args.separator ∷ c.right.inside.separators.items)) in
    let more : length c.cut_anew-2.new.lower.items ≡ suc (length c.take_last-separator.new.self.items) = omega (arith, lower, c.cut_anew-2.ensures.length) in
    two_become g.K.Ord.cmp g.met.K.Ord.total c.args.self.now c.args.right c.self.inside.entries.items c.self.inside.separators.items c.self.inside.kids.items c.right.inside.entries.items c.right.inside.separators.items c.right.inside.kids.items c.self.view_is c.right.view_is c.self.invariant.0 c.right.invariant.0 c.requires.inner c.requires.lower.level c.args.separator c.requires.parts c.take_last-separator.new.self.items c.take_last-separator.result c.cut_anew.new.upper.items c.cut_anew-2.new.lower.items c.cut_anew-2.new.upper.items e f more (omega (arith, lower, c.first-first.ensures.least)) (omega (arith, lower, c.first-first.ensures.most)) (omega (arith, lower, upper, c.first-first.ensures.second_least)) (omega (arith, lower, upper, c.first-first.ensures.second_most))
