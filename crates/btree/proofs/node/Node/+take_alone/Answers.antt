use Rattle.std.proofs.Common.{◌≡◌, ◌≤◌, ◌++◌, ◌∙◌, suc, List, ap, sym, subst, arith, rules, length, slice_set, get_or, None}
use Rattle.std.specs.Prelude.{min, IfSome}
use Rattle.std.specs.Vec.{vec_len}
use Rattle.std.proofs.lemmas.List.{length-set}
use borrow.Author.Tests.{eqb-false}
use Rattle.btree.specs.Alone.{IsTakenAlone}
use Rattle.btree.specs.Order.{Ascends}
use Rattle.btree.specs.Branch.{Branch}
use Rattle.btree.specs.Parts.{flat}
use Rattle.btree.specs.Rows.{IsKid}
use Rattle.btree.proofs.Alone.{inner_left, height_left, flat_left, node_left}
use Rattle.btree.proofs.Nodes.{bare, inner, inner_low, inner_rises, inner_level, inner_kid_at, inner_node, inner_pairs, kid_ascends}
use Rattle.btree.proofs.node.Node.+take_alone.Goals as goal

pub kid_of-at-requires : goal.kid_of-at-requires
kid_of-at-requires g t c =
    let some_len : vec_len c.self.inside.kids ≡ 0 → ⊥ = eqb-false (vec_len c.self.inside.kids) 0 (sym c.is_empty.ensures ∙ c.if-is_empty.false) in
    let some : length c.self.inside.kids.items ≡ 0 → ⊥ = λ e. some_len (c.self.inside.kids.ok.0 ∙ e) in
    rw c.deref.ensures.value (inner_rises g.K.Ord.cmp c.args.self.now c.self.inside.entries.items c.self.inside.separators.items c.self.inside.kids.items c.self.view_is c.self.invariant.0 some)

pub take_alone-requires : goal.take_alone-requires
take_alone-requires g t c κs within =
    let some_len : vec_len c.self.inside.kids ≡ 0 → ⊥ = eqb-false (vec_len c.self.inside.kids) 0 (sym c.is_empty.ensures ∙ c.if-is_empty.false) in
    let some : length c.self.inside.kids.items ≡ 0 → ⊥ = λ e. some_len (c.self.inside.kids.ok.0 ∙ e) in
    let at = c.kid_of-at.result in
    let in_range = rw c.deref.ensures.value at c.kid_of-at.ensures.in_range in
    let lo = rw c.deref.ensures.value at c.kid_of-at.ensures.from in
    let hi = rw c.deref.ensures.value at c.kid_of-at.ensures.under in
    let low = inner_low g.K.Ord.cmp c.args.self.now c.self.inside.entries.items c.self.inside.separators.items c.self.inside.kids.items c.self.view_is c.self.invariant.0 some at in_range in
    let kid = inner_kid_at g.K.Ord.cmp c.args.self.now c.self.inside.entries.items c.self.inside.separators.items c.self.inside.kids.items c.self.view_is c.self.invariant.0 some at c.index_mut.result.now low in
    let sorted : Ascends g.K.Ord.cmp c.index_mut.result.now.pairs = subst (λ b. Ascends g.K.Ord.cmp b.pairs) (sym c.index_mut.ensures.value) (kid_ascends g.K.Ord.cmp c.args.self.now c.self.inside.entries.items c.self.inside.separators.items c.self.inside.kids.items c.self.view_is c.self.invariant.0 some g.met.K.Ord.total at c.index_mut.result.now low c.requires.sorted) in
    let most : c.index_mut.result.now.count ≤ 32 = subst (λ b. b.count ≤ 32) (sym c.index_mut.ensures.value) kid.most in
    let level : suc c.index_mut.result.now.height ≡ c.args.self.now.height = ap (λ b. suc b.height) c.index_mut.ensures.value ∙ inner_level g.K.Ord.cmp c.args.self.now c.self.inside.entries.items c.self.inside.separators.items c.self.inside.kids.items c.self.view_is c.self.invariant.0 some at c.index_mut.result.now low in
    search rules

pub invariant_of-self-2 : goal.invariant_of-self-2
invariant_of-self-2 g t c =
    let some_len : vec_len c.self.inside.kids ≡ 0 → ⊥ = eqb-false (vec_len c.self.inside.kids) 0 (sym c.is_empty.ensures ∙ c.if-is_empty.false) in
    let some : length c.self.inside.kids.items ≡ 0 → ⊥ = λ e. some_len (c.self.inside.kids.ok.0 ∙ e) in
    let at = c.kid_of-at.result in
    let in_range = rw c.deref.ensures.value at c.kid_of-at.ensures.in_range in
    let lo = rw c.deref.ensures.value at c.kid_of-at.ensures.from in
    let hi = rw c.deref.ensures.value at c.kid_of-at.ensures.under in
    let low = inner_low g.K.Ord.cmp c.args.self.now c.self.inside.entries.items c.self.inside.separators.items c.self.inside.kids.items c.self.view_is c.self.invariant.0 some at in_range in
    let before = g.P.Point.before c.args.past.now in
    let taken = subst (λ (k : Branch g.row.K.Denot g.row.V.Denot). IfSome c.take_alone.result (λ value. IsTakenAlone g.K.Ord.cmp before c.args.key.now value k.pairs c.take_alone.new.self.pairs)) c.index_mut.ensures.value c.take_alone.ensures.taken in
    let size = subst (λ (k : Branch g.row.K.Denot g.row.V.Denot). IsKid (min 16 k.count) k.height c.take_alone.new.self) c.index_mut.ensures.value c.take_alone.ensures.size in
    let kept : c.take_alone.result ≡ None → c.take_alone.new.self ≡ get_or c.self.inside.kids.items at c.index_mut.result.now = λ e. c.take_alone.ensures.kept e ∙ c.index_mut.ensures.value in
    let s = inner g.K.Ord.cmp c.args.self.now c.self.inside.entries.items c.self.inside.separators.items c.self.inside.kids.items c.self.view_is c.self.invariant.0 some in
    let rows = length-set c.self.inside.kids.items at c.take_alone.new.self in
    (inner_node g.K.Ord.cmp c.args.self.now c.self.inside.entries.items c.self.inside.separators.items c.self.inside.kids.items c.self.view_is c.self.invariant.0 some c.self.inside.separators.items (slice_set c.self.inside.kids.items at c.take_alone.new.self) (inner_left g.K.Ord.cmp before c.args.key.now g.met.K.Ord.total c.self.inside.separators.items c.self.inside.kids.items s at c.index_mut.result.now c.take_alone.new.self in_range low lo hi c.take_alone.result taken size kept), c.self.invariant.1, λ p. c.self.invariant.2 (omega (arith, rows, p)))

pub returns-clause-taken : goal.returns-clause-taken
returns-clause-taken g t c =
    let some_len : vec_len c.self.inside.kids ≡ 0 → ⊥ = eqb-false (vec_len c.self.inside.kids) 0 (sym c.is_empty.ensures ∙ c.if-is_empty.false) in
    let some : length c.self.inside.kids.items ≡ 0 → ⊥ = λ e. some_len (c.self.inside.kids.ok.0 ∙ e) in
    let at = c.kid_of-at.result in
    let in_range = rw c.deref.ensures.value at c.kid_of-at.ensures.in_range in
    let lo = rw c.deref.ensures.value at c.kid_of-at.ensures.from in
    let hi = rw c.deref.ensures.value at c.kid_of-at.ensures.under in
    let low = inner_low g.K.Ord.cmp c.args.self.now c.self.inside.entries.items c.self.inside.separators.items c.self.inside.kids.items c.self.view_is c.self.invariant.0 some at in_range in
    let before = g.P.Point.before c.args.past.now in
    let taken = subst (λ (k : Branch g.row.K.Denot g.row.V.Denot). IfSome c.take_alone.result (λ value. IsTakenAlone g.K.Ord.cmp before c.args.key.now value k.pairs c.take_alone.new.self.pairs)) c.index_mut.ensures.value c.take_alone.ensures.taken in
    let size = subst (λ (k : Branch g.row.K.Denot g.row.V.Denot). IsKid (min 16 k.count) k.height c.take_alone.new.self) c.index_mut.ensures.value c.take_alone.ensures.size in
    let kept : c.take_alone.result ≡ None → c.take_alone.new.self ≡ get_or c.self.inside.kids.items at c.index_mut.result.now = λ e. c.take_alone.ensures.kept e ∙ c.index_mut.ensures.value in
    let s = inner g.K.Ord.cmp c.args.self.now c.self.inside.entries.items c.self.inside.separators.items c.self.inside.kids.items c.self.view_is c.self.invariant.0 some in
    let kids = slice_set c.self.inside.kids.items at c.take_alone.new.self in
    subst (λ (zs : List (g.row.K.Denot × g.row.V.Denot)). IfSome c.take_alone.result (λ value. IsTakenAlone g.K.Ord.cmp before c.args.key.now value zs (c.self.inside.entries.items ++ flat kids))) (sym (inner_pairs g.K.Ord.cmp c.args.self.now c.self.inside.entries.items c.self.inside.separators.items c.self.inside.kids.items c.self.view_is c.self.invariant.0 some))
    (subst (λ (zs : List (g.row.K.Denot × g.row.V.Denot)). IfSome c.take_alone.result (λ value. IsTakenAlone g.K.Ord.cmp before c.args.key.now value (flat c.self.inside.kids.items) zs)) (sym (ap (λ zs. zs ++ flat kids) (bare g.K.Ord.cmp c.args.self.now c.self.inside.entries.items c.self.inside.separators.items c.self.inside.kids.items c.self.view_is c.self.invariant.0 some))) (flat_left g.K.Ord.cmp before c.args.key.now g.met.K.Ord.total c.self.inside.separators.items c.self.inside.kids.items s at c.index_mut.result.now c.take_alone.new.self in_range low lo hi c.take_alone.result taken size kept))

pub returns-clause-size : goal.returns-clause-size
returns-clause-size g t c =
    let some_len : vec_len c.self.inside.kids ≡ 0 → ⊥ = eqb-false (vec_len c.self.inside.kids) 0 (sym c.is_empty.ensures ∙ c.if-is_empty.false) in
    let some : length c.self.inside.kids.items ≡ 0 → ⊥ = λ e. some_len (c.self.inside.kids.ok.0 ∙ e) in
    let at = c.kid_of-at.result in
    let in_range = rw c.deref.ensures.value at c.kid_of-at.ensures.in_range in
    let lo = rw c.deref.ensures.value at c.kid_of-at.ensures.from in
    let hi = rw c.deref.ensures.value at c.kid_of-at.ensures.under in
    let low = inner_low g.K.Ord.cmp c.args.self.now c.self.inside.entries.items c.self.inside.separators.items c.self.inside.kids.items c.self.view_is c.self.invariant.0 some at in_range in
    let before = g.P.Point.before c.args.past.now in
    let taken = subst (λ (k : Branch g.row.K.Denot g.row.V.Denot). IfSome c.take_alone.result (λ value. IsTakenAlone g.K.Ord.cmp before c.args.key.now value k.pairs c.take_alone.new.self.pairs)) c.index_mut.ensures.value c.take_alone.ensures.taken in
    let size = subst (λ (k : Branch g.row.K.Denot g.row.V.Denot). IsKid (min 16 k.count) k.height c.take_alone.new.self) c.index_mut.ensures.value c.take_alone.ensures.size in
    let kept : c.take_alone.result ≡ None → c.take_alone.new.self ≡ get_or c.self.inside.kids.items at c.index_mut.result.now = λ e. c.take_alone.ensures.kept e ∙ c.index_mut.ensures.value in
    let s = inner g.K.Ord.cmp c.args.self.now c.self.inside.entries.items c.self.inside.separators.items c.self.inside.kids.items c.self.view_is c.self.invariant.0 some in
    node_left g.K.Ord.cmp c.args.self.now c.self.inside.entries.items c.self.inside.separators.items c.self.inside.kids.items c.self.view_is c.self.invariant.0 some (slice_set c.self.inside.kids.items at c.take_alone.new.self) c.requires.most (inner_left g.K.Ord.cmp before c.args.key.now g.met.K.Ord.total c.self.inside.separators.items c.self.inside.kids.items s at c.index_mut.result.now c.take_alone.new.self in_range low lo hi c.take_alone.result taken size kept) (height_left g.K.Ord.cmp before c.args.key.now g.met.K.Ord.total c.self.inside.separators.items c.self.inside.kids.items s at c.index_mut.result.now c.take_alone.new.self in_range low lo hi c.take_alone.result taken size kept)
