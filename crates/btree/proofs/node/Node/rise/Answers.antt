use Rattle.std.proofs.Common.{◌≡◌, ◌∙◌, ◌∷◌, ◌++◌, [], inr, ap, sym, subst, arith, length, vec_capacity}
use Rattle.btree.specs.Rows.{IsInner, branch_of}
use Rattle.btree.proofs.Nodes.{risen}
use Rattle.btree.proofs.node.Node.rise.Goals as goal

pub invariant_of-self : goal.invariant_of-self
invariant_of-self g c =
    let bare = ap (λ v. v.items) c.replace-entries.ensures.after ∙ c.new.ensures.items in
    let separators : c.push_reserved.new.self.items ≡ c.args.beside.0 ∷ [] =
    c.push_reserved.ensures.items ∙ ap (λ v. v.items ++ c.args.beside.0 ∷ []) c.replace-lower_separators.ensures.after ∙ ap (λ zs. zs ++ c.args.beside.0 ∷ []) c.requires.spare.empty in
    let lower = ap (λ v. branch_of v.items c.replace-lower_separators.result.items c.replace-lower_kids.result.items) c.replace-entries.ensures.value
    ∙ ap (λ v. branch_of c.self.inside.entries.items v.items c.replace-lower_kids.result.items) c.replace-lower_separators.ensures.value
    ∙ ap (λ v. branch_of c.self.inside.entries.items c.self.inside.separators.items v.items) c.replace-lower_kids.ensures.value ∙ c.self.view_is in
    let first = c.push_reserved-2.ensures.items ∙ ap (λ v. v.items ++ branch_of c.replace-entries.result.items c.replace-lower_separators.result.items c.replace-lower_kids.result.items ∷ []) c.replace-lower_kids.ensures.after
    ∙ ap (λ zs. zs ++ branch_of c.replace-entries.result.items c.replace-lower_separators.result.items c.replace-lower_kids.result.items ∷ []) c.requires.spare.no_kids ∙ ap (λ x. x ∷ []) lower in
    let kids : c.push_reserved-3.new.self.items ≡ c.args.self.now ∷ c.args.beside.1 ∷ [] = c.push_reserved-3.ensures.items ∙ ap (λ zs. zs ++ c.args.beside.1 ∷ []) first in
    let inner = subst (λ zs. IsInner g.K.Ord.cmp zs c.push_reserved-3.new.self.items) (sym separators)
    (subst (IsInner g.K.Ord.cmp (c.args.beside.0 ∷ [])) (sym kids) (risen g.K.Ord.cmp c.args.self.now.height c.args.self.now c.args.beside.1 c.args.beside.0 c.requires.lower c.requires.upper c.requires.parts)) in (
      inr (bare, inner),
      (λ p. absurd (omega (arith, p, ap length bare))),
      λ p. (
        omega (arith, c.push_reserved.ensures.capacity, ap vec_capacity c.replace-lower_separators.ensures.after, c.requires.spare.room),
        omega (arith, c.push_reserved-3.ensures.capacity, c.push_reserved-2.ensures.capacity, ap vec_capacity c.replace-lower_kids.ensures.after, c.requires.spare.kids_room),
      ),
    )
