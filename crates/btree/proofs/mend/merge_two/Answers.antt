use Rattle.std.proofs.Common.{◌≡◌, ◌<◌, ℕ, zero, suc, refl, length, arith}
use Rattle.btree.proofs.Shapes.{kids_many}
use Rattle.btree.proofs.mend.merge_two.Goals as goal

pub returns-then-len-ne1-clause-many : goal.returns-then-len-ne1-clause-many
returns-then-len-ne1-clause-many g c = λ some.
    let one : length c.args.separators.now.items ≡ 1 → ⊥ = λ e. c.if-len-ne1.true (omega (arith, e, c.len.ensures, c.args.separators.now.ok.0)) in
    kids_many g.K.Ord.cmp c.args.separators.now.items c.args.kids.now.items c.requires.node (more (length c.args.separators.now.items) some one)
  where
    more : (n : ℕ) → 0 < n → (n ≡ 1 → ⊥) → 1 < n
    more zero p f = absurd (omega arith)
    more (suc zero) p f = absurd (f refl)
    more (suc (suc n)) p f = omega arith
