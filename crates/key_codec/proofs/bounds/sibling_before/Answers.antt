use Rattle.std.proofs.Common.{List, ℕ, ◌∷◌, ◌++◌, [], sym, subst}
use Rattle.key_codec.specs.Key.{key_of}
use Rattle.key_codec.specs.Bounds.{AreBounds}
use Rattle.key_codec.specs.laws.Bounds.{are_bounds}
use Rattle.key_codec.proofs.bounds.sibling_before.Goals as goal

pub returns-clause-bounds : goal.returns-clause-bounds
returns-clause-bounds c =
    subst (λ (low : List ℕ). AreBounds c.args.reference.now low (key_of c.args.reference.now ++ 6 ∷ [])) (sym c.in_ok-low.ensures.key) (are_bounds c.args.reference.now c.in_ok-low.ensures.form)
