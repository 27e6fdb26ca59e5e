use Rattle.std.proofs.Common.{◌≡◌, ◌∷◌, ◌++◌, [], sym, subst, arith}
use Rattle.std.proofs.lemmas.Grind.{common_steps}
use Rattle.key_codec.specs.Key.{key_of}
use Rattle.key_codec.specs.Bounds.{AreBounds}
use Rattle.key_codec.specs.laws.Bounds.{are_bounds}
use Rattle.key_codec.proofs.bounds.sibling_after.Goals as goal

pub returns-clause-bounds : goal.returns-clause-bounds
returns-clause-bounds c =
    let is : c.push.new.self.items ≡ key_of c.args.reference.now ++ 6 ∷ [] = grind (arith, common_steps) in
    subst (AreBounds c.args.reference.now (key_of c.args.reference.now)) (sym is) (are_bounds c.args.reference.now c.in_ok-high.ensures.form)
