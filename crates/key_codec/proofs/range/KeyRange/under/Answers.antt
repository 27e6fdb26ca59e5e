use Rattle.std.proofs.Common.{◌≡◌, Some, ◌++◌, ◌∷◌, [], ap, ◌∙◌}
use Rattle.key_codec.specs.Key.{key_of}
use Rattle.key_codec.specs.laws.Range.{range_members}
use Rattle.key_codec.proofs.range.KeyRange.under.Goals as goal

pub returns-clause-members : goal.returns-clause-members
returns-clause-members c =
    let high : c.new.result.high ≡ Some (key_of c.args.reference.now ++ 6 ∷ []) = c.new.ensures.high ∙ ap Some c.in_ok-high.ensures.key in
    range_members c.new.result c.args.reference.now c.in_ok-low.low.items (key_of c.args.reference.now ++ 6 ∷ []) c.in_ok-low.ensures.bounds c.new.ensures.low high
