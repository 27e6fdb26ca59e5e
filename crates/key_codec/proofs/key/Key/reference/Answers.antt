use Rattle.std.proofs.Common.{◌∙◌}
use Rattle.key_codec.specs.laws.Bounds.{equal_keys}
use Rattle.key_codec.proofs.key.Key.reference.Goals as goal

pub returns : goal.returns
returns c =
    let found = rw c.in-Some.is at c.in_ok-reference.ensures.some in
    let form = rw c.in-Some.is at c.in_ok-reference.ensures.form in
    equal_keys c.in-Some.reference c.args.self.now form c.as_slice.ensures.form (found ∙ c.as_slice.ensures.value)
