use Rattle.std.proofs.Common.{◌∙◌}
use Rattle.key_codec.proofs.Reading.{HasReference, has_reference}
use Rattle.key_codec.proofs.Showing.{all_keys}
use Rattle.key_codec.proofs.key.Key.subscripts.Goals as goal

pub subscripts_of-requires : goal.subscripts_of-requires
subscripts_of-requires c =
    let parted = c.in-Some.ensures.some in
    let has : HasReference c.in-Some.field-0-0.now c.in-Some.keys.now c.args.self.now = has_reference c.as_slice.result.now c.in-Some.field-0-0.now c.in-Some.keys.now c.args.self.now c.as_slice.ensures.form parted.1 parted.0 c.as_slice.ensures.value in
    record { subscripts = c.args.self.now.subscripts; form = has.subscripts; keys = has.keys }

pub returns : goal.returns
returns c =
    let parted = c.in-Some.ensures.some in
    let has : HasReference c.in-Some.field-0-0.now c.in-Some.keys.now c.args.self.now = has_reference c.as_slice.result.now c.in-Some.field-0-0.now c.in-Some.keys.now c.args.self.now c.as_slice.ensures.form parted.1 parted.0 c.as_slice.ensures.value in
    c.subscripts_of.ensures ∙ all_keys c.in-Some.keys.now c.args.self.now.subscripts has.subscripts has.keys
