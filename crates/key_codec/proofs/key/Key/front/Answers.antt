use Rattle.std.specs.Prelude.{take}
use Rattle.key_codec.proofs.Reading.{HasReference, has_reference}
use Rattle.key_codec.proofs.Showing.{cut_key, last_shorter}
use Rattle.key_codec.proofs.Fronts.{front_fits}
use Rattle.key_codec.proofs.key.Key.front.Goals as goal

pub slice_bounds-result-count : goal.slice_bounds-result-count
slice_bounds-result-count c =
    let parted = c.in-Some.ensures.some in
    let has : HasReference c.in-Some.field-0-0.now c.in-Some.keys.now c.args.self.now = has_reference c.as_slice-bytes.result.now c.in-Some.field-0-0.now c.in-Some.keys.now c.args.self.now c.as_slice-bytes.ensures.form parted.1 parted.0 c.as_slice-bytes.ensures.value in
    last_shorter c.as_slice-bytes.result.now c.in-Some.field-0-0.now c.in-Some.keys.now _ c.past_subscripts.result.now parted.1 (c.past_subscripts.ensures c.args.self.now.subscripts has.subscripts has.keys)

pub returns-clause-value : goal.returns-clause-value
returns-clause-value c =
    let parted = c.in-Some.ensures.some in
    let has : HasReference c.in-Some.field-0-0.now c.in-Some.keys.now c.args.self.now = has_reference c.as_slice-bytes.result.now c.in-Some.field-0-0.now c.in-Some.keys.now c.args.self.now c.as_slice-bytes.ensures.form parted.1 parted.0 c.as_slice-bytes.ensures.value in
    cut_key c.as_slice-bytes.result.now c.in-Some.field-0-0.now c.in-Some.keys.now c.past_subscripts.result.now (take c.args.len c.args.self.now.subscripts) c.args.self.now parted.1 has (c.past_subscripts.ensures c.args.self.now.subscripts has.subscripts has.keys)

pub returns-clause-form : goal.returns-clause-form
returns-clause-form c = front_fits c.args.self.now c.args.len c.as_slice-bytes.ensures.form
