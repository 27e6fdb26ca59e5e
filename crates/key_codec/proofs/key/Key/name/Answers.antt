use Rattle.key_codec.proofs.Reading.{HasReference, has_reference}
use Rattle.key_codec.proofs.key.Key.name.Goals as goal

pub returns-clause-form : goal.returns-clause-form
returns-clause-form c = c.as_slice.ensures.form.name

pub returns-clause-value : goal.returns-clause-value
returns-clause-value c =
    let parted = c.in-Some.ensures.some in
    let has : HasReference c.in-Some.name.now c.in-Some.field-0-1.now c.args.self.now = has_reference c.as_slice.result.now c.in-Some.name.now c.in-Some.field-0-1.now c.args.self.now c.as_slice.ensures.form parted.1 parted.0 c.as_slice.ensures.value in
    has.name
