use Rattle.std.proofs.Common.{ap, subst, ◌∙◌}
use Rattle.collation.specs.Levels.{without_last}
use Rattle.key_codec.specs.Key.{IsFaultless, key_of}
use Rattle.key_codec.proofs.Reading.{HasReference, has_reference}
use Rattle.key_codec.proofs.Showing.{closed_parent, cut_key, level_fits, last_shorter}
use Rattle.key_codec.proofs.place.Place.level.Goals as goal

pub last_key-requires : goal.last_key-requires
last_key-requires c =
    let parted = c.in-Some.ensures.some in
    let has : HasReference c.in-Some.field-0-0.now c.in-Some.keys.now c.self.inside.key = has_reference c.as_slice-bytes.result.now c.in-Some.field-0-0.now c.in-Some.keys.now c.self.inside.key c.as_slice-bytes.ensures.form parted.1 parted.0 c.as_slice-bytes.ensures.value in
    record { subscripts = c.self.inside.key.subscripts; form = has.subscripts; keys = has.keys }

pub slice_bounds-result-count : goal.slice_bounds-result-count
slice_bounds-result-count c =
    let parted = c.in-Some.ensures.some in
    let has : HasReference c.in-Some.field-0-0.now c.in-Some.keys.now c.self.inside.key = has_reference c.as_slice-bytes.result.now c.in-Some.field-0-0.now c.in-Some.keys.now c.self.inside.key c.as_slice-bytes.ensures.form parted.1 parted.0 c.as_slice-bytes.ensures.value in
    last_shorter c.as_slice-bytes.result.now c.in-Some.field-0-0.now c.in-Some.keys.now _ c.last_key.result.now parted.1 (c.last_key.ensures c.self.inside.key.subscripts has.subscripts has.keys)

pub returns-clause-value : goal.returns-clause-value
returns-clause-value c =
    let parted = c.in-Some.ensures.some in
    let has : HasReference c.in-Some.field-0-0.now c.in-Some.keys.now c.self.inside.key = has_reference c.as_slice-bytes.result.now c.in-Some.field-0-0.now c.in-Some.keys.now c.self.inside.key c.as_slice-bytes.ensures.form parted.1 parted.0 c.as_slice-bytes.ensures.value in
    cut_key c.as_slice-bytes.result.now c.in-Some.field-0-0.now c.in-Some.keys.now c.last_key.result.now (without_last c.self.inside.key.subscripts) c.self.inside.key parted.1 has (c.last_key.ensures c.self.inside.key.subscripts has.subscripts has.keys)
    ∙ ap key_of (closed_parent c.self.inside.key c.self.inside.is_open c.args.self.now c.self.view_is c.if-self.false)

pub returns-clause-form : goal.returns-clause-form
returns-clause-form c = subst IsFaultless (closed_parent c.self.inside.key c.self.inside.is_open c.args.self.now c.self.view_is c.if-self.false) (level_fits c.self.inside.key c.as_slice-bytes.ensures.form)
