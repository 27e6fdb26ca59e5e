use Rattle.std.proofs.Common.{◌∙◌, sym, ap, slice_index_or}
use Rattle.vorgushan_c.specs.Several.{asked_keys}
use Rattle.vorgushan_c.specs.declared.several.VgWholeKey.{VgWholeKey}
use Rattle.vorgushan_c.proofs.Asked.{low_too, one_lacks, one_more, one_stays}
use Rattle.vorgushan_c.proofs.several.names_of.Goals as goal

pub returns-in-Ok-false-clause-keys : goal.returns-in-Ok-false-clause-keys
returns-in-Ok-false-clause-keys c =
    let y : VgWholeKey = record { key = c.add_name.new.key; draft = (slice_index_or c.loop-whole.keys c.loop-whole.whole-index c.whole-item.result).draft } in
    one_stays c.loop-whole.keys c.loop-whole.whole-index c.whole-item.result y c.add_name.ensures.key ∙ c.loop-whole.invariant.held

pub returns-in-Ok-false-clause-named : goal.returns-in-Ok-false-clause-named
returns-in-Ok-false-clause-named c =
    ap asked_keys (sym c.loop-whole.invariant.held)
    ∙ one_lacks c.loop-whole.keys c.loop-whole.whole-index c.whole-item.result c.in-Ok-false.field-0 _ _ (low_too c.loop-whole.keys c.args.keys.now _ c.loop-whole.invariant.held c.loop-whole-test.true) c.loop-whole.invariant.so_far c.in-Ok-false.ensures.added c.in-Ok-false.field-0-test

pub returns-in-Err-clause-keys : goal.returns-in-Err-clause-keys
returns-in-Err-clause-keys c =
    let y : VgWholeKey = record { key = c.add_name.new.key; draft = (slice_index_or c.loop-whole.keys c.loop-whole.whole-index c.whole-item.result).draft } in
    one_stays c.loop-whole.keys c.loop-whole.whole-index c.whole-item.result y c.add_name.ensures.key ∙ c.loop-whole.invariant.held

pub loop-whole-preserved : goal.loop-whole-preserved
loop-whole-preserved c =
    let y : VgWholeKey = record { key = c.add_name.new.key; draft = (slice_index_or c.loop-whole.keys c.loop-whole.whole-index c.whole-item.result).draft } in
    record {
      held = one_stays c.loop-whole.keys c.loop-whole.whole-index c.whole-item.result y c.add_name.ensures.key ∙ c.loop-whole.invariant.held;
      so_far = one_more c.loop-whole.keys c.loop-whole.whole-index c.whole-item.result y c.in-Ok-true.field-0 _ _ (low_too c.loop-whole.keys c.args.keys.now _ c.loop-whole.invariant.held c.loop-whole-test.true) c.loop-whole.invariant.so_far c.add_name.ensures.key c.in-Ok-true.ensures.added c.in-Ok-true.field-0-test;
    }
