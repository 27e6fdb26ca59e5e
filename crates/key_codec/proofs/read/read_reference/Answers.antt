use Rattle.std.proofs.Common.{◌≡◌, ap, sym, ◌∙◌, true, false, None, Some}
use Rattle.collation.specs.Name.{is_name}
use Rattle.collation.specs.Faults.{reference_fault}
use Rattle.key_codec.proofs.Reading.{HasReference, has_reference, same_subscripts}
use Rattle.key_codec.proofs.read.read_reference.Goals as goal

pub returns-in_default-new-clause-none : goal.returns-in_default-new-clause-none
returns-in_default-new-clause-none c = λ x is e.
    let parted = c.in-Some.ensures.some in
    let has : HasReference c.in-Some.front.now c.in-Some.rest.now x = has_reference c.args.bytes.now c.in-Some.front.now c.in-Some.rest.now x is parted.1 parted.0 e in
    let clash : true ≡ false = sym has.is_name ∙ ap is_name (sym c.in_ok-front.ensures.ok) ∙ c.in_default-new.ensures.0 in
    cc

pub returns-in_default-2-clause-none : goal.returns-in_default-2-clause-none
returns-in_default-2-clause-none c = λ x is e.
    let parted = c.in-Some.ensures.some in
    let has : HasReference c.in-Some.front.now c.in-Some.rest.now x = has_reference c.args.bytes.now c.in-Some.front.now c.in-Some.rest.now x is parted.1 parted.0 e in
    let none = rw c.in_default-2.is at c.in_ok-subscripts.ensures.none in
    none x.subscripts has.subscripts has.keys

pub returns-in-Err-clause-none : goal.returns-in-Err-clause-none
returns-in-Err-clause-none c = λ x is e.
    let parted = c.in-Some.ensures.some in
    let has : HasReference c.in-Some.front.now c.in-Some.rest.now x = has_reference c.args.bytes.now c.in-Some.front.now c.in-Some.rest.now x is parted.1 parted.0 e in
    let found = rw c.in-Some-2.is at c.in_ok-subscripts.ensures.some in
    let same = same_subscripts c.in-Some-2.subscripts.items x.subscripts found.0 has.subscripts (sym found.1 ∙ has.keys) in
    let clash : None ≡ Some c.in-Err.field-0 = sym is.subscripts ∙ ap reference_fault (sym same) ∙ c.in-Err.ensures in
    cc
