use Rattle.std.proofs.Common.{◌≡◌, true, false, arith}
use Rattle.std.proofs.lemmas.Grind.{common_steps}
use Rattle.canonic_number.specs.Number.{is_canonic, is_zero, fraction_part, magnitude}
use Rattle.canonic_number.proofs.Reading.{numeral_of}
use Rattle.canonic_number.proofs.read.read_numeral.Goals as goal

pub returns-clause-parts : goal.returns-clause-parts
returns-clause-parts c =
    let nonzero : is_zero c.args.text.now ≡ false = grind (arith, common_steps) in
    let is : is_canonic c.args.text.now ≡ true = grind (arith, common_steps) in
    let fraction : c.unwrap_or-fraction.result.now ≡ fraction_part (magnitude c.args.text.now) = grind (arith, common_steps) in
    numeral_of _ _ nonzero is c.split_sign-negative.ensures.sign (grind (arith, common_steps)) fraction
