use Rattle.std.proofs.Common.{◌≡◌, ◌∙◌, sym, ap, [], length, true, false, arith}
use Rattle.std.proofs.lemmas.List.{drop_all}
use Rattle.std.proofs.lemmas.Grind.{common_steps}
use Rattle.canonic_number.specs.Number.{is_canonic, is_zero, fraction_part, whole_part}
use Rattle.canonic_number.proofs.Reading.{numeral_of}
use Rattle.canonic_number.proofs.Wholes.{AreWhole, digits_whole, canonic_whole}
use Rattle.canonic_number.proofs.read.read_whole.Goals as goal

pub returns-clause-parts : goal.returns-clause-parts
returns-clause-parts c =
    let ds = c.args.digits.now in
    let is : AreWhole ds = digits_whole ds c.requires in
    let same = canonic_whole ds c.requires in
    let nonzero : is_zero ds ≡ false = grind (arith, common_steps) in
    let canonic : is_canonic ds ≡ true = grind (arith, common_steps) in
    let none : c.split_at.result.1.now ≡ [] = c.split_at.ensures.back ∙ drop_all (length ds) ds (omega arith) in
    numeral_of ds _ nonzero canonic (sym is.plain.negative) (sym (ap whole_part is.plain.magnitude ∙ is.parts.whole)) (none ∙ sym (ap fraction_part is.plain.magnitude ∙ is.parts.fraction))
