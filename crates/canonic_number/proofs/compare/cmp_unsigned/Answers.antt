use Rattle.std.proofs.Common.{◌∙◌}
use Rattle.canonic_number.specs.Number.{scale}
use Rattle.canonic_number.specs.laws.Digits.{magnitudes_cmp}
use Rattle.canonic_number.proofs.compare.cmp_unsigned.Goals as goal

pub returns : goal.returns
returns c = c.cmp_digits.ensures ∙ magnitudes_cmp scale _ _ _ _ c.requires.a_form.digits c.requires.b_form.digits c.requires.a_short c.requires.b_short
