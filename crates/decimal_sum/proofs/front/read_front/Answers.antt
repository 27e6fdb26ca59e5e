use Rattle.std.proofs.Common.{◌∙◌, ap}
use Rattle.canonic_number.specs.Place.{after_zeros, before_zeros}
use Rattle.decimal_sum.specs.Front.{front_digits, past_digits, point_digits}
use Rattle.decimal_sum.proofs.Fronts.{front_of}
use Rattle.decimal_sum.proofs.front.read_front.Goals as goal

pub returns : goal.returns
returns c =
    front_of c.args.text.now _ c.read_signs-negative.ensures.negated
    (c.after_zeros.ensures ∙ ap after_zeros (c.split_digits.ensures.digits ∙ ap front_digits c.read_signs-negative.ensures.rest))
    (c.before_zeros.ensures ∙ ap before_zeros (c.point_digits.ensures ∙ ap point_digits (c.split_digits.ensures.rest ∙ ap past_digits c.read_signs-negative.ensures.rest)))
