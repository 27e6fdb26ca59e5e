use Rattle.std.proofs.Common.{◌≡◌, not, cond, length}
use Rattle.decimal_sum.specs.Front.{is_negated, after_signs}
use Rattle.decimal_sum.proofs.front.read_signs.Given as goal

-- what is left has the same number after its signs, which the signs read negate or don't
abbrev pub invariant-signs : goal.invariant-signs
invariant-signs l = record {
  negated : cond l.negated (not (is_negated l.rest)) (is_negated l.rest) ≡ is_negated l.text;
  rest : after_signs l.rest ≡ after_signs l.text;
}

abbrev pub decreases-signs : goal.decreases-signs
decreases-signs l = length l.rest
