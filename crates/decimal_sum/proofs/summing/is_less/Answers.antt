use Rattle.std.proofs.lemmas.Bool.{false≢true}
use Rattle.decimal_sum.proofs.Sides.{less_of, other_of}
use Rattle.decimal_sum.proofs.summing.is_less.Goals as goal

pub returns-in-Less-clause-less : goal.returns-in-Less-clause-less
returns-in-Less-clause-less c = λ k h h' _. less_of k c.args.a.now c.args.b.now c.cmp_digits.result c.cmp_digits.ensures c.in-Less.is c.requires.first c.requires.second h h'

pub returns-in_default : goal.returns-in_default
returns-in_default c = record {
  less = λ k h h' e. absurd (false≢true e);
  other = λ k h h' _. other_of k c.args.a.now c.args.b.now c.cmp_digits.result c.cmp_digits.ensures c.in_default.not-Less c.requires.first c.requires.second h h';
}
