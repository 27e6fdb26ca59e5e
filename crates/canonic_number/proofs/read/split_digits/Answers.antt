use Rattle.std.proofs.Common.{◌∙◌, sym, ap, take, drop, ◌+◌}
use Rattle.std.proofs.lemmas.List.{take_rest}
use Rattle.canonic_number.proofs.Points.{point_ends, nothing_ends, other_ends}
use Rattle.canonic_number.proofs.read.split_digits.Goals as goal

pub returns-then-magnitude-end-eq46-clause-digits : goal.returns-then-magnitude-end-eq46-clause-digits
returns-then-magnitude-end-eq46-clause-digits c = sym (point_ends c.args.magnitude.now c.in-Some.end (sym c.digits_end.ensures ∙ c.in-Some.is) c.if-magnitude-end-eq46.true).digits

pub returns-then-magnitude-end-eq46-clause-whole : goal.returns-then-magnitude-end-eq46-clause-whole
returns-then-magnitude-end-eq46-clause-whole c = ap (λ n. take n c.args.magnitude.now) (sym (point_ends c.args.magnitude.now c.in-Some.end (sym c.digits_end.ensures ∙ c.in-Some.is) c.if-magnitude-end-eq46.true).place)

pub returns-then-magnitude-end-eq46-clause-point : goal.returns-then-magnitude-end-eq46-clause-point
returns-then-magnitude-end-eq46-clause-point c = sym (point_ends c.args.magnitude.now c.in-Some.end (sym c.digits_end.ensures ∙ c.in-Some.is) c.if-magnitude-end-eq46.true).point

pub returns-then-magnitude-end-eq46-clause-fraction : goal.returns-then-magnitude-end-eq46-clause-fraction
returns-then-magnitude-end-eq46-clause-fraction c =
    take_rest c.args.magnitude.now (c.in-Some.end + 1) ∙ ap (λ n. drop (n + 1) c.args.magnitude.now) (sym (point_ends c.args.magnitude.now c.in-Some.end (sym c.digits_end.ensures ∙ c.in-Some.is) c.if-magnitude-end-eq46.true).place)

pub returns-else-magnitude-end-eq46-clause-digits : goal.returns-else-magnitude-end-eq46-clause-digits
returns-else-magnitude-end-eq46-clause-digits c = sym (other_ends c.args.magnitude.now c.in-Some.end (sym c.digits_end.ensures ∙ c.in-Some.is) c.if-magnitude-end-eq46.false)

pub returns-in-None-clause-digits : goal.returns-in-None-clause-digits
returns-in-None-clause-digits c = sym (nothing_ends c.args.magnitude.now (sym c.digits_end.ensures ∙ c.in-None.is)).digits

pub returns-in-None-clause-whole : goal.returns-in-None-clause-whole
returns-in-None-clause-whole c = sym (nothing_ends c.args.magnitude.now (sym c.digits_end.ensures ∙ c.in-None.is)).parts.whole

pub returns-in-None-clause-point : goal.returns-in-None-clause-point
returns-in-None-clause-point c = sym (nothing_ends c.args.magnitude.now (sym c.digits_end.ensures ∙ c.in-None.is)).point

pub returns-in-None-clause-fraction : goal.returns-in-None-clause-fraction
returns-in-None-clause-fraction c = (nothing_ends c.args.magnitude.now (sym c.digits_end.ensures ∙ c.in-None.is)).parts.fraction
