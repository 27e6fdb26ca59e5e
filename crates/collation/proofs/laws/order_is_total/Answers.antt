use Rattle.collation.specs.laws.Order.{subscript_cmp_total, ref_cmp_total, subscript_cmp-IsAntisymmetric, ref_cmp-IsAntisymmetric}
use Rattle.collation.proofs.laws.order_is_total.Goals as goal

pub returns-clause-subscripts : goal.returns-clause-subscripts
returns-clause-subscripts c = subscript_cmp_total

pub returns-clause-references : goal.returns-clause-references
returns-clause-references c = ref_cmp_total

pub returns-clause-subscript_ties : goal.returns-clause-subscript_ties
returns-clause-subscript_ties c = subscript_cmp-IsAntisymmetric

pub returns-clause-reference_ties : goal.returns-clause-reference_ties
returns-clause-reference_ties c = ref_cmp-IsAntisymmetric
