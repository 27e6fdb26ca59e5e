use Rattle.key_codec.specs.laws.Bounds.{compare_as_references, equal_keys, no_subscript_begins, begin_as_references}
use Rattle.key_codec.proofs.laws.keys_are_as_references.Goals as goal

pub returns-clause-order : goal.returns-clause-order
returns-clause-order c = compare_as_references

pub returns-clause-one_reference : goal.returns-clause-one_reference
returns-clause-one_reference c = equal_keys

pub returns-clause-subscripts : goal.returns-clause-subscripts
returns-clause-subscripts c = no_subscript_begins

pub returns-clause-prefix : goal.returns-clause-prefix
returns-clause-prefix c = begin_as_references
