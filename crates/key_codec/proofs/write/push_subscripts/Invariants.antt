use Rattle.std.proofs.Common.{◌≡◌, ◌++◌, drop, None}
use Rattle.collation.specs.Faults.{subscripts_fault}
use Rattle.key_codec.specs.Key.{long_form, subscripts_key}
use Rattle.key_codec.proofs.write.push_subscripts.Given as goal

-- with the keys of the subscripts that are left it will be the key; none of these is at fault
abbrev pub invariant-loop-subscript : goal.invariant-loop-subscript
invariant-loop-subscript l =
    (l.key.items ++ subscripts_key long_form (drop l.subscript-index l.subscripts) ≡ l.initial.key.items ++ subscripts_key long_form l.subscripts) × (subscripts_fault (drop l.subscript-index l.subscripts) ≡ None)
