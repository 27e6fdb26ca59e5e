use Rattle.std.proofs.Common.{◌≡◌, ◌++◌, drop}
use Rattle.key_codec.specs.Key.{short_form, subscripts_key, AreSubscriptsWithin}
use Rattle.key_codec.proofs.short.push_short_subscripts.Given as goal

-- with the keys of the subscripts that are left it will be the key; all of these are within the old limit
abbrev pub invariant-loop-subscript : goal.invariant-loop-subscript
invariant-loop-subscript l =
    (l.key.items ++ subscripts_key short_form (drop l.subscript-index l.subscripts) ≡ l.initial.key.items ++ subscripts_key short_form l.subscripts) × AreSubscriptsWithin short_form (drop l.subscript-index l.subscripts)
