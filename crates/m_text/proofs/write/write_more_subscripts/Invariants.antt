use Rattle.std.proofs.Common.{◌≡◌, ◌++◌, ◌∷◌}
use Rattle.std.specs.List.{flat_map}
use Rattle.key_codec.specs.Grown.{GoesOnFrom}
use Rattle.m_text.specs.Written.{literal_text}
use Rattle.m_text.proofs.write.write_more_subscripts.Given as goal

-- with what is left it will be the whole
abbrev pub invariant-subscripts : goal.invariant-subscripts
invariant-subscripts l = record {
  steps : goal.iterator-subscripts.can_next l.subscript-iterator × goal.iterator-subscripts.is_finite l.subscript-iterator;
  written : l.out.items ++ flat_map (λ s. 44 ∷ literal_text s) l.subscript-iterator ≡ l.fn.out.items ++ flat_map (λ s. 44 ∷ literal_text s) l.fn.subscripts;
  kept : GoesOnFrom l.fn.out.items l.out.items;
}
