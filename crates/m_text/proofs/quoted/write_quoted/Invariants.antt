use Rattle.std.proofs.Common.{◌≡◌, ◌++◌, ◌∷◌, length}
use Rattle.std.specs.List.{flat_map}
use Rattle.key_codec.specs.Grown.{GoesOnFrom}
use Rattle.m_text.specs.Written.{doubled}
use Rattle.m_text.proofs.quoted.write_quoted.Given as goal

-- what is written, and what the rest will add
abbrev pub invariant-runs : goal.invariant-runs
invariant-runs l = record {
  written : l.out.items ++ flat_map doubled l.rest ≡ l.fn.out.items ++ (34 ∷ flat_map doubled l.text);
  kept : GoesOnFrom l.fn.out.items l.out.items;
}

abbrev pub decreases-runs : goal.decreases-runs
decreases-runs l = length l.rest
