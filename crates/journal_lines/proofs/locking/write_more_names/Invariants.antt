use Rattle.std.proofs.Common.{◌≡◌, ◌++◌, ◌∷◌, take}
use Rattle.std.specs.List.{flat_map}
use Rattle.journal_lines.specs.Steps.{name_text}
use Rattle.journal_lines.proofs.locking.write_more_names.Given as goal

-- the names so far
abbrev pub invariant-names : goal.invariant-names
invariant-names l = l.out.items ≡ l.fn.out.items ++ flat_map (λ n. 44 ∷ name_text n) (take l.name-index l.names)
