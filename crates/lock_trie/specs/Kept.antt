-- How the holders of a name are kept.
use Rattle.std.specs.Prelude.{ℕ, List}
use Rattle.lock_trie.specs.Holders.{one_of}
use Rattle.lock_trie.specs.declared.holders.Kept.{Kept}
use Rattle.lock_trie.specs.declared.holders.Kept.TheVariants.{One, Many}

-- the jobs that are kept, each with its count
abbrev pub held_by : Kept → List (ℕ × ℕ)
held_by (One job n) = one_of job n
held_by (Many several) = several.value
