use Rattle.std.proofs.Common.{◌≡◌, ◌++◌}
use Rattle.version_store.proofs.short.under_new.Given as goal

-- with the pairs that are left these will be all
abbrev pub invariant-loop-key : goal.invariant-loop-key
invariant-loop-key l = l.tree.pairs ++ l.key-iterator ≡ l.old.pairs
