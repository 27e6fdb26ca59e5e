use Rattle.std.proofs.Common.{◌≡◌, drop}
use Rattle.lock_trie.specs.Holders.{has_other}
use Rattle.lock_trie.proofs.several.Several.has_other.Given as goal

abbrev pub invariant-loop-holder : goal.invariant-loop-holder
invariant-loop-holder l = has_other (drop l.holder-index l.holder-items) l.job ≡ has_other l.self l.job
