use Rattle.std.proofs.Common.{◌≡◌, sym, subst, arith}
use Rattle.std.specs.FinMap as finmap
use Rattle.lock_trie.specs.Held.{AreHeld, HasNoShorter}
use Rattle.lock_trie.proofs.Recounting.{entry_added}
use Rattle.lock_trie.proofs.trie.LockTrie.put.Goals as goal

pub invariant_of-self : goal.invariant_of-self
invariant_of-self c = (subst AreHeld (sym c.in_err-insert_by.ensures.refused) c.self.invariant.0, subst (λ m. HasNoShorter m c.self.inside.least) (sym c.in_err-insert_by.ensures.refused) c.self.invariant.1)

pub invariant_of-self-2 : goal.invariant_of-self-2
invariant_of-self-2 c =
    let min_is = c.min-self-inside.ensures in
    let depth_is = c.depth.ensures in
    entry_added c.self.inside.map c.insert_by.new.self c.args.name.now c.args.holders c.self.inside.least c.min-self-inside.result
    (subst (λ k. c.insert_by.new.self ≡ finmap.insert c.self.inside.map k c.args.holders) (sym c.in_ok-key.ensures.cases) c.in_ok-insert_by.ensures.map) c.requires (omega arith) (omega arith) c.self.invariant.0 c.self.invariant.1
