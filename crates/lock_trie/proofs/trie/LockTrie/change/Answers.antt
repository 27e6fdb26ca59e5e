use Rattle.std.proofs.Common.{sym, subst}
use Rattle.std.specs.Prelude.{IsSome}
use Rattle.std.specs.FinMap as finmap
use Rattle.lock_trie.proofs.Recounting.{replaced, entry_put}
use Rattle.lock_trie.proofs.trie.LockTrie.change.Goals as goal

pub invariant_of-self : goal.invariant_of-self
invariant_of-self c =
    let there = subst (λ m. IsSome (finmap.get m c.args.name.now)) (sym c.self.view_is) c.requires.there in
    let is = replaced c.replace.result c.self.inside.map c.replace.new.self c.args.name.now c.args.holders there c.replace.ensures.map c.replace.ensures.missed in
    entry_put c.self.inside.map c.replace.new.self c.args.name.now c.args.holders c.self.inside.least is c.requires.held there c.self.invariant.0 c.self.invariant.1
