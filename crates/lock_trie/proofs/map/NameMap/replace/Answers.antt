use Rattle.std.proofs.Common.{◌≡◌, Some, None, IfOk, OnErr, sym, ap, subst, ◌∙◌}
use Rattle.std.specs.FinMap as finmap
use Rattle.lock_trie.proofs.Pairs.{map_get, map_replaced, sorted_replaced}
use Rattle.lock_trie.proofs.map.NameMap.replace.Goals as goal

pub invariant_of-self : goal.invariant_of-self
invariant_of-self g c =
    sorted_replaced c.replace.result c.self.inside.tree c.replace.new.self c.args.name.now c.args.value c.self.invariant c.replace.ensures.put c.replace.ensures.kept

pub returns-clause-before : goal.returns-clause-before
returns-clause-before g c =
    let is = sym (map_get c.self.inside.tree.pairs c.args.name.now c.self.invariant) ∙ ap (λ m. finmap.get m c.args.name.now) c.self.view_is in
    subst (λ o. IfOk c.replace.result (λ before. o ≡ Some before)) is c.replace.ensures.before

pub returns-clause-map : goal.returns-clause-map
returns-clause-map g c =
    subst (λ m. IfOk c.replace.result (λ _. finmap.from_sorted c.replace.new.self.pairs ≡ finmap.insert m c.args.name.now c.args.value)) c.self.view_is
    (map_replaced c.replace.result c.self.inside.tree.pairs c.replace.new.self.pairs c.args.name.now c.args.value c.self.invariant c.replace.ensures.put)

pub returns-clause-missed : goal.returns-clause-missed
returns-clause-missed g c =
    let is = sym (map_get c.self.inside.tree.pairs c.args.name.now c.self.invariant) ∙ ap (λ m. finmap.get m c.args.name.now) c.self.view_is in
    subst (λ o. OnErr c.replace.result (o ≡ None)) is c.replace.ensures.missed
