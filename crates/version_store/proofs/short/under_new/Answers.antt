use Rattle.std.proofs.Common.{◌≡◌, ◌∷◌, ◌++◌, ap, sym, ◌∙◌, rules}
use Rattle.version_store.proofs.ShortLemmas.{one_put}
use Rattle.version_store.proofs.short.under_new.Goals as goal

pub loop-key-preserved : goal.loop-key-preserved
loop-key-preserved c =
    let steps : c.loop-key.key-iterator ≡ (c.in-Some.key.now, c.in-Some.id.now) ∷ c.next.new.self = search rules in
    one_put c.loop-key.tree.pairs c.put_under_new.new.tree.pairs c.args.old.now.pairs c.next.new.self c.in-Some.key.now c.in-Some.id.now c.requires
    (ap (λ ps. c.loop-key.tree.pairs ++ ps) (sym steps) ∙ c.loop-key.invariant) c.in_ok-put_under_new.ensures
