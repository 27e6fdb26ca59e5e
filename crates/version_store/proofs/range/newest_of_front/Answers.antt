use Rattle.std.proofs.Common.{◌≡◌, ◌+◌, ◌∷◌, drop, ap, sym, ◌∙◌}
use Rattle.std.proofs.lemmas.List.{at_drop_more}
use Rattle.version_store.proofs.RowLemmas.{front_past}
use Rattle.version_store.proofs.range.newest_of_front.Goals as goal

pub returns-then-not-stands_before : goal.returns-then-not-stands_before
returns-then-not-stands_before c =
    let steps : drop c.loop-key.key-index c.args.row.now ≡ c.loop-key-item.result ∷ drop (c.loop-key.key-index + 1) c.args.row.now =
    at_drop_more (λ ps. ps) c.args.row.now c.loop-key.key-index c.loop-key-item.result c.loop-key-test.true ∙ ap (λ p. p ∷ drop (c.loop-key.key-index + 1) c.args.row.now) (sym c.loop-key-item.is) in
    front_past c.args.high c.args.chains.now c.loop-key.newest _ _ _ c.loop-key-item.result steps c.loop-key.invariant.sorted (sym c.stands_before.ensures ∙ c.if-not-stands_before.true) c.loop-key.invariant.same
