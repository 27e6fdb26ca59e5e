use Rattle.std.proofs.Common.{◌≡◌, ◌∷◌, sym, ◌∙◌, rules}
use Rattle.version_store.proofs.RangeLemmas.{range_past}
use Rattle.version_store.proofs.range.newest_left.Goals as goal

pub returns-then-not-stands_before : goal.returns-then-not-stands_before
returns-then-not-stands_before c =
    let steps : c.loop-key.key-iterator ≡ (c.in-Some.key.now, c.in-Some.id.now) ∷ c.next.new.self = search rules in
    range_past c.args.high c.args.chains.now c.loop-key.newest _ _ _ (c.in-Some.key.now, c.in-Some.id.now) steps c.loop-key.invariant.sorted (sym c.stands_before.ensures ∙ c.if-not-stands_before.true) c.loop-key.invariant.same
