use Rattle.std.proofs.Common.{◌≡◌, ◌+◌, ◌∷◌, Some, true, false, drop, ap, sym, ◌∙◌, arith, rules}
use Rattle.std.proofs.lemmas.List.{at_drop_more}
use Rattle.steady_map.specs.Shown.{shown}
use Rattle.globals.specs.Cuts.{stands_within}
use Rattle.version_store.proofs.SeekLemmas.{shown_step, none_beyond, seen_on, one_more, filled_by_all, filled_by_most}
use Rattle.version_store.proofs.seek.gather_row.Goals as goal

pub returns-then-not-stands_within-clause-filled : goal.returns-then-not-stands_within-clause-filled
returns-then-not-stands_within-clause-filled c =
    let later = drop (c.loop-key.key-index + 1) c.args.row.now in
    let steps : drop c.loop-key.key-index c.args.row.now ≡ c.loop-key-item.result ∷ later =
    at_drop_more (λ ps. ps) c.args.row.now c.loop-key.key-index c.loop-key-item.result c.loop-key-test.true ∙ ap (λ p. p ∷ later) (sym c.loop-key-item.is) in
    let held : c.loop-key-item.result.1 ≡ Some c.in-Some.id = search rules in
    let here = shown_step (drop c.loop-key.key-index c.args.row.now) later c.loop-key-item.result c.in-Some.id steps held in
    let out : stands_within c.args.end c.loop-key-item.result.0 ≡ false = sym c.stands_within.ensures ∙ c.if-not-stands_within.true in
    let none = none_beyond c.args.end c.args.chains.now c.args.stamp (shown (drop c.loop-key.key-index c.args.row.now)) (shown later) (c.loop-key-item.result.0, c.in-Some.id) here c.loop-key.invariant.rises out in
    filled_by_all c.args.most _ c.loop-key.run _ c.loop-key.invariant.same none (let few = c.loop-key.invariant.room in omega (arith, few))

pub returns-then-len-most-clause-filled : goal.returns-then-len-most-clause-filled
returns-then-len-most-clause-filled c =
    let later = drop (c.loop-key.key-index + 1) c.args.row.now in
    let steps : drop c.loop-key.key-index c.args.row.now ≡ c.loop-key-item.result ∷ later =
    at_drop_more (λ ps. ps) c.args.row.now c.loop-key.key-index c.loop-key-item.result c.loop-key-test.true ∙ ap (λ p. p ∷ later) (sym c.loop-key-item.is) in
    let held : c.loop-key-item.result.1 ≡ Some c.in-Some.id = search rules in
    let here = shown_step (drop c.loop-key.key-index c.args.row.now) later c.loop-key-item.result c.in-Some.id steps held in
    let in_it : stands_within c.args.end c.loop-key-item.result.0 ≡ true = sym c.stands_within.ensures ∙ c.if-not-stands_within.false in
    let first = seen_on c.args.end c.args.chains.now c.args.stamp (shown (drop c.loop-key.key-index c.args.row.now)) (shown later) (c.loop-key-item.result.0, c.in-Some.id) here in_it in
    let more = one_more _ c.loop-key.run c.push_valued.new.run _ _ _ c.loop-key.invariant.same first c.push_valued.ensures in
    filled_by_most c.args.most _ c.push_valued.new.run _ more (sym c.len.ensures.length ∙ c.if-len-most.true)
