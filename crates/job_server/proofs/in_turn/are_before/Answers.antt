use Rattle.std.proofs.Common.{◌≡◌, ◌+◌, ◌∷◌, drop, ap, sym, subst, ◌∙◌}
use Rattle.std.proofs.lemmas.List.{at_drop_more}
use Rattle.job_server.specs.Steps.{AreBefore}
use Rattle.job_server.proofs.in_turn.are_before.Goals as goal

pub passes-preserved : goal.passes-preserved
passes-preserved g c =
    let next = c.passes.pass-index + 1 in
    let steps : drop c.passes.pass-index c.args.passes.now ≡ c.pass-item.result ∷ drop next c.args.passes.now =
    at_drop_more (λ ps. ps) c.args.passes.now c.passes.pass-index c.pass-item.result c.passes-test.true ∙ ap (λ p. p ∷ drop next c.args.passes.now) (sym c.pass-item.is) in
    let ends = c.if-not-ends_by.false in
    λ more. c.passes.invariant (subst (AreBefore c.args.count) (sym steps) (c.ends_by.ensures ends, more))
