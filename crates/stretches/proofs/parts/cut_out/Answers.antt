use Rattle.std.proofs.Common.{◌≡◌, ℕ, ◌++◌, arith, take, drop, sym, ap, ◌∙◌}
use Rattle.std.proofs.lemmas.List.{take-append-drop}
use Rattle.stretches.proofs.parts.cut_out.Goals as goal

pub returns-else-first-last : goal.returns-else-first-last
returns-else-first-last c =
    let same : c.args.first ≡ c.args.last = omega (arith, c.if-first-last.false, c.requires.order) in
    sym (take-append-drop c.args.first c.args.list.now.items) ∙ ap (λ (n : ℕ). take c.args.first c.args.list.now.items ++ drop n c.args.list.now.items) same
