use Rattle.std.proofs.Common.{sym, ap, ◌∙◌, not, ◌≡◌, true, false}
use Rattle.std.specs.Prelude.{◌&&◌}
use Rattle.collation.specs.Database.{is_under}
use Rattle.collation.specs.Order.{ref_eq}
use Rattle.globals.specs.laws.Telling.{below_so}
use Rattle.globals.proofs.levels.is_below.Goals as goal

pub returns-then-is_under : goal.returns-then-is_under
returns-then-is_under c =
    let under : is_under c.args.root.now c.args.key.now ≡ true = sym c.is_under.ensures ∙ c.if-is_under.true in
    c.ne.ensures ∙ ap (λ b. b && not (ref_eq c.args.root.now c.args.key.now)) (sym under) ∙ sym (below_so c.args.root.now c.args.key.now)

pub returns-else-is_under : goal.returns-else-is_under
returns-else-is_under c =
    let under : is_under c.args.root.now c.args.key.now ≡ false = sym c.is_under.ensures ∙ c.if-is_under.false in
    c.is_under.ensures ∙ under ∙ ap (λ b. b && not (ref_eq c.args.root.now c.args.key.now)) (sym under) ∙ sym (below_so c.args.root.now c.args.key.now)
