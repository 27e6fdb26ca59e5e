use Rattle.std.proofs.Common.{sym, ◌∙◌}
use Rattle.std.specs.Prelude.{not, ◌||◌}
use Rattle.std.specs.FinMap as finmap
use Rattle.collation.specs.Order.{ref_eq}
use Rattle.command.specs.Data.{takes}
use Rattle.workspace.specs.laws.Layering.{kept_alone, kept_below}
use Rattle.workspace.proofs.kills.remove_taken_below.Goals as goal

pub returns-in-All : goal.returns-in-All
returns-in-All c =
    c.remove_below.ensures ∙ (λ i. finmap.retain_keys c.args.killed.now (λ x. ref_eq x c.args.key.now || not (takes (sym c.in-All.is i) c.args.key.now x)))

pub returns-in-Below : goal.returns-in-Below
returns-in-Below c =
    c.remove_below-in-Below.ensures ∙ kept_below c.args.killed.now c.args.key.now
    ∙ (λ i. finmap.retain_keys c.args.killed.now (λ x. ref_eq x c.args.key.now || not (takes (sym c.in-Below.is i) c.args.key.now x)))

pub returns-in-Value : goal.returns-in-Value
returns-in-Value c =
    kept_alone c.args.killed.now c.args.key.now
    ∙ (λ i. finmap.retain_keys c.args.killed.now (λ x. ref_eq x c.args.key.now || not (takes (sym c.in-Value.is i) c.args.key.now x)))
